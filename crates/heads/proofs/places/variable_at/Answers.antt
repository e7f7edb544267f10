-- `places::variable_at` meets its contract: by its first lexeme.
use mathlib.Core.Path.{refl, ap}
use Rattle.lexing.specs.Words.{lexeme_in}
use Rattle.heads.proofs.LexemeLaws as L
use Rattle.heads.proofs.places.variable_at.Goals as goal

pub returns-in_default : goal.returns-in_default
returns-in_default c = L.variable_over c.args.variables c.in_default.ensures refl refl

pub returns-in_default-lexeme : goal.returns-in_default-lexeme
returns-in_default-lexeme c =
    L.variable_ends c.args.variables c.in-Some.ensures (L.other_than_opens _ c.in_default-lexeme.not-Opens) refl refl

pub returns : goal.returns
returns c =
    L.variable_goes c.args.variables c.in-Some.ensures (ap lexeme_in c.in-Opens.is) c.named_at-named.ensures c.after_lexeme.ensures c.after_lexeme-2.ensures refl
