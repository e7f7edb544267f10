-- `places::named_at` meets its contract: by its first lexeme.
use mathlib.Core.Path.{ap}
use Rattle.lexing.specs.Words.{lexeme_in}
use Rattle.heads.proofs.LexemeLaws as L
use Rattle.heads.proofs.places.named_at.Goals as goal

pub returns : goal.returns
returns c =
    L.name_on c.args.variables c.in-Some.ensures c.requires _ (ap lexeme_in c.in-Word.is) c.variable_for.result c.variable_for.ensures
    c.unwrap_or.ensures
