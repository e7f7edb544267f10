-- `places::part_at` meets its contract: by its first lexeme.
use mathlib.Core.Path.{refl, ap}
use Rattle.lexing.specs.Words.{lexeme_in}
use Rattle.heads.proofs.LexemeLaws as L
use Rattle.heads.proofs.places.part_at.Goals as goal

pub returns-in_default : goal.returns-in_default
returns-in_default c = L.part_over c.args.variables c.args.bound c.in_default.ensures refl refl

pub returns-in-Closes : goal.returns-in-Closes
returns-in-Closes c = L.part_ends c.args.variables c.in-Some.ensures c.args.bound (ap lexeme_in c.in-Closes.is) refl refl

pub returns-then-bound : goal.returns-then-bound
returns-then-bound c =
    rw c.if-bound.true
    (L.pair_goes c.args.variables c.in-Some.ensures (L.other_than_closes _ c.in_default-lexeme.not-Closes) c.named_at.ensures)

pub returns : goal.returns
returns c =
    rw c.if-bound.false
    (L.argument_goes c.args.variables c.in-Some.ensures (L.other_than_closes _ c.in_default-lexeme.not-Closes) refl refl)
