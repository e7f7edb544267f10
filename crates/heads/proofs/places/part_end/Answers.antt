-- `places::part_end` meets its contract.
use Rattle.heads.proofs.LexemeLaws as L
use Rattle.heads.proofs.places.part_end.Goals as goal

pub returns-then-bound : goal.returns-then-bound
returns-then-bound c = rw c.if-bound.true (L.after_part_lem c.after_lexeme.ensures)

pub returns-else-bound : goal.returns-else-bound
returns-else-bound c = rw c.if-bound.false (L.no_part_end c.args.text.now)
