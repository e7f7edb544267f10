-- `words::viable_bytes` meets its contract.
use mathlib.Core.Path.{◌∙◌}
use Rattle.spots.proofs.WordLaws.{viable_none, viable_any, viable_sort}
use Rattle.scanning.proofs.words.viable_bytes.Goals as goal

pub returns-then-growth-eq0 : goal.returns-then-growth-eq0
returns-then-growth-eq0 c =
    viable_none _ _ _ (c.from-growth.ensures ∙ c.cell.ensures) c.if-growth-eq0.true

pub returns-then-growth-eq1 : goal.returns-then-growth-eq1
returns-then-growth-eq1 c =
    viable_any _ _ _ (c.from-growth.ensures ∙ c.cell.ensures) c.if-growth-eq0.false c.if-growth-eq1.true

pub returns : goal.returns
returns c =
    viable_sort _ _ _ (c.from-growth.ensures ∙ c.cell.ensures) c.if-growth-eq0.false c.if-growth-eq1.false _ c.sort_start.ensures
