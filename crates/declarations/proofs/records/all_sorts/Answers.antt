-- `records::all_sorts` meets its contract.
use Rattle.bundle.specs.Lists.{each}
use Rattle.declarations.proofs.records.all_sorts.Goals as goal

pub returns-then-not-is_sort : goal.returns-then-not-is_sort
unfolding each
returns-then-not-is_sort c = rw (c.loop-s.invariant, c.in-Some.ensures.steps, ← c.is_sort.ensures, c.if-not-is_sort.true)

pub loop-s-preserved : goal.loop-s-preserved
unfolding each
loop-s-preserved c = rw (c.loop-s.invariant, c.in-Some.ensures.steps, ← c.is_sort.ensures, c.if-not-is_sort.false)

pub returns : goal.returns
unfolding each
returns c = rw (c.loop-s.invariant, c.in-None.ensures.steps.0)
