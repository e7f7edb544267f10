-- `Bundle::all_numbers` meets its contract.
use Rattle.bundle.specs.Lists.{each}
use Rattle.bundle.proofs.Walks.{numbers_not}
use Rattle.bundle.proofs.Bundle.all_numbers.Goals as goal

pub returns-then-x-n : goal.returns-then-x-n
unfolding each
returns-then-x-n c = rw (c.loop-x.invariant, c.in-Some.ensures.steps, numbers_not, c.if-x-n.true)

pub loop-x-preserved : goal.loop-x-preserved
unfolding each
loop-x-preserved c = rw (c.loop-x.invariant, c.in-Some.ensures.steps, numbers_not, c.if-x-n.false)

pub returns : goal.returns
unfolding each
returns c = rw (c.loop-x.invariant, c.in-None.ensures.steps.0)
