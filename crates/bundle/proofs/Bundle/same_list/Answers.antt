-- `Bundle::same_list` meets its contract.
use borrow.Author.Tests.{eq-eqb, ne_eqb}
use Rattle.bundle.specs.Lists.{same_list}
use Rattle.bundle.proofs.Ended.{ended}
use Rattle.bundle.proofs.Bundle.same_list.Goals as goal

pub returns-in_default : goal.returns-in_default
unfolding same_list
returns-in_default c = rw (c.loop-x.invariant, c.in-Some.ensures.steps, c.in_default.ensures.steps.0)

pub returns-then-x-y : goal.returns-then-x-y
unfolding same_list
returns-then-x-y c = rw (c.loop-x.invariant, c.in-Some.ensures.steps, c.in-Some-next.ensures.steps, ne_eqb _ _ c.if-x-y.true)

pub loop-x-preserved : goal.loop-x-preserved
unfolding same_list
loop-x-preserved c = rw (c.loop-x.invariant, c.in-Some.ensures.steps, c.in-Some-next.ensures.steps, eq-eqb _ _ c.if-x-y.false)

pub returns : goal.returns
returns c = rw (c.loop-x.invariant, c.in-None.ensures.steps.0) (ended _ _ _ _ c.next-2.ensures.steps c.is_none.ensures)
