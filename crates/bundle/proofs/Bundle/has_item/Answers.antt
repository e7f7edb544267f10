-- `Bundle::has_item` meets its contract.
use borrow.Author.Tests.{eq-eqb, ne_eqb}
use Rattle.bundle.specs.Lists.{has}
use Rattle.bundle.proofs.Bundle.has_item.Goals as goal

pub returns-then-x-y : goal.returns-then-x-y
unfolding has
returns-then-x-y c = rw (c.loop-y.invariant, c.in-Some.ensures.steps, eq-eqb _ _ c.if-x-y.true)

pub loop-y-preserved : goal.loop-y-preserved
unfolding has
loop-y-preserved c = rw (c.loop-y.invariant, c.in-Some.ensures.steps, ne_eqb _ _ c.if-x-y.false)

pub returns : goal.returns
unfolding has
returns c = rw (c.loop-y.invariant, c.in-None.ensures.steps.0)
