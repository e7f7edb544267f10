-- `Bundle::last_item` meets its contract.
use mathlib.Core.Path.{sym}
use Rattle.bundle.specs.Lists.{last_of}
use Rattle.bundle.proofs.ListPlaces.{last_start}
use Rattle.bundle.proofs.Bundle.last_item.Goals as goal

pub loop-x-init : goal.loop-x-init
loop-x-init c = rw (c.into_iter-x-iterator.ensures.into_iter_gives, c.items-x-items.ensures) (sym (last_start _))

pub loop-x-preserved : goal.loop-x-preserved
unfolding last_of
loop-x-preserved c = rw (c.loop-x.invariant, c.in-Some.ensures.steps)

pub returns : goal.returns
unfolding last_of
returns c = rw (c.loop-x.invariant, c.in-None.ensures.steps.0)
