-- `turns::cross_lists` meets its contract.
use Rattle.pair_walk.proofs.CrossedLists.{along_here, along_on, along_end, along_uneven}
use Rattle.pair_walk.proofs.turns.cross_lists.Goals as goal

pub returns-in_default : goal.returns-in_default
returns-in_default c = along_uneven c.loop-x.invariant c.in-Some.ensures.steps c.in_default.ensures.steps.0

pub cross-requires : goal.cross-requires
cross-requires c = along_here c.loop-x.invariant c.in-Some.ensures.steps c.in-Some-next.ensures.steps

pub loop-x-preserved : goal.loop-x-preserved
loop-x-preserved c = along_on c.loop-x.invariant c.in-Some.ensures.steps c.in-Some-next.ensures.steps c.cross.ensures

pub returns : goal.returns
returns c = along_end c.loop-x.invariant c.in-None.ensures.steps.0
