-- `mixed_items` meets its contract.
use Rattle.filing.specs.Filing.{mix_all}
use Rattle.filing.proofs.digests.mixed_items.Goals as goal

pub loop-x-preserved : goal.loop-x-preserved
unfolding mix_all
loop-x-preserved c = rw (c.loop-x.invariant, c.in-Some.ensures.steps, ← c.mixed-sum.ensures)

pub returns : goal.returns
unfolding mix_all
returns c = rw (c.loop-x.invariant, c.in-None.ensures.steps.0)
