-- `Kept::list_all` meets its contract.
use mathlib.Core.Path.{◌∙◌}
use Rattle.bundle.specs.Lists.{has}
use Rattle.names.proofs.Marks.{list_on}
use Rattle.names.proofs.Kept.list_all.Goals as goal

pub loop-x-preserved : goal.loop-x-preserved
loop-x-preserved c y up =
    rw (c.list.ensures y up) (list_on c.args.bundle.now y _ _ _) ∙ (rw c.in-Some.ensures.steps at (c.loop-x.invariant y up))

pub returns : goal.returns
unfolding has
returns c y up = rw c.in-None.ensures.steps.0 at (c.loop-x.invariant y up)
