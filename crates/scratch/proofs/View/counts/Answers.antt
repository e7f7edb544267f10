-- `View::counts` meets its contract: the bundle's counts are those that the scratch keeps.
use Rattle.scratch.proofs.ScratchFields.{own_counts_as}
use Rattle.scratch.proofs.View.counts.Goals as goal

pub returns : goal.returns
returns c = (own_counts_as _ _ c.self.view_is, c.self.invariant.within)
