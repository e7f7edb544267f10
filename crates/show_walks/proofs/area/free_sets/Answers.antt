-- `area::free_sets` meets its contract: there is room, since the counts are within the limits.
use native.Mathlib.Omega.{arith}
use Rattle.bundle.specs.File.{own_counts}
use Rattle.bundle.specs.Limits.{Within}
use Rattle.free_variables.proofs.HeldSets.{free_sets}
use Rattle.show_walks.proofs.area.free_sets.Goals as goal

pub returns : goal.returns
returns c =
    let within : Within (own_counts c.args.bundle.now) = rw c.counts-limits.ensures.0 at c.counts-limits.ensures.1 in
    free_sets c.args.bundle.now 4 _ _ (omega arith) (omega arith) (omega arith) c.free_sets.ensures
