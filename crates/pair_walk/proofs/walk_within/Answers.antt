-- `walk_within` meets its contract: nothing is crossed in arrays of zeros.
use native.Mathlib.Omega.{arith}
use lib.ListN.{length, length-replicate}
use Rattle.crossings.proofs.Places.{places_none}
use Rattle.pair_walk.proofs.walk_within.Goals as goal

pub walk-requires : goal.walk-requires
walk-requires g c =
    let s = c.args.sets.now in
    let h = c.requires in
    let few = rw c.bundle.ensures at c.variables.ensures in (
      h.0,
      h.1,
      places_none (length s.bundle.variables) s.n 512 4 (omega (arith, few)) h.2,
      rw length-replicate (omega (arith, h.3)),
      h.4,
      h.5,
    )
