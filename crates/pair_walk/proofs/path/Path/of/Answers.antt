-- `Path::of` meets its contract: no frame, and nothing crossed.
use native.Mathlib.Omega.{arith}
use mathlib.Core.Path.{refl}
use Rattle.pair_walk.specs.Agenda.{frames, crossed_by}
use Rattle.pair_walk.proofs.path.Path.of.Goals as goal

pub invariant_of-result : goal.invariant_of-result
unfolding frames crossed_by
invariant_of-result c =
    let h = c.requires in
    record { long = h.1; high = omega arith; few = h.2; bits = h.3; crossing = record { placed = h.0; deep = refl } }

pub returns : goal.returns
unfolding frames
returns c = refl
