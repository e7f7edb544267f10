-- `sets::both_subsets` meets its contract. The invariant: the first k words of both have no bits but those of the third.
use mathlib.Core.Path.{◌≡◌}
use mathlib.Core.Bool.{true}
use Rattle.sets.specs.Sets.{subset_of}
use Rattle.sets.proofs.both_subsets.Given as goal

abbrev pub invariant-loop-k : goal.invariant-loop-k
invariant-loop-k l =
    (subset_of l.first 0 l.all 0 l.k ≡ true) × (subset_of l.second 0 l.all 0 l.k ≡ true)
