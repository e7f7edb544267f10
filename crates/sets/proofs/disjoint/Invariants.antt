-- `sets::disjoint` meets its contract. The invariant: the first k words of the sets are disjoint.
use mathlib.Core.Path.{◌≡◌}
use mathlib.Core.Bool.{true}
use Rattle.sets.specs.Sets.{disjoint_of}
use Rattle.sets.proofs.disjoint.Given as goal

abbrev pub invariant-loop-k : goal.invariant-loop-k
invariant-loop-k l = disjoint_of l.area l.first l.other l.second l.k ≡ true
