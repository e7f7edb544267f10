-- `lists::all_different` meets its contract. The invariant: the list has no item twice where what is left of it has none.
-- The measure is the length of what is left.
use Prim.Native.Nat.{◌≤◌}
use mathlib.Core.Path.{◌≡◌}
use lib.ListN.{length}
use Rattle.bundle.specs.Links.{items}
use Rattle.bundle.specs.Lists.{different}
use Rattle.bundle.proofs.Bundle.all_different.Given as goal

abbrev pub invariant-loop-i : goal.invariant-loop-i
invariant-loop-i l = (l.i ≤ length l.self.links) × (different (items (l.self) l.list) ≡ different (items (l.self) l.i))

abbrev pub decreases-loop-i : goal.decreases-loop-i
decreases-loop-i l = length (items (l.self) l.i)
