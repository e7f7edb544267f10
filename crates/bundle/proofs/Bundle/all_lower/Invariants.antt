-- `notes::all_lower` meets its contract. The invariant: the items are 1 to n where what is left of them is. The measure is how many links are left
-- to walk before those that are noted.
use Prim.Native.Nat.{◌≤◌}
use mathlib.Core.Path.{◌≡◌}
use lib.ListN.{length}
use Rattle.bundle.specs.Links.{items}
use Rattle.bundle.specs.Lists.{numbers, each}
use Rattle.bundle.proofs.Bundle.all_lower.Given as goal

abbrev pub invariant-loop-i : goal.invariant-loop-i
invariant-loop-i l = (l.i ≤ length l.self.links)
    × (each (numbers l.n) (items (l.self) l.list) ≡ each (numbers l.n) (items (l.self) l.i))

abbrev pub decreases-loop-i : goal.decreases-loop-i
decreases-loop-i l = l.left
