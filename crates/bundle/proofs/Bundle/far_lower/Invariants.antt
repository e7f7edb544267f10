-- `notes::far_lower` meets its contract. The invariant: the items are 1 to n where what is left of them is; and `OnWay`, for what is noted.
-- The measure is the length of what is left.
use Prim.Native.Nat.{◌≤◌}
use mathlib.Core.Path.{◌≡◌}
use lib.ListN.{length}
use Rattle.bundle.specs.Links.{items}
use Rattle.bundle.specs.Lists.{numbers, each}
use Rattle.bundle.specs.LinkNotes.{AllTo}
use Rattle.bundle.proofs.LinkNotes.{OnWay}
use Rattle.bundle.proofs.Bundle.far_lower.Given as goal

abbrev pub invariant-loop-i : goal.invariant-loop-i
invariant-loop-i l =
    (l.i ≤ length l.self.links) × (length l.lower ≡ length l.initial.lower)
    × (each (numbers l.n) (items (l.self) l.start) ≡ each (numbers l.n) (items (l.self) l.i)) × OnWay (AllTo l.self l.n) l.lower 1 l.i

abbrev pub decreases-loop-i : goal.decreases-loop-i
decreases-loop-i l = length (items (l.self) l.i)
