-- `Uniting::walk_back` meets its contract. Links before a link are lower, so the measure is the link.
use Prim.Native.Nat.{◌≤◌}
use mathlib.Core.Path.{◌≡◌}
use lib.ListN.{length}
use Rattle.unions.proofs.Uniting.walk_back.Given as goal

abbrev pub invariant-loop-k : goal.invariant-loop-k
invariant-loop-k l = (l.k ≤ length l.self.bundle.links) × (l.self ≡ l.fn.self)

abbrev pub decreases-loop-k : goal.decreases-loop-k
decreases-loop-k l = l.k
