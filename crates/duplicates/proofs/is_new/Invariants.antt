-- `is_new` meets its contract. The invariant: the walk stands at 0 or a lower term, and whatever has the record of term i is on the
-- chain from there. Chains fall, so the measure is where it stands.
use Prim.Native.Nat.{◌-◌}
use lib.ListN.{get_or}
use Rattle.bundle.proofs.Filed.{Sought}
use Rattle.duplicates.proofs.Digests.{same}
use Rattle.duplicates.proofs.is_new.Given as goal

abbrev pub invariant-loop-j : goal.invariant-loop-j
invariant-loop-j l = Sought (λ k. get_or l.next k 0) (l.i - 1) (same l.bundle l.i) l.j 0

abbrev pub decreases-loop-j : goal.decreases-loop-j
decreases-loop-j l = l.j
