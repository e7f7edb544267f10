-- `walk` meets its contract: three lists in lockstep. The invariant: the whole is what is left, after the links that were read.
use Prim.Native.Nat.{◌+◌, ◌*◌, ◌≤◌}
use mathlib.Core.Path.{◌≡◌}
use lib.ListN.{length}
use Rattle.bundle.specs.Links.{items}
use Rattle.logic.specs.Rules.{walk_by}
use Rattle.images.specs.LentReading.{step_in}
use Rattle.premises.specs.Counted.{after}
use Rattle.premises.proofs.Taken.walk.Given as goal

abbrev pub invariant-loop-i : goal.invariant-loop-i
invariant-loop-i l = record {
  low : (l.i ≤ length l.self.bundle.links) × (l.j ≤ length l.self.bundle.links) × (l.k ≤ length l.self.bundle.links);
  few : l.read ≤ 3 * length l.self.bundle.links;
  counted : (l.i ≡ 0 → ⊥) → l.read + 3 ≤ 3 * l.i;
  whole : walk_by (step_in l.self.bundle l.self.bed) l.body l.context (items l.self.bundle l.lefts) (items l.self.bundle l.rights)
      (items l.self.bundle l.premises)
      ≡ after l.read
      (walk_by (step_in l.self.bundle l.self.bed) l.body l.context (items l.self.bundle l.i) (items l.self.bundle l.j) (items l.self.bundle l.k));
}

abbrev pub decreases-loop-i : goal.decreases-loop-i
decreases-loop-i l = length (items l.self.bundle l.i)
