-- `rules::bind_sides` meets its contract. The invariant: the variables of the first k words are apart from y.
use Prim.Native.Nat.{◌*◌, ◌≤◌}
use mathlib.Core.Path.{◌≡◌}
use lib.ListN.{length}
use Rattle.images.specs.ContextRows.{image_at}
use Rattle.free_variables.specs.TermSets.{free_in}
use Rattle.rules.specs.WordSides.{hit_by}
use Rattle.rules.proofs.BindWords.{Apart}
use Rattle.rules.proofs.rules.bind_sides.Given as goal

abbrev pub invariant-loop-k : goal.invariant-loop-k
invariant-loop-k l =
    (some : l.left ≡ 0 → ⊥) (few : l.left ≤ length l.sets.bundle.terms)
    → Apart l.sets l.left (length l.sets.bundle.variables) (hit_by (free_in l.sets) (image_at (length l.sets.bundle.variables) l.images l.context) l.y)
    some few (64 * l.k)
