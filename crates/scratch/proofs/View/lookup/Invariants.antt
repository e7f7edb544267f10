-- The invariant: the lists say of x what is left of them says.
use Prim.Native.Nat.{◌≤◌}
use mathlib.Core.Path.{◌≡◌}
use lib.ListN.{length}
use Rattle.bundle.specs.Links.{items}
use Rattle.logic.specs.Contexts.{lookup}
use Rattle.scratch.proofs.View.lookup.Given as goal

abbrev pub invariant-loop-v : goal.invariant-loop-v
invariant-loop-v l = (l.j ≤ length l.self.links)
    × (lookup (items l.self l.variables) (items l.self l.terms) l.x ≡ lookup l.v-iterator (items l.self l.j) l.x)
