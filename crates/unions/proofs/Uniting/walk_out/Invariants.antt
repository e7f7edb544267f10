-- `Uniting::walk_out` meets its contract. The invariant: what is known is so.
use Prim.Native.Nat.{◌≤◌}
use mathlib.Core.Path.{◌≡◌}
use lib.ListN.{length}
use Rattle.bundle.specs.Links.{items}
use Rattle.unions.specs.Unions.{Unions}
use Rattle.unions.proofs.Unions.{seen}
use Rattle.unions.proofs.Uniting.walk_out.Given as goal

abbrev pub invariant-loop-self : goal.invariant-loop-self
invariant-loop-self l = record {
  last : l.last ≤ length l.fn.self.bundle.links;
  link : l.i ≤ length l.fn.self.bundle.links;
  same : seen l.self-inside.bundle.now l.self-inside.n l.self-inside.t ≡ l.fn.self;
  unions : Unions l.self-inside.bundle.now l.self-inside.n l.self-inside.t l.self-inside.lists.now l.self-inside.marks.now;
}

abbrev pub decreases-loop-self : goal.decreases-loop-self
decreases-loop-self l = length (items l.self-inside.bundle.now l.i)
