-- `Uniting::unite_new` meets its contract. The invariant: the set so far and what is left to add make up the whole; what is known is so.
use Prim.Native.Nat.{◌≤◌}
use mathlib.Core.Path.{◌≡◌}
use lib.ListN.{length}
use Rattle.bundle.specs.Links.{items}
use Rattle.unions.specs.Unions.{Unions, Partly}
use Rattle.unions.proofs.Unions.{seen}
use Rattle.unions.proofs.Uniting.unite_new.Given as goal

abbrev pub invariant-loop-self : goal.invariant-loop-self
invariant-loop-self l = record {
  link : l.i ≤ length l.fn.self.bundle.links;
  part : Partly l.initial.area l.area l.fn.self.n l.fn.self.t l.at (items l.fn.self.bundle l.start) (items l.fn.self.bundle l.i);
  same : seen l.self-inside.bundle.now l.self-inside.n l.self-inside.t ≡ l.fn.self;
  unions : Unions l.self-inside.bundle.now l.self-inside.n l.self-inside.t l.self-inside.lists.now l.self-inside.marks.now;
}

abbrev pub decreases-loop-self : goal.decreases-loop-self
decreases-loop-self l = length (items l.self-inside.bundle.now l.i)
