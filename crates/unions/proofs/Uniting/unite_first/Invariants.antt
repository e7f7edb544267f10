-- The invariant: the set so far and what is left to add make up the whole.
use Prim.Native.Nat.{◌≤◌}
use lib.ListN.{length}
use Rattle.bundle.specs.Links.{items}
use Rattle.unions.specs.Unions.{Partly}
use Rattle.unions.proofs.Uniting.unite_first.Given as goal

abbrev pub invariant-loop : goal.invariant-loop
invariant-loop l = record {
  link : l.i ≤ length l.self-inside.bundle.now.links;
  part : Partly l.initial.area l.area l.self-inside.n l.self-inside.t l.at (items l.self-inside.bundle.now l.list) (items l.self-inside.bundle.now l.i);
}
