-- The invariant: after so many turns the sets of so many terms are their free variables, and the next term is to be written.
use Prim.Native.Nat.{◌+◌}
use mathlib.Core.Path.{◌≡◌}
use lib.ListN.{length}
use Rattle.unions.specs.Put.{SetsBelow}
use Rattle.unions.proofs.Unions.{seen}
use Rattle.free_variables.proofs.free_terms.Given as goal

abbrev pub invariant-loop : goal.invariant-loop
invariant-loop l = record {
  long : length l.area ≡ length l.initial.area;
  below : SetsBelow l.area l.n (l.counter + 1) l.fn.bundle;
  next : l.uniting ≡ seen l.fn.bundle l.n (l.counter + 1);
}
