-- `steps::steps_fault_in` meets its contract. The invariant: the first bad step of all is the first from step k on, the marks at links of premises are
-- sound, and the pairs are those of the last REFL walked before step k. What `step_fault` says of the lent memory it says of the bundle, since the memory is
-- right.
use Prim.Native.Nat.{◌-◌, ◌≤◌}
use mathlib.Core.Path.{◌≡◌}
use Rattle.bundle.specs.LinkNotes.{LowerNoted}
use Rattle.logic.specs.Rules.{step_fault, steps_fault, last_pairs}
use Rattle.logic.proofs.Firsts.{rest_fault}
use Rattle.steps.proofs.steps.steps_fault_in.Given as goal

abbrev pub invariant-loop-k : goal.invariant-loop-k
invariant-loop-k l = record {
  some : 1 ≤ l.k;
  rest : steps_fault l.fn.known.sets.bundle ≡ rest_fault (step_fault l.fn.known.sets.bundle) l.steps l.k;
  noted : LowerNoted l.fn.known.sets.bundle (l.k - 1) l.earlier;
  told : l.pairs ≡ last_pairs l.fn.known.sets.bundle (l.k - 1);
}
