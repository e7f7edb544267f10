-- The invariant: the marks are those after the terms below t.
use Rattle.std.proofs.Common.{◌≡◌, ℕ, ◌≤◌, ◌-◌}
use Rattle.bundle.specs.Limits.{limits}
use Rattle.names.specs.Marks.{mark_at, mark_of}
use Rattle.names.proofs.Kept.marked.Given as goal

abbrev pub invariant-loop-t : goal.invariant-loop-t
invariant-loop-t l = (x : ℕ) → x ≤ limits.variables → mark_at l.kept x ≡ mark_of l.bundle (l.t - 1) x
