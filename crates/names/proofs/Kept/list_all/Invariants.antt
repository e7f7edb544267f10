-- The invariant: what is left of the list over the marks so far is the whole list over the first marks.
use Rattle.std.proofs.Common.{◌≡◌, ℕ, cond, ◌≤◌}
use Rattle.bundle.specs.Links.{items}
use Rattle.bundle.specs.Limits.{limits}
use Rattle.bundle.specs.Lists.{has}
use Rattle.names.specs.declared.Mark.TheVariants.{Renamed}
use Rattle.names.specs.Marks.{mark_at}
use Rattle.names.proofs.Kept.list_all.Given as goal

abbrev pub invariant-loop-x : goal.invariant-loop-x
invariant-loop-x l =
    (y : ℕ) → y ≤ limits.variables → cond (has y l.x-iterator) Renamed (mark_at l.self y) ≡ cond (has y (items l.bundle l.list)) Renamed (mark_at l.initial.self y)
