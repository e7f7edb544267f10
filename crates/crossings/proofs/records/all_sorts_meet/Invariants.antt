-- The invariant: the two lists meet where what is left of them does.
use mathlib.Core.Path.{◌≡◌}
use Rattle.bundle.specs.Links.{items}
use Rattle.logic.specs.ReflWalk.{all_sorts_meet}
use Rattle.crossings.proofs.records.all_sorts_meet.Given as goal

abbrev pub invariant-loop-x : goal.invariant-loop-x
invariant-loop-x l = all_sorts_meet l.bundle (items l.bundle l.first) (items l.bundle l.second) ≡ all_sorts_meet l.bundle l.x-iterator l.others
