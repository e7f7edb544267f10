-- The invariant: the two lists are the same where what is left of them is.
use mathlib.Core.Path.{◌≡◌}
use Rattle.bundle.specs.Lists.{same_list}
use Rattle.bundle.specs.Links.{items}
use Rattle.bundle.proofs.Bundle.same_list.Given as goal

abbrev pub invariant-loop-x : goal.invariant-loop-x
invariant-loop-x l = same_list (items l.self l.first) (items l.self l.second) ≡ same_list l.x-iterator l.others
