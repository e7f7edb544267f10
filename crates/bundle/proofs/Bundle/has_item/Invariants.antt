-- The invariant: x is in the list where it is in what is left of it.
use mathlib.Core.Path.{◌≡◌}
use Rattle.bundle.specs.Lists.{has}
use Rattle.bundle.specs.Links.{items}
use Rattle.bundle.proofs.Bundle.has_item.Given as goal

abbrev pub invariant-loop-y : goal.invariant-loop-y
invariant-loop-y l = has l.x (items l.self l.list) ≡ has l.x l.y-iterator
