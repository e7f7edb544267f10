-- The invariant: the list has only numbers where what is left of it has.
use mathlib.Core.Path.{◌≡◌}
use Rattle.bundle.specs.Lists.{numbers, each}
use Rattle.bundle.specs.Links.{items}
use Rattle.bundle.proofs.Bundle.all_numbers.Given as goal

abbrev pub invariant-loop-x : goal.invariant-loop-x
invariant-loop-x l = each (numbers l.n) (items l.self l.list) ≡ each (numbers l.n) l.x-iterator
