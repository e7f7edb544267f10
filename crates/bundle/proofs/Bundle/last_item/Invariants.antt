-- The invariant: the list's last item is that of `last` and what is left.
use mathlib.Core.Path.{◌≡◌}
use mathlib.Core.List.{◌∷◌}
use Rattle.bundle.specs.Lists.{last_of}
use Rattle.bundle.specs.Links.{items}
use Rattle.bundle.proofs.Bundle.last_item.Given as goal

abbrev pub invariant-loop-x : goal.invariant-loop-x
invariant-loop-x l = last_of (items l.self l.list) ≡ last_of (l.last ∷ l.x-iterator)
