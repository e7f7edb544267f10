-- The invariant: each term of the list is settled where each of what is left is.
use mathlib.Core.Path.{◌≡◌}
use Rattle.bundle.specs.Links.{items}
use Rattle.bundle.specs.Lists.{each}
use Rattle.logic.specs.Contexts.{settled}
use Rattle.contexts.proofs.contexts.all_settled.Given as goal

abbrev pub invariant-loop-t : goal.invariant-loop-t
invariant-loop-t l =
    let b = l.sets.bundle in
    each (settled b l.context) (items b l.terms) ≡ each (settled b l.context) l.t-iterator
