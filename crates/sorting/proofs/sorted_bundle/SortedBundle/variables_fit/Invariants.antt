-- The invariant: the sorts of the two lists are the same where those of what is left of them are.
use Rattle.std.proofs.Common.{◌≡◌, map}
use Rattle.bundle.specs.Bundle.{sort_of_variable}
use Rattle.bundle.specs.Links.{items}
use Rattle.bundle.specs.Lists.{same_list}
use Rattle.logic.specs.Sorts.{sort_at}
use Rattle.sorting.proofs.sorted_bundle.SortedBundle.variables_fit.Given as goal

abbrev pub invariant-loop-v : goal.invariant-loop-v
invariant-loop-v l =
    same_list (map (sort_of_variable l.self) (items l.self l.variables)) (map (sort_at l.self) (items l.self l.terms))
    ≡ same_list (map (sort_of_variable l.self) l.v-iterator) (map (sort_at l.self) l.others)
