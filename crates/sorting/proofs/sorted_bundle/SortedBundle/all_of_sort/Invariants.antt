-- The invariant: the sorts are the same where those of what is left are.
use Rattle.std.proofs.Common.{◌≡◌, map, replicate, ◌-◌}
use Rattle.bundle.specs.Links.{items}
use Rattle.bundle.specs.Lists.{same_list}
use Rattle.logic.specs.Sorts.{sort_at}
use Rattle.sorting.proofs.sorted_bundle.SortedBundle.all_of_sort.Given as goal

abbrev pub invariant-loop : goal.invariant-loop
invariant-loop l =
    same_list (replicate l.count l.sort) (map (sort_at l.self) (items l.self l.terms))
    ≡ same_list (replicate (l.count - l.counter) l.sort) (map (sort_at l.self) l.rest)
