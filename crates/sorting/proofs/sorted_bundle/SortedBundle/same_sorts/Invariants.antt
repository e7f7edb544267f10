-- `same_sorts` meets its contract. The invariant: the sorts of the two lists are the same where those of what is left of them are.
use Prim.Native.Nat.{◌≤◌}
use mathlib.Core.Path.{◌≡◌}
use lib.ListN.{length}
use Rattle.bundle.specs.Links.{items}
use Rattle.bundle.specs.Lists.{same_list}
use Rattle.sorting.proofs.SortLists.{term_sorts}
use Rattle.sorting.proofs.sorted_bundle.SortedBundle.same_sorts.Given as goal

abbrev pub invariant-loop : goal.invariant-loop
invariant-loop l =
    (l.i ≤ (length l.self.links)) × (l.j ≤ (length l.self.links))
    × (same_list (items l.self l.list) (term_sorts l.self l.terms) ≡ same_list (items l.self l.i) (term_sorts l.self l.j))
