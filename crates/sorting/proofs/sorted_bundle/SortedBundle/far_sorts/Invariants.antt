-- `far_sorts` meets its contract. The invariant: the sorts of the two lists are the same where those of what is left of them are; and `OnWay`,
-- for what is noted. The measure is the length of what is left of the first.
use Prim.Native.Nat.{◌≤◌}
use mathlib.Core.Path.{◌≡◌}
use lib.ListN.{length}
use Rattle.bundle.specs.Links.{items}
use Rattle.bundle.specs.Lists.{same_list}
use Rattle.bundle.proofs.LinkNotes.{OnWay}
use Rattle.sorting.specs.Notes.{SortsFit}
use Rattle.sorting.proofs.SortLists.{term_sorts}
use Rattle.sorting.proofs.sorted_bundle.SortedBundle.far_sorts.Given as goal

abbrev pub invariant-loop-i : goal.invariant-loop-i
invariant-loop-i l =
    (l.i ≤ (length l.self.links)) × (l.j ≤ (length l.self.links)) × (length l.fitting ≡ length l.initial.fitting)
    × (same_list (items l.self l.list) (term_sorts l.self l.terms) ≡ same_list (items l.self l.i) (term_sorts l.self l.j))
    × OnWay (SortsFit l.self) l.fitting l.i l.j

abbrev pub decreases-loop-i : goal.decreases-loop-i
decreases-loop-i l = length (items l.self l.i)
