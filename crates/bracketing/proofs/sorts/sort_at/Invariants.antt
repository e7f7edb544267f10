-- `sorts::sort_at` meets its contract. The invariant: the sort is that of the formula here. The measure is what is left of the text.
use lib.ListN.{length}
use Rattle.bracketing.proofs.SortLaws.{Sorting}
use Rattle.bracketing.proofs.sorts.sort_at.Given as goal

abbrev pub invariant-loop-l : goal.invariant-loop-l
invariant-loop-l l = Sorting l.bundle l.text l.rest

abbrev pub decreases-loop-l : goal.decreases-loop-l
decreases-loop-l l = length l.rest
