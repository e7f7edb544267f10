-- The invariant: the pairs have the sort, each, where those that are left have it.
use mathlib.Core.Path.{◌≡◌}
use mathlib.Core.Bool.{false}
use Prim.Native.Nat.{◌-◌}
use lib.ListN.{drop, replicate}
use Rattle.bundle.specs.Lists.{same_list}
use Rattle.scratch.specs.Stack.{halves_of}
use Rattle.pass_terms.proofs.sorts.all_of_sort.Given as goal

abbrev pub invariant-loop-pair : goal.invariant-loop-pair
invariant-loop-pair l =
    same_list (replicate l.count l.sort) (halves_of false l.pairs)
    ≡ same_list (replicate (l.count - l.pair-index) l.sort) (halves_of false (drop l.pair-index l.pairs))
