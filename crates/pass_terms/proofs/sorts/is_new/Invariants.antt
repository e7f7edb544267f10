-- The invariant: the number is in a pair where it is in one of those that are left.
use mathlib.Core.Path.{◌≡◌}
use mathlib.Core.Bool.{false}
use lib.ListN.{drop}
use Rattle.bundle.specs.Lists.{has}
use Rattle.scratch.specs.Stack.{halves_of}
use Rattle.pass_terms.proofs.sorts.is_new.Given as goal

abbrev pub invariant-loop-pair : goal.invariant-loop-pair
invariant-loop-pair l = has l.x (halves_of false l.pairs) ≡ has l.x (halves_of false (drop l.pair-index l.pairs))
