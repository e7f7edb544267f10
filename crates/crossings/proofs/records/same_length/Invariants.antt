-- The invariant: the two lists are as long as each other where what is left of them is.
use mathlib.Core.Path.{◌≡◌}
use lib.ListN.{length}
use lib.Dec.{eqb}
use Rattle.bundle.specs.Links.{items}
use Rattle.crossings.proofs.records.same_length.Given as goal

abbrev pub invariant-loop : goal.invariant-loop
invariant-loop l = eqb (length (items l.bundle l.first)) (length (items l.bundle l.second)) ≡ eqb (length l.iterator') (length l.others)
