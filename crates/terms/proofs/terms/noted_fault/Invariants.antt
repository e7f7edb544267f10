-- `terms::noted_fault` meets its contract. The invariant: the first bad term of all is the first from term i on, the terms below i are filed, and
-- what is noted holds for them.
use Prim.Native.Nat.{◌-◌}
use mathlib.Core.Path.{◌≡◌}
use lib.ListN.{length}
use Rattle.bundle.specs.LinkNotes.{LowerNoted}
use Rattle.logic.specs.Checks.{term_fault, terms_fault}
use Rattle.logic.proofs.Firsts.{rest_fault}
use Rattle.duplicates.specs.Digests.{EarlierThan}
use Rattle.sorting.specs.Notes.{Fitting}
use Rattle.terms.proofs.terms.noted_fault.Given as goal

abbrev pub invariant-loop-i : goal.invariant-loop-i
invariant-loop-i l =
    (length l.earlier.next ≡ length l.fn.next) × EarlierThan l.sorted l.earlier l.i
    × (terms_fault l.sorted ≡ rest_fault (term_fault l.sorted) (length l.sorted.terms) l.i)
    × LowerNoted l.sorted (l.i - 1) l.lower × Fitting l.sorted l.fitting × (length l.lower ≡ length l.initial.lower) × (length l.fitting ≡ length l.initial.fitting)
