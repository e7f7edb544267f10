-- The answer for every file and every length of the lent area, and what is left there.
use Rattle.std.specs.Prelude.{ℕ, zero, suc, ◌*◌, cond, List, [], ◌∷◌, length, replicate, eqb, ltb, leb}
use Rattle.bundle.specs.Bundle.{Bundle, step_of}
use Rattle.bundle.specs.Limits.{least_bytes, set_words}
use Rattle.bundle.specs.File.{counts_of, bundle_of}
use Rattle.logic.specs.Tests.{Fault}
use Rattle.logic.specs.Tests.{passed, Test, test, first_failing, fault, or_else, or_next}
use Rattle.logic.specs.Free.{free_area}
use Rattle.logic.specs.Checks.{tables_fault}
use Rattle.logic.specs.Contexts.{contexts_fault}
use Rattle.logic.specs.Rules.{steps_fault, last_pairs}
use Rattle.judgement.specs.declared.Acceptance.{Acceptance}
use Rattle.judgement.specs.Answer.{Answer, Accepted, Refused}

-- The checker is lent 64-bit words, at least so many for each of T terms.
abbrev pub required : List ℕ → ℕ
required f = set_words * (counts_of f).terms

-- what the code computes of it before it knows that the file has a header
unfoldable pub lent_for : List ℕ → ℕ
unfolding counts_of
lent_for f = cond (leb least_bytes (length f)) (required f) 0

-- 15: P is 0, or the last step isn't (context 0, claimed left, claimed right)
abbrev pub claim_tests : Bundle → List Test
claim_tests b =
    test 15 (passed (
    ltb 0 (length b.steps)
    ∷ eqb (step_of b (length b.steps)).context 0
    ∷ eqb (step_of b (length b.steps)).left b.left
    ∷ eqb (step_of b (length b.steps)).right b.right
    ∷ []
    ))
    ∷ []

-- contexts, steps, claim
unfoldable pub late_fault : Bundle → Fault
unfolding contexts_fault steps_fault first_failing passed or_else
late_fault b = or_next (contexts_fault b) (or_next (steps_fault b) (or_else (first_failing (claim_tests b)) 0 (fault 0 0)))

-- the first check that a file fails, where m words are lent; number 0 where it fails none
unfoldable pub fault_of : List ℕ → ℕ → Fault
unfolding tables_fault late_fault or_else bundle_of counts_of
fault_of f m = or_next (tables_fault f m (required f)) (late_fault (bundle_of f))

-- what is said of a file that is accepted: the claim's left and right, and the number of pairs of the last REFL walked, 0 if none was
abbrev pub acceptance : Bundle → Acceptance
acceptance b = record { left = b.left; right = b.right; pairs = last_pairs b (length b.steps) }

-- The answer of a fault, by document 01's number: accepted with what is said of the file, or refused with number and record.
unfoldable pub answer_of : Bundle → ℕ → ℕ → Answer
answer_of b zero i = Accepted (acceptance b)
answer_of b (suc n) i = Refused (suc n) i

-- THE ANSWER to a file f where m words are lent
unfoldable pub judge : List ℕ → ℕ → Answer
unfolding answer_of fault_of bundle_of last_pairs
judge f m = answer_of (bundle_of f) (fault_of f m).number (fault_of f m).«record»

-- What is left in the m words: the free sets and zeros after them, or, where the file is refused, zeros.
unfoldable pub area_for : Bundle → ℕ → ℕ → List ℕ
unfolding free_area
area_for b zero m = free_area b set_words m
area_for b (suc n) m = replicate m 0

unfoldable pub area_after : List ℕ → ℕ → List ℕ
unfolding area_for fault_of bundle_of
area_after f m = area_for (bundle_of f) (fault_of f m).number m
