-- The answer of the reader for all declarations, texts and lengths of the lent areas, and what is left there.
use Rattle.std.specs.Prelude.{ℕ, zero, suc, Bool, List, [], ◌∷◌, length, eqb}
use Rattle.bundle.specs.Bundle.{Bundle}
use Rattle.bundle.specs.File.{bundle_of}
use Rattle.logic.specs.Tests.{Fault}
use Rattle.logic.specs.Tests.{passed, Test, test, first_failing, fault, or_else, or_next}
use Rattle.logic.specs.Checks.{header_fault, links_fault, symbols_fault, variables_fault}
use Rattle.expansion.specs.File.{file_of}
use Rattle.expansion.specs.Expansion.{long_enough, Outcome, writes, refuses}
use Rattle.reading.specs.Reader.{Answer, job, refused, read_text}

-- ---- the declarations: 1, 2, 3, exact length, 4 with the writer's areas; 5 and 6; then 18

-- 18 where T, C, P or a claim word is not 0
abbrev pub is_declarations : Bundle → Bool
is_declarations b =
    passed (
    eqb (length b.terms) 0
    ∷ eqb (length b.contexts) 0
    ∷ eqb (length b.steps) 0
    ∷ eqb b.left 0
    ∷ eqb b.right 0
    ∷ []
    )

abbrev pub last_tests : Bundle → List Test
last_tests b = test 18 (is_declarations b) ∷ []

unfoldable pub declarations_fault : List ℕ → ℕ → ℕ → ℕ → Fault
unfolding header_fault long_enough links_fault symbols_fault variables_fault first_failing passed or_else bundle_of
declarations_fault f out words sets =
    let b : Bundle = bundle_of f in
    or_else (header_fault f (long_enough out words sets) 3) 0
    (or_next (links_fault b) (or_next (symbols_fault b) (or_next (variables_fault b) (or_else (first_failing (last_tests b)) 0 (fault 0 0)))))

-- ---- the answer, and what is left

-- the fault of the declarations, or else the answer to the text
unfoldable pub answer_after : ℕ → ℕ → Answer → Answer
answer_after zero i a = a
answer_after (suc n) i a = refused (suc n) i

unfoldable pub leaves : Answer → ℕ → ℕ → ℕ → Outcome
unfolding file_of
leaves (job j) out words sets = writes j out words sets
leaves (refused n i) out words sets = refuses n i out words sets

-- THE READING of a text beside the declarations f, where the lent areas have these lengths
unfoldable pub reading : List ℕ → List ℕ → ℕ → ℕ → ℕ → Outcome
unfolding leaves answer_after declarations_fault read_text bundle_of
reading f text out words sets =
    let d : Fault = declarations_fault f out words sets in
    leaves (answer_after d.number d.«record» (read_text (bundle_of f) text)) out words sets
