-- The answer of the writer for every choice of names, every job and all lengths of the lent areas, and what is left there.
use Rattle.std.specs.Prelude.{ℕ, zero, suc, ◌+◌, ◌-◌, ◌*◌, Bool, cond, not, List, [], ◌∷◌, ◌++◌, length, replicate, eqb, leb}
use Rattle.bundle.specs.Bundle.{Bundle}
use Rattle.bundle.specs.Lists.{numbers}
use Rattle.bundle.specs.Limits.{set_words, limits, words_of, bytes_of, header_words, within_of}
use Rattle.bundle.specs.File.{bundle_of, own_counts}
use Rattle.logic.specs.Tests.{Fault}
use Rattle.logic.specs.Tests.{passed, up_to, Test, test, first_failing, fault, or_else, or_next}
use Rattle.logic.specs.Free.{free_at}
use Rattle.logic.specs.Checks.{tables_fault}
use Rattle.expansion.specs.declared.Names.{Names}
use Rattle.expansion.specs.Answer.{Answer, Written, Refused}
use Rattle.expansion.specs.Visit.{visited, expanded}
use Rattle.expansion.specs.File.{file_of}

-- ---- areas

-- words of 64 bits for the stack: as many as the free sets of all terms may take
abbrev pub stack_words : ℕ
stack_words = set_words * limits.terms

-- An output of at least 58,916 bytes, and scratch of at least 14,729 words of 32 bits and 4,096 of 64: how many of the three areas are long
-- enough, where three are required.
unfoldable pub long_enough : ℕ → ℕ → ℕ → ℕ
unfolding header_words
long_enough out words sets =
    cond (leb (bytes_of limits) out) 1 0
    + cond (leb (words_of limits) words) 1 0
    + cond (leb stack_words sets) 1 0

-- ---- after 1 to 9 come 18, 15, 17, 16

-- 18 where C, P or the right word is not 0
abbrev pub is_bare : Bundle → Bool
is_bare b = passed (eqb (length b.contexts) 0 ∷ eqb (length b.steps) 0 ∷ eqb b.right 0 ∷ [])

-- 15 where left is not a term
abbrev pub left_is_term : Bundle → Bool
left_is_term b = numbers (length b.terms) b.left

-- 17 where the rule has a free variable
abbrev pub rule_closed : Bundle → Bool
rule_closed b = up_to (length b.variables) (λ x. not (free_at b b.left x))

-- 16 where a section would pass its limit, under this choice
abbrev pub derivation_fits : Names → Bundle → Bool
derivation_fits names b = within_of (own_counts (visited names b).bundle)

-- those before the visit
abbrev pub early_tests : Bundle → List Test
early_tests b = test 18 (is_bare b) ∷ test 15 (left_is_term b) ∷ test 17 (rule_closed b) ∷ []

abbrev pub job_tests : Names → Bundle → List Test
job_tests names b = early_tests b ++ (test 16 (derivation_fits names b) ∷ [])

unfoldable pub job_fault : Names → List ℕ → ℕ → ℕ → ℕ → Fault
unfolding tables_fault long_enough first_failing passed up_to free_at visited or_else bundle_of
job_fault names f out words sets =
    or_next (tables_fault f (long_enough out words sets) 3) (or_else (first_failing (job_tests names (bundle_of f))) 0 (fault 0 0))

-- ---- what is left

pub record Outcome : Type 0 where
  pub answer : Answer
  pub out : List ℕ
  pub words : List ℕ
  pub sets : List ℕ

-- Written: the file of the bundle B, and zeros after it; its length is the answer. The scratch ends zero.
abbrev pub writes : Bundle → ℕ → ℕ → ℕ → Outcome
writes B out words sets = record {
  answer = Written (length (file_of B));
  out = file_of B ++ replicate (out - length (file_of B)) 0;
  words = replicate words 0;
  sets = replicate sets 0;
}

-- Refused with number n and record i: zeros.
abbrev pub refuses : ℕ → ℕ → ℕ → ℕ → ℕ → Outcome
refuses n i out words sets = record { answer = Refused n i; out = replicate out 0; words = replicate words 0; sets = replicate sets 0 }

-- by the fault's number
unfoldable pub outcome_of : Names → Bundle → Fault → ℕ → ℕ → ℕ → ℕ → Outcome
unfolding file_of expanded
outcome_of names b r zero out words sets = writes (expanded names b) out words sets
outcome_of names b r (suc n) out words sets = refuses (suc n) r.«record» out words sets

-- THE EXPANSION of the job f under a choice of names, where the lent areas have these lengths
unfoldable pub expansion : Names → List ℕ → ℕ → ℕ → ℕ → Outcome
unfolding outcome_of job_fault bundle_of
expansion names f out words sets =
    outcome_of names (bundle_of f) (job_fault names f out words sets) (job_fault names f out words sets).number out words sets
