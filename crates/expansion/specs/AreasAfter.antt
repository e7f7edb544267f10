-- What a call leaves in the lent areas, and what is left before the zeros are written.
use Rattle.std.specs.Prelude.{ℕ, ◌-◌, ◌≤◌, ◌≡◌, List, ◌++◌, length, take, replicate}
use Rattle.expansion.specs.Answer.{Answer, Written, Refused}
use Rattle.expansion.specs.Expansion.{Outcome}

-- the answer and every byte and word of the areas are those of the outcome
pub record Left (o : Outcome) (r : Answer) (out words sets : List ℕ) : Type 0 where
  pub answer : r ≡ o.answer
  pub output : out ≡ o.out
  pub scratch : words ≡ o.words
  pub stack : sets ≡ o.sets

-- the answer is the outcome's, the areas are as long as they were, and where a file is written it stands at the start of the output
pub record Stored (o : Outcome) (out words sets out' words' sets' : List ℕ) (r : Answer) : Type 0 where
  pub answer : r ≡ o.answer
  pub output : length out' ≡ length out
  pub scratch : length words' ≡ length words
  pub stack : length sets' ≡ length sets
  pub file : (n : ℕ) → r ≡ Written n → (n ≤ length out) × (take n out' ≡ take n o.out)

-- how many bytes of the output are kept: those of the file, none where it is refused
unfoldable pub kept : Answer → ℕ
kept (Written n) = n
kept (Refused n i) = 0

-- zeros are written after those bytes, and in the scratch and the stack
pub record Zeroed (r : Answer) (out words sets out' words' sets' : List ℕ) : Type 0 where
  pub output : out' ≡ take (kept r) out ++ replicate (length out - kept r) 0
  pub scratch : words' ≡ replicate (length words) 0
  pub stack : sets' ≡ replicate (length sets) 0
