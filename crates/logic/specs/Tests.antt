-- Tests, numbered tests, and the first fault of a section. A number is that of a refusal in document 01, 0 where nothing is wrong.
use Rattle.std.specs.Prelude.{ℕ, zero, suc, List, [], ◌∷◌, Bool, true, cond, ◌&&◌}

-- Every test of a list passes. As a left fold it computes to `t₁ && t₂ && ..`, as code writes it with `&`.
unfoldable pub passed_from : Bool → List Bool → Bool
passed_from p [] = p
passed_from p (t ∷ ts) = passed_from (p && t) ts

unfoldable pub passed : List Bool → Bool
unfolding passed_from
passed [] = true
passed (t ∷ ts) = passed_from t ts

-- a test of every number from n down to 1
unfoldable pub up_to : ℕ → (ℕ → Bool) → Bool
up_to zero p = true
up_to (suc n) p = p (suc n) && up_to n p

-- a test, and the number of the refusal where it fails
pub record Test : Type 0 where
  pub number : ℕ
  pub holds : Bool

abbrev pub test : ℕ → Bool → Test
test n p = record { number = n; holds = p }

-- the number of the first test that fails, 0 where all hold
unfoldable pub first_failing : List Test → ℕ
first_failing [] = 0
first_failing (t ∷ ts) = cond t.holds (first_failing ts) t.number

-- what is wrong with a record: the number of the check that fails, and the record; number 0 where nothing is wrong
pub record Fault : Type 0 where
  pub number : ℕ
  pub «record» : ℕ

abbrev pub fault : ℕ → ℕ → Fault
fault n i = record { number = n; «record» = i }

-- the number n of record i, or else what the rest says
unfoldable pub or_else : ℕ → ℕ → Fault → Fault
or_else zero i rest = rest
or_else (suc n) i rest = fault (suc n) i

-- a section's fault, or else that of the later sections
abbrev pub or_next : Fault → Fault → Fault
or_next a rest = or_else a.number a.«record» rest

-- the first bad one of the `left` records from i on, where `f i` is the number of what is wrong with record i
unfoldable pub first_from : (ℕ → ℕ) → ℕ → ℕ → Fault
unfolding or_else
first_from f i zero = fault 0 0
first_from f i (suc left) = or_else (f i) i (first_from f (suc i) left)

-- the first bad one of the records 1 to n
unfoldable pub first_fault : (ℕ → ℕ) → ℕ → Fault
unfolding first_from
first_fault f n = first_from f 1 n
