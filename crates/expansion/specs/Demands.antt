-- THE DEMANDS on the writer, as types, for either choice of names. proofs/ has each under the same name.
use Rattle.std.specs.Prelude.{ℕ, ◌-◌, ◌*◌, ◌≤◌, ◌<◌, ◌≡◌, ◌↔◌, false, List, [], length, get_or, take, drop, replicate}
use Rattle.bundle.specs.Limits.{limits, set_words, words_of, bytes_of, Within}
use Rattle.bundle.specs.File.{counts_of, bundle_of, own_counts}
use Rattle.logic.specs.Lists.{All, Number}
use Rattle.logic.specs.Terms.{tree}
use Rattle.logic.specs.Free.{Closed}
use Rattle.logic.specs.Lets.{holds_let}
use Rattle.logic.specs.WellFormed.{HeaderFormed, TablesFormed}
use Rattle.logic.specs.Values.{EqualValues}
use Rattle.logic.specs.Longer.{Longer}
use Rattle.judgement.specs.Answer.{Accepted}
use Rattle.judgement.specs.Judge.{acceptance, judge}
use Rattle.judgement.specs.Order.{FirstFailing}
use Rattle.expansion.specs.declared.Names.{Names}
use Rattle.expansion.specs.Answer.{Written, Refused}
use Rattle.expansion.specs.Visit.{visited}
use Rattle.expansion.specs.Expansion.{stack_words, Outcome, expansion}
use Rattle.expansion.specs.JobOrder.{all_job_checks}

-- a string of bytes
abbrev pub Bytes : List ℕ → Type 0
Bytes f = All (λ x. x < 256) f

-- It is one exactly where each of its numbers, by its place, is below 256: so every lent string of bytes is one.
abbrev pub BytesExactly : Type 0
BytesExactly = (f : List ℕ) → Bytes f ↔ ((i : ℕ) → get_or f i 0 < 256)

-- A job is well formed if it fails none of the checks 1 to 3, 5 to 9 and 18 and its left is a term.
pub record JobFormed (f : List ℕ) : Type 0 where
  pub header : HeaderFormed f
  pub tables : TablesFormed (bundle_of f)
  pub contexts : (bundle_of f).contexts ≡ []
  pub steps : (bundle_of f).steps ≡ []
  pub right : (bundle_of f).right ≡ 0
  pub left : Number (length (bundle_of f).terms) (bundle_of f).left

-- Its derivation fits the limits, under a choice of names, if no section passes its limit with the old records and all that the visit to its left, in
-- context 0, appends.
abbrev pub Fits : Names → List ℕ → Type 0
Fits names f = Within (own_counts (visited names (bundle_of f)).bundle)

-- Areas are long enough if none is shorter than required.
pub record LongEnough (out words sets : ℕ) : Type 0 where
  pub output : bytes_of limits ≤ out
  pub scratch : words_of limits ≤ words
  pub stack : stack_words ≤ sets

-- Demand 1, for the writer. A job is refused with number n and record i exactly where check n fails at record i and every check before it in
-- document 01's order holds.
abbrev pub RefusedJobExactly : Type 0
RefusedJobExactly =
    (names : Names) (f : List ℕ) (out words sets n i : ℕ)
    → ((expansion names f out words sets).answer ≡ Refused n i) ↔ FirstFailing (all_job_checks names f out words sets) n i

-- Demand 2, for the writer: a file is written exactly for well-formed closed jobs whose derivation fits, with long enough areas.
abbrev pub WrittenExactly : Type 0
WrittenExactly =
    (names : Names) (f : List ℕ) (out words sets : ℕ)
    → ((n : ℕ) × ((expansion names f out words sets).answer ≡ Written n))
    ↔ (JobFormed f × Closed (tree (bundle_of f) (bundle_of f).left) × Fits names f × LongEnough out words sets)

-- What is left in areas of these lengths: scratch ends zero; where the job is refused, the output is zero too; bytes after the result, which is as
-- long as the answer says, are zero.
pub record ZerosLeft (out words sets : ℕ) (o : Outcome) : Type 0 where
  pub scratch : o.words ≡ replicate words 0
  pub stack : o.sets ≡ replicate sets 0
  pub refused : (n i : ℕ) → o.answer ≡ Refused n i → o.out ≡ replicate out 0
  pub written : (n : ℕ) → o.answer ≡ Written n → (n ≤ out) × (drop n o.out ≡ replicate (out - n) 0)

abbrev pub AreasLeft : Type 0
AreasLeft = (names : Names) (f : List ℕ) (out words sets : ℕ) → ZerosLeft out words sets (expansion names f out words sets)

-- What is to hold of the file g that is written for the job f:
pub record WrittenWell (f g : List ℕ) : Type 0 where
  -- it is accepted, where the checker is lent what its T asks,
  pub accepted : (m : ℕ) → set_words * (counts_of g).terms ≤ m → judge g m ≡ Accepted (acceptance (bundle_of g))
  -- its left is the rule: its left word is the job's, and each record of the job stands in it under its old number, unchanged,
  pub left : (bundle_of g).left ≡ (bundle_of f).left
  pub records : Longer (bundle_of f) (bundle_of g)
  -- its right holds no let,
  pub plain : holds_let (tree (bundle_of g) (bundle_of g).right) ≡ false
  -- both are closed,
  pub closed : Closed (tree (bundle_of g) (bundle_of g).left) × Closed (tree (bundle_of g) (bundle_of g).right)
  -- and have equal value in every world.
  pub equal : EqualValues (bundle_of g) (bundle_of g).left (bundle_of g).right

-- Demand 3, its second half, under either choice: for every well-formed closed job whose derivation fits, with long enough areas, a file is written, and
-- it is as it is to be. The writer's file is the output up to the answered length.
abbrev pub ExpansionRight : Type 0
ExpansionRight =
    (names : Names) (f : List ℕ) (out words sets : ℕ) → Bytes f → JobFormed f → Closed (tree (bundle_of f) (bundle_of f).left) → Fits names f
    → LongEnough out words sets
    → (n : ℕ) × ((expansion names f out words sets).answer ≡ Written n) × (WrittenWell f (take n (expansion names f out words sets).out))
