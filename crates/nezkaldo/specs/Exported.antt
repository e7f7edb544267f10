-- WHAT THE NUMBERS SAY that `nezkaldo_check`, `nezkaldo_expand`, `nezkaldo_expand_renamed` and `nezkaldo_read` answer (include/nezkaldo.h), as types.
-- proofs/ has each under the same name. 4,294,967,296 is 2^32.
-- Each statement on the writer is for either choice of names: at `Keep` it is on `nezkaldo_expand`, at `RenameAll` on `nezkaldo_expand_renamed`.
use Rattle.std.specs.Prelude.{ℕ, ◌+◌, ◌-◌, ◌*◌, ◌≤◌, ◌<◌, ◌≡◌, ◌↔◌, ◌⊎◌, List, length, take, drop, replicate}
use Rattle.bundle.specs.Limits.{limits, set_words, bytes_of}
use Rattle.bundle.specs.File.{counts_of, bundle_of}
use Rattle.logic.specs.Terms.{tree}
use Rattle.logic.specs.Free.{Closed}
use Rattle.logic.specs.Values.{EqualValues}
use Rattle.logic.specs.ReflWalk.{pair_limit}
use Rattle.logic.specs.Statements.{LastWalked}
use Rattle.judgement.specs.Judge.{judge}
use Rattle.judgement.specs.Order.{all_checks, FirstFailing}
use Rattle.judgement.specs.Demands.{Acceptable}
use Rattle.expansion.specs.declared.Names.{Names}
use Rattle.expansion.specs.Answer.{Written}
use Rattle.expansion.specs.Expansion.{Outcome, expansion}
use Rattle.expansion.specs.JobOrder.{all_job_checks}
use Rattle.expansion.specs.Demands.{Bytes, JobFormed, Fits, LongEnough, WrittenWell}
use Rattle.grammar.specs.Grammar.{Formula}
use Rattle.reading.specs.Local.{plain}
use Rattle.reading.specs.Reader.{refused}
use Rattle.reading.specs.Answers.{ReadAs, FitsLimits, Answered}
use Rattle.reading.specs.Reading.{reading}
use Rattle.reading.specs.ReadOrder.{declaration_checks}
use Rattle.reading.specs.Demands.{DeclarationsFormed, ReadWell, RuleExpanded}
use Rattle.nezkaldo.specs.Packed.{packed, packed_reply}

-- ---- number · 2^32 + record

-- p is number · 2^32 + record, of the number n, not 0, and the record i
pub record Tells (p n i : ℕ) : Type 0 where
  pub number : 1 ≤ n
  pub «record» : i < 4294967296
  pub sum : p ≡ 4294967296 * n + i

-- Each p from 2^32 on is so, of exactly one number and record.
abbrev pub TellsOne : Type 0
TellsOne =
    (p : ℕ) → 4294967296 ≤ p
    → (n : ℕ) × (i : ℕ) × Tells p n i × ((n' i' : ℕ) → Tells p n' i' → (n' ≡ n) × (i' ≡ i))

-- ---- what `nezkaldo_check` answers to the file f where m words are lent

-- The answer is a number of pairs, or number and record.
pub record CheckSays (f : List ℕ) (m p : ℕ) : Type 0 where
  -- less than 2^32 exactly where the file is acceptable;
  pub accepted : (p < 4294967296) ↔ Acceptable f m
  -- then it is the number of pairs of the last REFL walked of all steps, 0 if none was, at most 4,096;
  pub pairs : p < 4294967296 → LastWalked (bundle_of f) (length (bundle_of f).steps) p × (p ≤ pair_limit)
  -- any other answer tells of the number and record of the first check of document 01 that fails
  pub refused : (n i : ℕ) → Tells p n i ↔ FirstFailing (all_checks f m) n i

abbrev pub CheckNumber : Type 0
CheckNumber = (f : List ℕ) (m : ℕ) → CheckSays f m (packed (judge f m))

-- ---- what the writer's calls answer to the job f where the lent areas have these lengths: `nezkaldo_expand` for `Keep`, `nezkaldo_expand_renamed` for
-- `RenameAll`

-- An accepted answer is the length.
pub record ExpandSays (names : Names) (f : List ℕ) (out words sets p : ℕ) : Type 0 where
  -- less than 2^32 exactly for well-formed closed jobs whose derivation fits, with long enough areas;
  pub written : (p < 4294967296) ↔ (JobFormed f × Closed (tree (bundle_of f) (bundle_of f).left) × Fits names f × LongEnough out words sets)
  -- then a file is written, and the answer is its length, at most 58,916;
  pub long : p < 4294967296 → ((expansion names f out words sets).answer ≡ Written p) × (p ≤ bytes_of limits)
  -- any other answer tells of the number and record of the first check of document 01 that fails
  pub refused : (n i : ℕ) → Tells p n i ↔ FirstFailing (all_job_checks names f out words sets) n i

abbrev pub ExpandNumber : Type 0
ExpandNumber =
    (names : Names) (f : List ℕ) (out words sets : ℕ) → ExpandSays names f out words sets (packed_reply (expansion names f out words sets).answer)

-- ---- what `nezkaldo_read` answers to a text beside the declarations f, where the lent areas have these lengths

-- An accepted answer is the length.
pub record ReadSays (f text : List ℕ) (out words sets p : ℕ) : Type 0 where
  -- less than 2^32 exactly for a text that is read, beside well-formed declarations and with long enough areas;
  pub written :
      (p < 4294967296)
      ↔ (DeclarationsFormed f × LongEnough out words sets × ((φ : Formula) × ReadAs (bundle_of f) text φ × FitsLimits (bundle_of f) φ))
  -- then a job is written, and the answer is its length, at most 58,916;
  pub long : p < 4294967296 → ((reading f text out words sets).answer ≡ Written p) × (p ≤ bytes_of limits)
  -- any other answer tells of the number, and of the record or byte, of what refuses them first
  pub refused : (n i : ℕ)
      → Tells p n i
      ↔ (FirstFailing (declaration_checks f out words sets) n i
      ⊎ (DeclarationsFormed f × LongEnough out words sets × Answered (bundle_of f) text (refused n i)))

-- So it is of texts of less than 2^32 bytes; in a longer one a byte may be 2^32 or more, and is added as it stands.
abbrev pub ReadNumber : Type 0
ReadNumber =
    (f text : List ℕ) (out words sets : ℕ) → length text < 4294967296
    → ReadSays f text out words sets (packed_reply (reading f text out words sets).answer)

-- ---- what the writer's calls and `nezkaldo_read` leave

-- The four clauses of such a call's contract (src/lib.rt): the answer, and every byte and word of the areas, are those of the outcome. So `nezkaldo_expand`'s
-- clauses are `Leaves (expansion Keep …)`, `nezkaldo_expand_renamed`'s `Leaves (expansion RenameAll …)` and `nezkaldo_read`'s `Leaves (reading …)`.
pub record Leaves (o : Outcome) (r : ℕ) (out words sets : List ℕ) : Type 0 where
  pub answer : r ≡ packed_reply o.answer
  pub output : out ≡ o.out
  pub scratch : words ≡ o.words
  pub stack : sets ≡ o.sets

-- It asks for nothing more than these four: so what these calls leave is always so.
abbrev pub LeavesExactly : Type 0
LeavesExactly =
    (o : Outcome) (r : ℕ) (out words sets : List ℕ)
    → Leaves o r out words sets ↔ ((r ≡ packed_reply o.answer) × (out ≡ o.out) × (words ≡ o.words) × (sets ≡ o.sets))

-- Scratch ends zero; where the answer is a refusal, the output is zero too; bytes after the result, which is as long as the answer says, are zero.
pub record Zeros (out words sets out' words' sets' : List ℕ) (r : ℕ) : Type 0 where
  pub scratch : words' ≡ replicate (length words) 0
  pub stack : sets' ≡ replicate (length sets) 0
  pub refused : 4294967296 ≤ r → out' ≡ replicate (length out) 0
  pub written : r < 4294967296 → (r ≤ length out) × (drop r out' ≡ replicate (length out - r) 0)

abbrev pub ExportedZeros : Type 0
ExportedZeros =
    (names : Names) (job out words sets out' words' sets' : List ℕ) (r : ℕ)
    → Leaves (expansion names job (length out) (length words) (length sets)) r out' words' sets' → Zeros out words sets out' words' sets' r

abbrev pub ExportedReadZeros : Type 0
ExportedReadZeros =
    (declarations text out words sets out' words' sets' : List ℕ) (r : ℕ)
    → Leaves (reading declarations text (length out) (length words) (length sets)) r out' words' sets' → Zeros out words sets out' words' sets' r

-- ---- DEMAND 3 over these numbers

-- Where `nezkaldo_check` answers less than 2^32, both sides of the claim have equal value in every finite world, under every valuation. `r` is what it
-- answers.
abbrev pub ExportedEqual : Type 0
ExportedEqual =
    (file free : List ℕ) (r : ℕ) → r ≡ packed (judge file (length free)) → r < 4294967296
    → EqualValues (bundle_of file) (bundle_of file).left (bundle_of file).right

-- Where it does, both sides of the claim are closed (Req 05).
abbrev pub ExportedClosed : Type 0
ExportedClosed =
    (file free : List ℕ) (r : ℕ) → r ≡ packed (judge file (length free)) → r < 4294967296
    → Closed (tree (bundle_of file) (bundle_of file).left) × Closed (tree (bundle_of file) (bundle_of file).right)

-- For either choice of names and every well-formed closed job whose derivation fits, with long enough areas, whatever stood in them (out, words, sets):
-- if the call of this choice, `nezkaldo_expand` for `Keep` or `nezkaldo_expand_renamed` for `RenameAll`, answers `r` and leaves out', words' and sets',
-- then r is less than 2^32, `nezkaldo_check` accepts the first r bytes of out' with an area for their T: its answer is less than 2^32; and they are as
-- they are to be: left is the rule, right holds no let, both have equal value in every world.
abbrev pub ExportedAccepted : Type 0
ExportedAccepted =
    (names : Names) (job out words sets out' words' sets' : List ℕ) (r : ℕ)
    → Bytes job → JobFormed job → Closed (tree (bundle_of job) (bundle_of job).left) → Fits names job → LongEnough (length out) (length words) (length sets)
    → Leaves (expansion names job (length out) (length words) (length sets)) r out' words' sets'
    → (r < 4294967296)
    × ((free : List ℕ) (a : ℕ) → set_words * (counts_of (take r out')).terms ≤ length free → a ≡ packed (judge (take r out') (length free)) → a < 4294967296)
    × WrittenWell job (take r out')

abbrev pub ExportedDemandThree : Type 0
ExportedDemandThree = ExportedEqual × ExportedAccepted

-- ---- THE THREE CALLS IN A ROW

-- If `nezkaldo_read` answers r, less than 2^32, to a text beside declarations, then the text spells one formula φ, and the first r bytes g of the output
-- are the job of it. Where φ is closed and, for a choice of names, the derivation of g fits: if the writer's call of this choice (`nezkaldo_expand` for
-- `Keep`, `nezkaldo_expand_renamed` for `RenameAll`) answers q to g, with long enough areas, whatever stood in them, then q is less than 2^32,
-- `nezkaldo_check` answers less than 2^32 to the first q bytes of its output with an area for their T, and they are as they are to be: left is the
-- formula, right holds no let, both have equal value in every world.
abbrev pub ExportedReadExpanded : Type 0
ExportedReadExpanded =
    (declarations text out words sets out₁ words₁ sets₁ : List ℕ) (r : ℕ)
    → Bytes declarations
    → Leaves (reading declarations text (length out) (length words) (length sets)) r out₁ words₁ sets₁ → r < 4294967296
    → (φ : Formula)
    × ReadAs (bundle_of declarations) text φ
    × ReadWell declarations φ (take r out₁)
    × ((names : Names) (out₂ words₂ sets₂ out₃ words₃ sets₃ : List ℕ) (q : ℕ)
    → Closed (plain (bundle_of declarations) φ) → Fits names (take r out₁) → LongEnough (length out₂) (length words₂) (length sets₂)
    → Leaves (expansion names (take r out₁) (length out₂) (length words₂) (length sets₂)) q out₃ words₃ sets₃
    → (q < 4294967296)
    × ((free : List ℕ) (a : ℕ) → set_words * (counts_of (take q out₃)).terms ≤ length free → a ≡ packed (judge (take q out₃) (length free)) → a < 4294967296)
    × RuleExpanded declarations φ (take q out₃))
