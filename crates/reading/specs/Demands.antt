-- THE DEMANDS on the reader, as types. proofs/ has each under the same name.
use Rattle.std.specs.Prelude.{ℕ, ◌*◌, ◌≤◌, ◌<◌, false, ◌≡◌, ◌↔◌, ◌⊎◌, List, [], length, take}
use Rattle.bundle.specs.Bundle.{Bundle}
use Rattle.bundle.specs.Limits.{limits, set_words}
use Rattle.bundle.specs.File.{counts_of, bundle_of}
use Rattle.logic.specs.Lists.{Number}
use Rattle.logic.specs.Terms.{tree}
use Rattle.logic.specs.Free.{Closed}
use Rattle.logic.specs.Lets.{holds_let}
use Rattle.logic.specs.Values.{EqualValues}
use Rattle.logic.specs.WellFormed.{HeaderFormed, LinkFormed, SymbolFormed, VariableFormed}
use Rattle.logic.specs.Longer.{Longer}
use Rattle.judgement.specs.Answer.{Accepted}
use Rattle.judgement.specs.Judge.{acceptance, judge}
use Rattle.judgement.specs.Order.{FirstFailing}
use Rattle.expansion.specs.declared.Names.{Names}
use Rattle.expansion.specs.Answer.{Written, Refused}
use Rattle.expansion.specs.Expansion.{expansion}
use Rattle.expansion.specs.Demands.{Bytes, JobFormed, Fits, LongEnough, ZerosLeft}
use Rattle.grammar.specs.Grammar.{Formula}
use Rattle.reading.specs.Local.{plain}
use Rattle.reading.specs.Records.{nesting}
use Rattle.reading.specs.Reader.{refused}
use Rattle.reading.specs.Answers.{ReadAs, FitsLimits, Answered}
use Rattle.reading.specs.Reading.{reading}
use Rattle.reading.specs.ReadOrder.{declaration_checks}

-- Declarations are well formed if they fail none of the checks 1 to 3, 5 and 6, and T, C, P and both claim words are 0.
pub record DeclarationsFormed (f : List ℕ) : Type 0 where
  pub header : HeaderFormed f
  pub links : (i : ℕ) → Number (length (bundle_of f).links) i → LinkFormed (bundle_of f) i
  pub symbols : (i : ℕ) → Number (length (bundle_of f).symbols) i → SymbolFormed (bundle_of f) i
  pub variables : (i : ℕ) → Number (length (bundle_of f).variables) i → VariableFormed (bundle_of f) i
  pub terms : (bundle_of f).terms ≡ []
  pub contexts : (bundle_of f).contexts ≡ []
  pub steps : (bundle_of f).steps ≡ []
  pub left : (bundle_of f).left ≡ 0
  pub right : (bundle_of f).right ≡ 0

-- A text is read exactly when, beside well-formed declarations and with long enough areas, it is in the grammar, its names are declared ones of the
-- kind due, it is well sorted, without repeats in a let and Bool, and its job is within the limits.
abbrev pub ReadExactly : Type 0
ReadExactly =
    (f text : List ℕ) (out words sets : ℕ)
    → ((n : ℕ) × ((reading f text out words sets).answer ≡ Written n))
    ↔ (DeclarationsFormed f × LongEnough out words sets × ((φ : Formula) × ReadAs (bundle_of f) text φ × FitsLimits (bundle_of f) φ))

-- It has one reading.
abbrev pub OneReading : Type 0
OneReading = (b : Bundle) (text : List ℕ) (φ ψ : Formula) → ReadAs b text φ → ReadAs b text ψ → φ ≡ ψ

-- It is refused with number n and record or byte i exactly where a check of the declarations, n at record i, is the first that fails, or where all
-- hold and that answer to the text means what it says: 19 and 20 at their bytes, then 8, then 16.
abbrev pub RefusedExactly : Type 0
RefusedExactly =
    (f text : List ℕ) (out words sets n i : ℕ)
    → ((reading f text out words sets).answer ≡ Refused n i)
    ↔ (FirstFailing (declaration_checks f out words sets) n i
    ⊎ (DeclarationsFormed f × LongEnough out words sets × Answered (bundle_of f) text (refused n i)))

-- What is to hold of the job g that is written for the declarations f and the formula φ:
pub record ReadWell (f : List ℕ) (φ : Formula) (g : List ℕ) : Type 0 where
  -- it is well formed, so the writer takes it where its left is closed and its derivation fits,
  pub formed : JobFormed g
  -- its left stands for the formula's term,
  pub left : tree (bundle_of g) (bundle_of g).left ≡ plain (bundle_of f) φ
  -- it has the declarations' symbols and variables, and each of their links under its old number, unchanged.
  pub symbols : (bundle_of g).symbols ≡ (bundle_of f).symbols
  pub variables : (bundle_of g).variables ≡ (bundle_of f).variables
  pub records : Longer (bundle_of f) (bundle_of g)

-- The job that is written is as it is to be: it is the output up to the answered length.
abbrev pub ReadFormed : Type 0
ReadFormed =
    (f text : List ℕ) (out words sets n : ℕ) → Bytes f → (reading f text out words sets).answer ≡ Written n
    → (φ : Formula) × ReadAs (bundle_of f) text φ × ReadWell f φ (take n (reading f text out words sets).out)

-- What is left in the areas besides the job: zeros.
abbrev pub AreasLeft : Type 0
AreasLeft = (f text : List ℕ) (out words sets : ℕ) → ZerosLeft out words sets (reading f text out words sets)

-- Terms nested in one another are all different: a formula that is nested deeper than the limit of terms does not fit.
abbrev pub DeepNeverFits : Type 0
DeepNeverFits =
    (f text : List ℕ) (φ : Formula) → DeclarationsFormed f → ReadAs (bundle_of f) text φ → limits.terms < nesting φ → FitsLimits (bundle_of f) φ → ⊥

-- What is to hold of the file h that is written for the job of the formula φ beside the declarations f:
pub record RuleExpanded (f : List ℕ) (φ : Formula) (h : List ℕ) : Type 0 where
  -- it is accepted, where the checker is lent what its T asks,
  pub accepted : (m : ℕ) → set_words * (counts_of h).terms ≤ m → judge h m ≡ Accepted (acceptance (bundle_of h))
  -- its left is the formula's term, its right holds no let, and both have equal value in every world.
  pub left : tree (bundle_of h) (bundle_of h).left ≡ plain (bundle_of f) φ
  pub right : holds_let (tree (bundle_of h) (bundle_of h).right) ≡ false
  pub equal : EqualValues (bundle_of h) (bundle_of h).left (bundle_of h).right

-- The three calls in a row, under either choice of names: where a text is read, its formula is closed and the derivation of its job fits, the job is
-- expanded, with long enough areas, to a file that is as it is to be.
abbrev pub ReadExpanded : Type 0
ReadExpanded =
    (names : Names) (f text : List ℕ) (out words sets n : ℕ) → Bytes f → (reading f text out words sets).answer ≡ Written n
    → (φ : Formula) → ReadAs (bundle_of f) text φ → Closed (plain (bundle_of f) φ)
    → (g : List ℕ) → g ≡ take n (reading f text out words sets).out → Fits names g
    → (out' words' sets' : ℕ) → LongEnough out' words' sets'
    → (m : ℕ) × ((expansion names g out' words' sets').answer ≡ Written m) × RuleExpanded f φ (take m (expansion names g out' words' sets').out)
