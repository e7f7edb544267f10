-- What each answer to a text means: Req 01's sentences, one constructor each.
use Rattle.std.specs.Prelude.{ℕ, ◌≡◌, ◌↔◌, List, [], ◌∷◌, ◌++◌}
use Rattle.bundle.specs.File.{own_counts}
use Rattle.bundle.specs.Bundle.{Bundle}
use Rattle.bundle.specs.Limits.{Within}
use Rattle.logic.specs.Lists.{All}
use Rattle.logic.specs.Symbols.{truth_sort}
use Rattle.expansion.specs.Placed.{PlacedTerm}
use Rattle.grammar.specs.Grammar.{Formula, Reads, Unread}
use Rattle.grammar.specs.Names.{names, Located, met}
use Rattle.reading.specs.Called.{DeclaredName}
use Rattle.reading.specs.Local.{plain}
use Rattle.reading.specs.WellSorted.{WellSorted}
use Rattle.reading.specs.Records.{file}
use Rattle.reading.specs.Reader.{Answer, job, refused, job_of, read_text}

-- the text is in the grammar with the reading φ, and its names are declared ones of the kind due
pub record Named (b : Bundle) (text : List ℕ) (φ : Formula) : Type 0 where
  pub reads : Reads text φ
  pub names : All (DeclaredName b) (names φ [])

-- and φ is well sorted, without repeats in a let, and Bool
pub record ReadAs (b : Bundle) (text : List ℕ) (φ : Formula) : Type 0 where
  pub named : Named b text φ
  pub sorted : WellSorted b φ truth_sort

-- the declarations with the records of the formula's term, and the number of that term
abbrev pub filed_for : Bundle → Formula → PlacedTerm
filed_for b φ = file (plain b φ) b

-- its job is within the limits
abbrev pub FitsLimits : Bundle → Formula → Type 0
FitsLimits b φ = Within (own_counts (filed_for b φ).bundle)

-- of the names that stand in a text, the first one that is not a declared one of the kind due has the first byte n
pub record FirstUnknown (b : Bundle) (ls : List Located) (n : ℕ) : Type 0 where
  pub before : List Located
  pub unknown : Located
  pub after : List Located
  pub split : ls ≡ before ++ (unknown ∷ after)
  pub known : All (λ l. DeclaredName b l.called) before
  pub fails : DeclaredName b unknown.called → ⊥
  pub first : unknown.first ≡ n

pub data Answered (b : Bundle) (text : List ℕ) : Answer → Type 0 where
  -- 19, with the byte where no text in the grammar can continue, or the text's length, no name before it being unknown
  unread : {n : ℕ} → Unread text n → All (λ l. DeclaredName b l.called) (met text) → Answered b text (refused 19 n)
  -- 20, with the first byte of the first unknown name
  unknown : {n : ℕ} → FirstUnknown b (met text) n → Answered b text (refused 20 n)
  missorted : (φ : Formula) → Named b text φ → (WellSorted b φ truth_sort → ⊥) → Answered b text (refused 8 0)
  full : (φ : Formula) → ReadAs b text φ → (FitsLimits b φ → ⊥) → Answered b text (refused 16 0)
  read : (φ : Formula) → ReadAs b text φ → FitsLimits b φ → Answered b text (job (job_of (filed_for b φ)))

-- An answer is given exactly where it means what it says.
abbrev pub AnswersExactly : Type 0
AnswersExactly = (b : Bundle) (text : List ℕ) (a : Answer) → (read_text b text ≡ a) ↔ Answered b text a
