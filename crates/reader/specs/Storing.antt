-- What storing the job of a text asks and gives, beside declarations of which no check fails.
use Rattle.std.specs.Prelude.{ℕ, ◌≡◌, List, length}
use Rattle.bundle.specs.Bundle.{Bundle}
use Rattle.bundle.specs.File.{bundle_of}
use Rattle.expansion.specs.Answer.{Answer}
use Rattle.expansion.specs.AreasAfter.{Stored}
use Rattle.reading.specs.Reading.{declarations_fault, reading}

-- no check of the declarations f fails where the areas have these lengths; D is their bundle
pub record Declared (f : List ℕ) (out words sets : ℕ) (D : Bundle) : Type 0 where
  pub none : (declarations_fault f out words sets).number ≡ 0
  pub bundle : D ≡ bundle_of f

-- the stack is of no use to the storing: it has some length
abbrev pub Cleared : Bundle → (out words : ℕ) → Type 0
Cleared D out words = (f : List ℕ) × (sets : ℕ) × Declared f out words sets D

-- and for each such file and length of it r is the reading's answer, and the job that it writes is stored
abbrev pub TextStored : Bundle → (text out words out' words' : List ℕ) → Answer → Type 0
TextStored D text out words out' words' r =
    (f sets : List ℕ) → Declared f (length out) (length words) (length sets) D
    → Stored (reading f text (length out) (length words) (length sets)) out words sets out' words' sets r
