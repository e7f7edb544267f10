-- What is answered where a formula has been read, against the records without limits.
use Rattle.std.specs.Prelude.{IfSome, ℕ, ◌≤◌, ◌≡◌, Option, Some, None, List}
use Rattle.bundle.specs.File.{own_counts}
use Rattle.bundle.specs.Words.{largest_word}
use Rattle.bundle.specs.Bundle.{Bundle}
use Rattle.bundle.specs.Limits.{Within}
use Rattle.placing.specs.Outcomes.{TooMuch}
use Rattle.expansion.specs.Placed.{PlacedTerm}
use Rattle.endings.specs.declared.ReadTerm.{ReadTerm}

-- t is the term t' of the sort s, and this text is behind it
pub record TermIs (t' s : ℕ) (text : List ℕ) (t : ReadTerm) : Type 0 where
  pub term : t.term ≡ t'
  pub sort : t.sort ≡ s
  pub rest : t.rest.now ≡ text

-- r, and the bundle b after the call, are what p is, of sort s, with this text behind the formula; or a section would pass its limit
pub data TermOutcome (p : PlacedTerm) (s : ℕ) (rest : List ℕ) (b : Bundle) (r : Option ReadTerm) : Type 0 where
  done : Within (own_counts p.bundle) → b ≡ p.bundle → (t : ReadTerm) → r ≡ Some t → TermIs p.term s rest t → TermOutcome p s rest b r
  full : TooMuch p.bundle → r ≡ None → TermOutcome p s rest b r

-- the term is a word
abbrev pub TermFits : Option ReadTerm → Type 0
TermFits r = IfSome r (λ t. t.term ≤ largest_word)
