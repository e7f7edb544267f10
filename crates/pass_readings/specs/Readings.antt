-- What lexemes are read as, up to a rest: the term and the sort of a formula that they spell, of which every test passes and every name is known.
use Rattle.std.specs.Prelude.{ℕ, ◌≡◌, Bool, true, ◌&&◌, List, [], ◌∷◌, ◌++◌, map}
use Rattle.bundle.specs.Bundle.{Bundle}
use Rattle.logic.specs.Symbols.{truth_sort}
use Rattle.logic.specs.Terms.{Binder, Term, Terms}
use Rattle.grammar.specs.Grammar.{Lexeme}
use Rattle.reading.specs.Typing.{sorts_declared, nested}
use Rattle.reading.specs.Local.{head_sort, plain, fine}
use Rattle.reading.specs.Records.{file_all}
use Rattle.heads.specs.Places.{Part}
use Rattle.formulas.specs.ReadGives.{terms_of, variable_of}
use Rattle.pass_readings.specs.Spelled.{Spelled, SpelledParts, SpelledUnder}

-- every part's formula passes its tests
unfoldable pub parts_fine : Bundle → List Part → Bool
unfolding fine
parts_fine D [] = true
parts_fine D (p ∷ ps) = fine D p.formula && parts_fine D ps

abbrev pub part_sort : Bundle → Part → ℕ
part_sort D p = head_sort D p.formula

-- a formula of the term τ and the sort s
pub record ReadAs (D : Bundle) (ls rest : List Lexeme) (τ : Term) (s : ℕ) : Type 0 where
  pub spelled : Spelled D ls rest
  pub sorted : fine D spelled.formula ≡ true
  pub term : plain D spelled.formula ≡ τ
  pub sort : head_sort D spelled.formula ≡ s

-- parts, up to the closing bracket of their list: their terms, sorts and variables
pub record PartsAs (D : Bundle) (bound : Bool) (ls rest : List Lexeme) (ts : Terms) (ss vs : List ℕ) : Type 0 where
  pub spelled : SpelledParts D bound ls rest
  pub sorted : parts_fine D spelled.parts ≡ true
  pub terms : terms_of D spelled.parts ≡ ts
  pub sorts : map (part_sort D) spelled.parts ≡ ss
  pub variables : map (variable_of D bound) spelled.parts ≡ vs

-- the variables of the quantifier q, its body and its closing bracket: the term τ, and the body is truth
pub record UnderAs (D : Bundle) (q : Binder) (ls rest : List Lexeme) (τ : Term) : Type 0 where
  pub spelled : SpelledUnder D ls rest
  pub sorted : fine D spelled.body ≡ true
  pub declares : sorts_declared D spelled.variables ≡ true
  pub truth : head_sort D spelled.body ≡ truth_sort
  pub term : nested D q spelled.variables (plain D spelled.body) ≡ τ

-- ---- parts so far: from ls₀ and the bundle b₀ on, their terms are Ts, their sorts Ss, their variables Vs; ls follow, and the bundle is b

-- all parts, where those from here on are ts, ss and vs
pub record AllParts (D : Bundle) (bound : Bool) (ls₀ rest : List Lexeme) (b₀ b : Bundle) (Ts Ss Vs : List ℕ) (ts : Terms) (ss vs : List ℕ) : Type 0 where
  pub all : Terms
  pub read : PartsAs D bound ls₀ rest all (Ss ++ ss) (Vs ++ vs)
  pub terms : (file_all all b₀).terms ≡ Ts ++ (file_all ts b).terms
  pub bundle : (file_all all b₀).bundle ≡ (file_all ts b).bundle

abbrev pub PartsSoFar : (D : Bundle) (bound : Bool) (ls₀ ls : List Lexeme) (b₀ b : Bundle) (Ts Ss Vs : List ℕ) → Type 0
PartsSoFar D bound ls₀ ls b₀ b Ts Ss Vs =
    (rest : List Lexeme) (ts : Terms) (ss vs : List ℕ) → PartsAs D bound ls rest ts ss vs → AllParts D bound ls₀ rest b₀ b Ts Ss Vs ts ss vs
