-- Names of declared symbols and variables: f33, f34 and so on for symbols, v1 and so on for variables; and what is known where a kind is due.
use Rattle.std.specs.Prelude.{ℕ, ◌+◌, ◌-◌, ◌*◌, ◌≤◌, ◌<◌, ◌≡◌, ◌⊎◌, ◌↔◌, Bool, true, false, cond, not, ◌&&◌, ◌||◌, List, [], ◌∷◌, length, eqb, leb, ltb}
use Rattle.bundle.specs.Bundle.{Bundle}
use Rattle.bundle.specs.Lists.{each, numbers}
use Rattle.logic.specs.Lists.{All, Number}
use Rattle.grammar.specs.Names.{Place, either, symbolOnly, variableOnly, Name}

-- the value of decimal digits, after a
unfoldable pub decimal : ℕ → List ℕ → ℕ
decimal a [] = a
decimal a (c ∷ cs) = decimal (10 * a + (c - 48)) cs

abbrev pub is_digit : ℕ → Bool
is_digit c = leb 48 c && leb c 57

-- digits, and no zero first
unfoldable pub is_numeral : List ℕ → Bool
unfolding each
is_numeral [] = false
is_numeral (c ∷ cs) = not (eqb c 48) && each is_digit (c ∷ cs)

-- the number after a letter; 0 for any other word
unfoldable pub number_after : ℕ → List ℕ → ℕ
unfolding decimal is_numeral
number_after letter [] = 0
number_after letter (c ∷ cs) = cond (eqb c letter && is_numeral cs) (decimal 0 cs) 0

-- the variable or symbol of a bundle that is so called; 0 for none. 'v' is 118, 'f' is 102.
unfoldable pub variable_called : Bundle → List ℕ → ℕ
unfolding number_after
variable_called b w = cond (numbers (length b.variables) (number_after 118 w)) (number_after 118 w) 0

unfoldable pub symbol_called : Bundle → List ℕ → ℕ
unfolding number_after
symbol_called b w = cond (leb 33 (number_after 102 w) && leb (number_after 102 w) (32 + length b.symbols)) (number_after 102 w) 0

-- it is a declared one of the kind due
unfoldable pub known_as : Bundle → Place → List ℕ → Bool
unfolding variable_called symbol_called
known_as b either w = ltb 0 (variable_called b w) || ltb 0 (symbol_called b w)
known_as b symbolOnly w = ltb 0 (symbol_called b w)
known_as b variableOnly w = ltb 0 (variable_called b w)

unfoldable pub known_in : Bundle → Name → Bool
unfolding known_as
known_in b x = known_as b x.place x.spelled

-- ---- the same in propositions

abbrev pub Digit : ℕ → Type 0
Digit c = (48 ≤ c) × (c ≤ 57)

-- digits, and no zero first
abbrev pub Numeral : List ℕ → Type 0
Numeral [] = ⊥
Numeral (c ∷ cs) = (48 < c) × All Digit (c ∷ cs)

-- w is a letter and then the number n
pub record Spells (letter : ℕ) (w : List ℕ) (n : ℕ) : Type 0 where
  pub digits : List ℕ
  pub letters : w ≡ letter ∷ digits
  pub numeral : Numeral digits
  pub value : decimal 0 digits ≡ n

-- v1 to v and V; f33 to f and 32 + S
abbrev pub VariableName : Bundle → List ℕ → Type 0
VariableName b w = (x : ℕ) × Spells 118 w x × Number (length b.variables) x

abbrev pub SymbolName : Bundle → List ℕ → Type 0
SymbolName b w = (f : ℕ) × Spells 102 w f × (33 ≤ f) × (f ≤ 32 + length b.symbols)

-- a declared one of the kind due
abbrev pub DeclaredAs : Bundle → Place → List ℕ → Type 0
DeclaredAs b either w = VariableName b w ⊎ SymbolName b w
DeclaredAs b symbolOnly w = SymbolName b w
DeclaredAs b variableOnly w = VariableName b w

abbrev pub DeclaredName : Bundle → Name → Type 0
DeclaredName b x = DeclaredAs b x.place x.spelled

-- The test and the proposition agree; and what is called so has the number that the name spells.
abbrev pub KnownExactly : Type 0
KnownExactly = (b : Bundle) (x : Name) → (known_in b x ≡ true) ↔ DeclaredName b x

pub record CallsExactly (b : Bundle) (w : List ℕ) : Type 0 where
  pub variable : (x : ℕ) → Spells 118 w x → Number (length b.variables) x → variable_called b w ≡ x
  pub symbol : (f : ℕ) → Spells 102 w f → 33 ≤ f → f ≤ 32 + length b.symbols → symbol_called b w ≡ f

abbrev pub CalledExactly : Type 0
CalledExactly = (b : Bundle) (w : List ℕ) → CallsExactly b w
