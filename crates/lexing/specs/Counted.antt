-- Names of declared symbols and variables, by how many of them a bundle declares.
use Rattle.std.specs.Prelude.{ℕ, Option, None, Some, ◌≤◌, ◌+◌, ◌≡◌, Bool, cond, ◌&&◌, ◌||◌, List, length, eqb, leb, ltb}
use Rattle.bundle.specs.Bundle.{Bundle}
use Rattle.grammar.specs.Names.{Place, either, symbolOnly, variableOnly}
use Rattle.reading.specs.Called.{number_after, variable_called, symbol_called, known_as}

-- the number after a letter, where it is low to high; else 0
unfoldable pub number_within : ℕ → ℕ → ℕ → List ℕ → ℕ
unfolding number_after
number_within letter low high w = cond (leb low (number_after letter w) && leb (number_after letter w) high) (number_after letter w) 0

-- the same as code has it: `None` for 0
abbrev pub Numbered : ℕ → Option ℕ → Type 0
Numbered n None = n ≡ 0
Numbered n (Some x) = (x ≡ n) × (1 ≤ n)

-- of so many variables, of so many symbols, the one that is so called; 0 for none
abbrev pub variable_among : ℕ → List ℕ → ℕ
variable_among variables w = number_within 118 1 variables w

abbrev pub symbol_among : ℕ → List ℕ → ℕ
symbol_among symbols w = number_within 102 33 (32 + symbols) w

-- the kind due by its number, as code has it
abbrev pub place_of : ℕ → Place
place_of p = cond (eqb p 1) symbolOnly (cond (eqb p 2) variableOnly either)

-- it is a declared one of the kind due
unfoldable pub known_among : ℕ → ℕ → Place → List ℕ → Bool
unfolding number_within
known_among symbols variables either w = ltb 0 (variable_among variables w) || ltb 0 (symbol_among symbols w)
known_among symbols variables symbolOnly w = ltb 0 (symbol_among symbols w)
known_among symbols variables variableOnly w = ltb 0 (variable_among variables w)

-- The counts of a bundle say as much as the bundle.
pub record CountsName (b : Bundle) (w : List ℕ) : Type 0 where
  pub variable : variable_called b w ≡ variable_among (length b.variables) w
  pub symbol : symbol_called b w ≡ symbol_among (length b.symbols) w
  pub known : (p : Place) → known_as b p w ≡ known_among (length b.symbols) (length b.variables) p w

abbrev pub CountsSuffice : Type 0
CountsSuffice = (b : Bundle) (w : List ℕ) → CountsName b w
