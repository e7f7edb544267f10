-- LINES AND COLUMNS of a text's bytes, counted from 1.
use Rattle.std.specs.Prelude.{ℕ, zero, suc, ◌+◌, ◌-◌, ◌≤◌, ◌<◌, ◌≡◌, Bool, true, false, cond, not, ◌&&◌, ◌||◌, List, length, get_or, eqb}

-- a line ends with byte k: it is 10, or 13 with no 10 after it; so 13 10 is one end
unfoldable pub ends_line : List ℕ → ℕ → Bool
ends_line text k = eqb (get_or text k 0) 10 || (eqb (get_or text k 0) 13 && not (eqb (get_or text (k + 1) 0) 10))

-- the line of byte i: 1, and 1 more for each line that ends before it
unfoldable pub line_of : List ℕ → ℕ → ℕ
line_of text zero = 1
line_of text (suc i) = cond (ends_line text i) (suc (line_of text i)) (line_of text i)

-- the first byte of that line: the one after the last byte before i with which a line ends
unfoldable pub start_of : List ℕ → ℕ → ℕ
start_of text zero = 0
start_of text (suc i) = cond (ends_line text i) (suc i) (start_of text i)

-- the column of byte i: 1, and 1 more for each byte before it in its line
abbrev pub column_of : List ℕ → ℕ → ℕ
column_of text i = i - start_of text i + 1

-- r is the first byte from i on that is 10 or 13, or the text's end.
abbrev pub is_break : ℕ → Bool
is_break c = eqb c 10 || eqb c 13

pub record LineEnds (text : List ℕ) (i r : ℕ) : Type 0 where
  pub after : i ≤ r
  pub inside : r ≤ length text
  pub none : (k : ℕ) → k < r → i ≤ k → is_break (get_or text k 0) ≡ false
  pub found : r < length text → is_break (get_or text r 0) ≡ true

-- From r on there is nothing but white space, and right before r there is none.
abbrev pub is_space : ℕ → Bool
is_space c = eqb c 9 || eqb c 10 || eqb c 13 || eqb c 32

pub record ContentEnds (text : List ℕ) (r : ℕ) : Type 0 where
  pub inside : r ≤ length text
  pub spaces : (k : ℕ) → r ≤ k → k < length text → is_space (get_or text k 0) ≡ true
  pub content : 0 < r → is_space (get_or text (r - 1) 0) ≡ false
