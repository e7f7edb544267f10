-- Brackets counted on lists of lexemes: what follows a formula, and the parts that stand up to a closing bracket.
use Rattle.std.specs.Prelude.{ℕ, zero, suc, Bool, true, false, cond, not, List, [], ◌∷◌}
use Rattle.grammar.specs.Grammar.{Lexeme, opens, closes, word, stray}

-- the lexeme at the front, a stray one where there is none; what follows it is `rest_of` of lexing
unfoldable pub front_of : List Lexeme → Lexeme
front_of [] = stray
front_of (l ∷ ls) = l

unfoldable pub is_opening : Lexeme → Bool
is_opening opens = true
is_opening closes = false
is_opening (word w) = false
is_opening stray = false

unfoldable pub is_closing : Lexeme → Bool
is_closing opens = false
is_closing closes = true
is_closing (word w) = false
is_closing stray = false

-- one less, of 0 none
unfoldable pub one_less : ℕ → ℕ
one_less zero = zero
one_less (suc n) = n

-- how many brackets are open after a lexeme, where n were before it
unfoldable pub open_after : Lexeme → ℕ → ℕ
unfolding one_less
open_after opens n = suc n
open_after closes n = one_less n
open_after (word w) n = n
open_after stray n = n

-- a where no bracket is open, else c
unfoldable pub if_none : {A : Type 0} → ℕ → A → A → A
if_none zero a c = a
if_none (suc n) a c = c

-- what follows the first lexeme after which no bracket is open, where n are
unfoldable pub skip : ℕ → List Lexeme → List Lexeme
unfolding open_after if_none
skip n [] = []
skip n (l ∷ ls) = if_none (open_after l n) ls (skip (open_after l n) ls)

-- what follows the formula, or the list, at the front
abbrev pub after_formula : List Lexeme → List Lexeme
after_formula ls = skip 0 ls

-- a part starts at the front: neither nothing nor a closing bracket is there
unfoldable pub starts_part : List Lexeme → Bool
unfolding is_closing
starts_part [] = false
starts_part (l ∷ ls) = not (is_closing l)

-- the parts up to the closing bracket, each as f has it of the lexemes from its first one on; n brackets are open within a part
unfoldable pub parts : {A : Type 0} → (List Lexeme → A) → ℕ → List Lexeme → List A
unfolding open_after is_closing
parts f n [] = []
parts f zero (l ∷ ls) = cond (is_closing l) [] (f (l ∷ ls) ∷ parts f (open_after l 0) ls)
parts f (suc n) (l ∷ ls) = parts f (open_after l (suc n)) ls

abbrev pub parts_from : {A : Type 0} → (List Lexeme → A) → List Lexeme → List A
parts_from f ls = parts f 0 ls
