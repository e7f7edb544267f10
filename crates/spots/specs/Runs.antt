-- Blanks and runs of symbol characters, by their lengths.
use Rattle.std.specs.Prelude.{ℕ, suc, ◌+◌, ◌-◌, Bool, true, false, cond, not, ◌||◌, List, [], ◌∷◌, take, drop, eqb, ltb}
use Rattle.grammar.specs.Bytes.{class_of, bytes}
use Rattle.lexing.specs.Codes.{class_code}
use Rattle.lexing.specs.Common.{common}

abbrev pub code_of : ℕ → ℕ
code_of c = class_code (class_of c)

-- how many bytes of white space and comments come first, in a comment or not
unfoldable pub blanks : Bool → List ℕ → ℕ
blanks m [] = 0
blanks true (c ∷ cs) = suc (blanks (not (eqb (code_of c) 1)) cs)
blanks false (c ∷ cs) = cond (ltb 2 (code_of c)) 0 (suc (blanks (eqb (code_of c) 2) cs))

-- the first byte of a lexeme from byte i on, or the text's length
unfoldable pub lexeme_from : List ℕ → ℕ → ℕ
unfolding blanks
lexeme_from text i = i + blanks false (drop i text)

-- how many symbol characters come first
unfoldable pub run_length : List ℕ → ℕ
run_length [] = 0
run_length (c ∷ cs) = cond (eqb (code_of c) 5 || eqb (code_of c) 6) (suc (run_length cs)) 0

-- the byte behind the run from byte i on
unfoldable pub run_end : List ℕ → ℕ → ℕ
unfolding run_length
run_end text i = i + run_length (drop i text)

-- the bytes from s up to before e
abbrev pub part : List ℕ → ℕ → ℕ → List ℕ
part text s e = take (e - s) (drop s text)

-- the one sort that a run may become, by its first byte; 'B' is 66
unfoldable pub sort_meant : List ℕ → List ℕ
unfolding bytes
sort_meant [] = bytes "Item"
sort_meant (c ∷ w) = cond (eqb c 66) (bytes "Bool") (bytes "Item")

-- how many bytes of a run may start a sort
unfoldable pub sort_start : List ℕ → ℕ
unfolding common sort_meant
sort_start w = common w (sort_meant w)
