-- THE NEXT LEXEME of a text, and what follows it.
use Rattle.std.specs.Prelude.{ℕ, ◌-◌, ◌≤◌, ◌<◌, ◌≡◌, List, [], ◌∷◌, ◌++◌, length, take, drop, get_or}
use Rattle.grammar.specs.Bytes.{class_of, Word, word_of}
use Rattle.grammar.specs.Grammar.{Lexeme, word, between, lexemes_from}
use Rattle.lexing.specs.Codes.{class_code}
use Rattle.lexing.specs.Words.{lexeme_in}
use Rattle.lexing.specs.declared.lexemes.Lexed.{Lexed}

-- the lexemes of a text, where no comment and no run goes on
abbrev pub lexemes_of : List ℕ → List Lexeme
lexemes_of text = lexemes_from between text

-- the bytes from s up to before e
abbrev pub part : List ℕ → ℕ → ℕ → List ℕ
part text s e = take (e - s) (drop s text)

-- the lexemes from byte i on
abbrev pub lexemes_at : List ℕ → ℕ → List Lexeme
lexemes_at text i = lexemes_of (drop i text)

-- `rest` is the text from some byte on
abbrev pub Tail : List ℕ → List ℕ → Type 0
Tail text rest = (k : ℕ) × (k ≤ length text) × (rest ≡ drop k text)

-- ---- the parts of the search

-- White space and comments of the text are skipped: what is left starts with a lexeme, or is empty.
pub record Skipped (text rest : List ℕ) : Type 0 where
  pub tail : Tail text rest
  pub fewer : length rest ≤ length text
  pub same : lexemes_of text ≡ lexemes_of rest
  pub starts : 0 < length rest → 3 ≤ class_code (class_of (get_or rest 0 0))

-- The run at the start of a text ends before r.
pub record RunEnds (text : List ℕ) (r : ℕ) : Type 0 where
  pub some : 0 < r
  pub inside : r ≤ length text
  pub whole : lexemes_of text ≡ word (word_of (take r text)) ∷ lexemes_of (drop r text)

-- what a byte does between lexemes and then in a comment, by its class: 0 it leaves us between lexemes, 1 in a comment, 2 a lexeme starts
abbrev pub skips : List ℕ
skips = 0 ∷ 0 ∷ 1 ∷ 2 ∷ 2 ∷ 2 ∷ 2 ∷ 2 ∷ 1 ∷ 0 ∷ 1 ∷ 1 ∷ 1 ∷ 1 ∷ 1 ∷ 1 ∷ []

-- ---- the next lexeme

-- a word is a run of the text's bytes, and `rest` stands directly behind it
abbrev pub Stands : List ℕ → Word → List ℕ → Type 0
Stands text w rest = (run : List ℕ) × (0 < length run) × (w ≡ word_of run) × Tail text (run ++ rest)

-- It is the first of the text's, and those behind it are the others; what is left is the text from some byte on, and shorter.
pub record Found (text : List ℕ) (l : Lexed) : Type 0 where
  pub next : lexemes_of text ≡ lexeme_in l.lexeme ∷ lexemes_of l.rest.now
  pub tail : Tail text l.rest.now
  pub run : (w : Word) → lexeme_in l.lexeme ≡ word w → Stands text w l.rest.now
  pub fewer : length l.rest.now < length text

-- ---- behind the first lexeme

unfoldable pub rest_of : List Lexeme → List Lexeme
rest_of [] = []
rest_of (l ∷ ls) = ls

-- Of the text there is left what has the lexemes ls; it is the text from some byte on, and shorter where there was a lexeme.
pub record Leaves (text : List ℕ) (ls : List Lexeme) (rest : List ℕ) : Type 0 where
  pub lexemes : lexemes_of rest ≡ ls
  pub tail : Tail text rest
  pub fewer : length rest ≤ length text
  pub moves : (lexemes_of text ≡ [] → ⊥) → length rest < length text
