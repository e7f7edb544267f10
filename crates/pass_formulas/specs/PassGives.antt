-- What the functions that read a formula in one pass give where they are not given up: `rest` is what is left of the text, from some byte on. D has the
-- declarations.
use Rattle.std.specs.Prelude.{ℕ, ◌≤◌, ◌<◌, ◌≡◌, true, false, List, [], ◌∷◌, length, drop}
use Rattle.bundle.specs.Words.{largest_word}
use Rattle.bundle.specs.Bundle.{Bundle, sort_of_variable}
use Rattle.bundle.specs.Lists.{has}
use Rattle.logic.specs.Symbols.{truth_sort}
use Rattle.logic.specs.Terms.{Binder, Term}
use Rattle.scratch.specs.Stack.{halves_of}
use Rattle.grammar.specs.Bytes.{Word, name}
use Rattle.grammar.specs.Grammar.{Formula, Lexeme, opens, closes, word, Reads}
use Rattle.grammar.specs.Names.{names}
use Rattle.reading.specs.Called.{variable_called}
use Rattle.reading.specs.Local.{head_sort, plain, fine}
use Rattle.reading.specs.Records.{file}
use Rattle.lexing.specs.Lexes.{lexemes_of, Tail}
use Rattle.heads.specs.HeadSymbols.{symbol_for}
use Rattle.pass_tokens.specs.Tokens.{equal_on}
use Rattle.pass_terms.specs.Passing.{PairPut}
use Rattle.pass_readings.specs.Spelled.{Known}
use Rattle.pass_readings.specs.Readings.{ReadAs, UnderAs}

-- the term that a word stands for has this number, by the sort of its first argument
abbrev pub SymbolIs : Bundle → Word → ℕ → Type 0
SymbolIs D w n = (s : ℕ) → s ≤ 1 → symbol_for (length D.symbols) w s ≡ equal_on n s

-- ---- b and st before the call, b' and st' after it

-- the formula that the lexemes ls spell
pub record Gives (D : Bundle) (text : List ℕ) (b : Bundle) (st : List ℕ) (ls : List Lexeme) (rest : List ℕ) (b' : Bundle) (st' : List ℕ) : Type 0 where
  pub tail : Tail text rest
  pub fewer : length rest < length text
  pub term : Term
  pub sort : ℕ
  pub read : ReadAs D ls (lexemes_of rest) term sort
  pub put : PairPut (file term b) sort st b' st'

-- the variables of a quantifier, its body and its closing bracket
pub record GivesUnder (D : Bundle) (text : List ℕ) (b : Bundle) (st : List ℕ) (q : Binder) (rest : List ℕ) (b' : Bundle) (st' : List ℕ) : Type 0 where
  pub tail : Tail text rest
  pub fewer : length rest < length text
  pub term : Term
  pub read : UnderAs D q (lexemes_of text) (lexemes_of rest) term
  pub put : PairPut (file term b) truth_sort st b' st'

-- a pair of a let: a variable that is not in the pairs from height h on, and a formula of its sort
pub record GivesBound (D : Bundle) (text : List ℕ) (b : Bundle) (st : List ℕ) (h : ℕ) (rest : List ℕ) (b' : Bundle) (st' : List ℕ) : Type 0 where
  pub tail : Tail text rest
  pub fewer : length rest < length text
  pub called : List ℕ
  pub follows : List Lexeme
  pub starts : lexemes_of text ≡ opens ∷ word (name called) ∷ follows
  pub known : variable_called D called ≡ 0 → ⊥
  pub new : has (variable_called D called) (halves_of false (drop h st)) ≡ false
  pub term : Term
  pub sort : ℕ
  pub read : ReadAs D follows (closes ∷ lexemes_of rest) term sort
  pub sorted : sort_of_variable D (variable_called D called) ≡ sort
  pub put : PairPut (file term b) (variable_called D called) st b' st'

-- ---- a whole text, which is read: b' has the records of its formula, and r is its term
pub record TextRead (D : Bundle) (text : List ℕ) (b b' : Bundle) (r : ℕ) : Type 0 where
  pub formula : Formula
  pub reads : Reads text formula
  pub known : Known D (names formula [])
  pub sorted : fine D formula ≡ true
  pub truth : head_sort D formula ≡ truth_sort
  pub term : r ≡ (file (plain D formula) b).term
  pub word : r ≤ largest_word
  pub bundle : b' ≡ (file (plain D formula) b).bundle
