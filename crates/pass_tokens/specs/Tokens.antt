-- What stands at the start of a text, where it is what is due: its lexemes, and the bytes that are left behind it, which are the text from some byte on.
-- Nothing is said where it is not.
use Rattle.std.specs.Prelude.{IfSome, ℕ, ◌+◌, ◌≤◌, ◌<◌, ◌≡◌, Bool, true, cond, Option, ◌&&◌, ◌||◌, List, ◌∷◌, length, drop, eqb}
use Rattle.bundle.specs.Words.{largest_word}
use Rattle.logic.specs.Named.{binder_in}
use Rattle.grammar.specs.Bytes.{class_of, Word, quantifier, letting, sort, name, word_of}
use Rattle.grammar.specs.Grammar.{Lexeme, opens, closes, word, comment, within, lexemes_from}
use Rattle.reading.specs.Called.{decimal, is_numeral}
use Rattle.lexing.specs.Codes.{class_code}
use Rattle.lexing.specs.Counted.{variable_among}
use Rattle.lexing.specs.Words.{sort_in}
use Rattle.lexing.specs.Lexes.{part, lexemes_of, lexemes_at, Tail}
use Rattle.heads.specs.HeadSymbols.{symbol_for}
use Rattle.pass_tokens.specs.declared.Meaning.{Meaning}
use Rattle.pass_tokens.specs.declared.Meaning.TheVariants.{Variable, Symbol, Binder, Let, Sort}
use Rattle.pass_tokens.specs.declared.Sorted.{Sorted}
use Rattle.pass_tokens.specs.declared.words.Token.{Token}
use Rattle.pass_tokens.specs.declared.words.Digits.{Digits}

-- ---- white space, comments, brackets

-- what a comment hides from byte i on ends at r
pub record LineEnd (text : List ℕ) (i r : ℕ) : Type 0 where
  pub after : i ≤ r
  pub inside : r ≤ length text
  pub same : lexemes_from comment (drop i text) ≡ lexemes_at text r

-- white space and comments stand before the rest
pub record Blanks (text rest : List ℕ) : Type 0 where
  pub tail : Tail text rest
  pub fewer : length rest ≤ length text
  pub same : lexemes_of text ≡ lexemes_of rest

-- an opening bracket is next, a closing one
pub record Opened (text rest : List ℕ) : Type 0 where
  pub tail : Tail text rest
  pub fewer : length rest < length text
  pub opened : lexemes_of text ≡ opens ∷ lexemes_of rest

pub record Closed (text rest : List ℕ) : Type 0 where
  pub tail : Tail text rest
  pub fewer : length rest < length text
  pub closed : lexemes_of text ≡ closes ∷ lexemes_of rest

-- ---- words

-- a byte that goes on a run: a digit or another symbol character
abbrev pub goes_on : ℕ → Bool
goes_on x = eqb (class_code (class_of x)) 5 || eqb (class_code (class_of x)) 6

-- no run goes on at byte j: whatever run came before it ends there
abbrev pub RunStops : List ℕ → ℕ → Type 0
RunStops text j = (w : List ℕ) → j ≤ length text → lexemes_from (within w) (drop j text) ≡ word (word_of w) ∷ lexemes_at text j

-- digits stand from `from` up to the end, no zero first, and have the value, which is not 0
pub record DigitsTo (text : List ℕ) (from high : ℕ) (d : Digits) : Type 0 where
  pub after : from < d.end
  pub inside : d.end ≤ length text
  pub some : d.value ≡ 0 → ⊥
  pub most : d.value ≤ high
  pub numeral : is_numeral (part text from d.end) ≡ true
  pub value : decimal 0 (part text from d.end) ≡ d.value

abbrev pub DigitsAt : List ℕ → (from high : ℕ) → Option Digits → Type 0
DigitsAt text from high r = IfSome r (DigitsTo text from high)

-- a word stands at byte s, and the run ends with it
pub record WordStands (text : List ℕ) (s : ℕ) (w : List ℕ) : Type 0 where
  pub inside : s + length w ≤ length text
  pub spelled : part text s (s + length w) ≡ w
  pub stops : RunStops text (s + length w)

-- a symbol by its number and the sort of its first argument: 7 and 8 are equality
abbrev pub equal_on : ℕ → ℕ → ℕ
equal_on f s = cond (eqb f 7 && eqb s 1) 8 f

-- the word w stands at byte s, and is said to mean m
abbrev pub WordIf : List ℕ → ℕ → List ℕ → Meaning → Option Token → Type 0
WordIf text s w m r = IfSome r (λ t. WordStands text s w × (t ≡ record { meaning = m; end = s + length w }))

-- What the word before the rest means, where so many symbols and variables are declared.
abbrev pub Means : (symbols variables : ℕ) (text rest : List ℕ) → Meaning → Type 0
Means symbols variables text rest (Variable n) =
    (n ≤ largest_word) × ((w : List ℕ) × (lexemes_of text ≡ word (name w) ∷ lexemes_of rest) × (variable_among variables w ≡ n) × (n ≡ 0 → ⊥))
Means symbols variables text rest (Symbol n) =
    (n ≤ largest_word)
    × ((w : Word) × (lexemes_of text ≡ word w ∷ lexemes_of rest) × ((s : ℕ) → s ≤ 1 → symbol_for symbols w s ≡ equal_on n s) × (n ≡ 0 → ⊥))
Means symbols variables text rest (Binder q) = lexemes_of text ≡ word (quantifier (binder_in q)) ∷ lexemes_of rest
Means symbols variables text rest Let = lexemes_of text ≡ word letting ∷ lexemes_of rest
Means symbols variables text rest (Sort s) = lexemes_of text ≡ word (sort (sort_in s)) ∷ lexemes_of rest

-- The word at byte i.
pub record TokenTo (symbols variables : ℕ) (text : List ℕ) (i : ℕ) (t : Token) : Type 0 where
  pub further : i < t.end
  pub inside : t.end ≤ length text
  pub means : Means symbols variables (drop i text) (drop t.end text) t.meaning

abbrev pub WordAt : (symbols variables : ℕ) (text : List ℕ) (i : ℕ) → Option Token → Type 0
WordAt symbols variables text i r = IfSome r (TokenTo symbols variables text i)

-- The word that stands next.
pub record WordTo (symbols variables : ℕ) (text rest : List ℕ) (m : Meaning) : Type 0 where
  pub tail : Tail text rest
  pub fewer : length rest < length text
  pub means : Means symbols variables text rest m

-- ---- heads and variables

-- what the head of a formula means, after which a formula's parts stand, or the list of a binder's variables or of a let's pairs, which is not empty
abbrev pub Heads : (symbols : ℕ) (text rest : List ℕ) → Meaning → Type 0
Heads symbols text rest (Variable n) = ⊥
Heads symbols text rest (Symbol n) =
    (n ≤ largest_word)
    × ((w : Word) × (lexemes_of text ≡ word w ∷ lexemes_of rest) × ((s : ℕ) → s ≤ 1 → symbol_for symbols w s ≡ equal_on n s))
Heads symbols text rest (Binder q) =
    (ls : List Lexeme) × (lexemes_of text ≡ word (quantifier (binder_in q)) ∷ opens ∷ lexemes_of rest) × (lexemes_of rest ≡ opens ∷ ls)
Heads symbols text rest Let = (ls : List Lexeme) × (lexemes_of text ≡ word letting ∷ opens ∷ lexemes_of rest) × (lexemes_of rest ≡ opens ∷ ls)
Heads symbols text rest (Sort s) = ⊥

-- The head of a formula, after its opening bracket.
pub record HeadTo (symbols : ℕ) (text rest : List ℕ) (m : Meaning) : Type 0 where
  pub tail : Tail text rest
  pub fewer : length rest < length text
  pub heads : Heads symbols text rest m

-- A variable of a quantifier's list.
pub record SortedTo (variables : ℕ) (text rest : List ℕ) (x : Sorted) : Type 0 where
  pub tail : Tail text rest
  pub fewer : length rest < length text
  pub small : x.variable ≤ largest_word
  pub some : x.variable ≡ 0 → ⊥
  pub called : List ℕ
  pub listed : lexemes_of text ≡ opens ∷ word (name called) ∷ word (sort (sort_in x.sort)) ∷ closes ∷ lexemes_of rest
  pub variable : variable_among variables called ≡ x.variable

-- The variable x of a let's list, up to its bound formula.
pub record BoundTo (variables : ℕ) (text rest : List ℕ) (x : ℕ) : Type 0 where
  pub tail : Tail text rest
  pub fewer : length rest < length text
  pub small : x ≤ largest_word
  pub some : x ≡ 0 → ⊥
  pub called : List ℕ
  pub listed : lexemes_of text ≡ opens ∷ word (name called) ∷ lexemes_of rest
  pub variable : variable_among variables called ≡ x
