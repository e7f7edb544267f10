-- What stands at the start of a text that spells a formula: its head, a variable of a quantifier's list, a part of a list.
use Rattle.std.specs.Prelude.{IfSome, ℕ, ◌≤◌, ◌<◌, ◌≡◌, Bool, true, false, cond, Option, Some, None, List, [], ◌∷◌, length}
use Rattle.logic.specs.Terms.{Binder}
use Rattle.logic.specs.Named.{binder_in}
use Rattle.grammar.specs.Bytes.{Word, constant, negation, connective, quantifier, letting, name}
use Rattle.grammar.specs.Grammar.{SortedVariable, declares, Formula, called, truth, bracketed, Bracketed, denies, connects, applies, quantifies, lets}
use Rattle.grammar.specs.Grammar.{Formulas, no_formula, and_formula, Bindings, no_binding, and_binding, Lexeme, opens, closes, word}
use Rattle.grammar.specs.Grammar.{spell, spell_bracketed, spell_variables}
use Rattle.lexing.specs.Counted.{variable_among}
use Rattle.lexing.specs.Lexes.{lexemes_of, Tail, Stands}
use Rattle.lexing.specs.Words.{word_in}
use Rattle.heads.specs.declared.Head.{Head}
use Rattle.heads.specs.declared.Headed.{Headed}
use Rattle.heads.specs.declared.Item.{Item}

-- ---- parts of a list: arguments up to the closing bracket, or a let's pairs up to its list's

pub record Part : Type 0 where
  pub called : List ℕ
  pub formula : Formula

-- what follows a part's formula
unfoldable pub after_part : Bool → List Lexeme → List Lexeme
after_part true rest = closes ∷ rest
after_part false rest = rest

-- bound: '(', a variable, the formula, ')'; else the formula
unfoldable pub spell_part : Bool → Part → List Lexeme → List Lexeme
unfolding after_part spell
spell_part true p rest = opens ∷ word (name p.called) ∷ spell p.formula (after_part true rest)
spell_part false p rest = spell p.formula (after_part false rest)

unfoldable pub spell_parts : Bool → List Part → List Lexeme → List Lexeme
unfolding spell_part
spell_parts bound [] rest = closes ∷ rest
spell_parts bound (p ∷ ps) rest = spell_part bound p (spell_parts bound ps rest)

unfoldable pub arguments : Formulas → List Part
arguments no_formula = []
arguments (and_formula φ φs) = record { called = []; formula = φ } ∷ arguments φs

unfoldable pub pairs : Bindings → List Part
pairs no_binding = []
pairs (and_binding x φ xs) = record { called = x; formula = φ } ∷ pairs xs

-- ---- the head of a formula

-- a word alone, the word of an application, a quantifier, a let
pub data Opening : Type 0 where
  alone : Word → Opening
  application : Word → Opening
  quantifying : Binder → Opening
  binding : Opening

abbrev pub head_in : Head → Opening
head_in (Head.Alone w) = alone (word_in w)
head_in (Head.Application w) = application (word_in w)
head_in (Head.Quantifier q) = quantifying (binder_in q)
head_in Head.Let = binding

-- the word of a head is a run of the text's bytes: `rest` stands directly behind it, or, behind the opening bracket of a list, in what does
abbrev pub StandsBefore : List ℕ → Word → List ℕ → Type 0
StandsBefore text w rest = (behind : List ℕ) × Stands text w behind × Tail behind rest

abbrev pub HeadStands : List ℕ → Opening → List ℕ → Type 0
HeadStands text (alone w) rest = Stands text w rest
HeadStands text (application w) rest = Stands text w rest
HeadStands text (quantifying q) rest = StandsBefore text (quantifier q) rest
HeadStands text binding rest = StandsBefore text letting rest

-- there is a head: it is k, and behind it these lexemes follow
abbrev pub Starts : Option Headed → Opening → List Lexeme → Type 0
Starts None k ls = ⊥
Starts (Some h) k ls = (head_in h.head ≡ k) × (lexemes_of h.rest.now ≡ ls)

abbrev pub HeadInside : Option Headed → Bracketed → List Lexeme → Type 0
HeadInside r (denies φ) rest = Starts r (application negation) (spell_parts false (record { called = []; formula = φ } ∷ []) rest)
HeadInside r (connects c φ ψ) rest =
    Starts r (application (connective c)) (spell_parts false (record { called = []; formula = φ } ∷ record { called = []; formula = ψ } ∷ []) rest)
HeadInside r (applies f φ φs) rest = Starts r (application (name f)) (spell_parts false (record { called = []; formula = φ } ∷ arguments φs) rest)
HeadInside r (quantifies q x xs φ) rest = Starts r (quantifying q) (spell_variables (x ∷ xs) (spell φ (closes ∷ rest)))
HeadInside r (lets x φ xs ψ) rest = Starts r binding (spell_parts true (record { called = x; formula = φ } ∷ pairs xs) (spell ψ (closes ∷ rest)))

abbrev pub HeadOf : Option Headed → Formula → List Lexeme → Type 0
HeadOf r (called w) rest = Starts r (alone (name w)) rest
HeadOf r (truth v) rest = Starts r (alone (constant v)) rest
HeadOf r (bracketed φ) rest = HeadInside r φ rest

-- The head of a formula, whose word is a run of the text, and behind it the text from some byte on; `None` where none starts.
pub record HeadAt (text : List ℕ) (r : Option Headed) : Type 0 where
  pub tail : IfSome r (λ h. Tail text h.rest.now)
  pub run : IfSome r (λ h. HeadStands text (head_in h.head) h.rest.now)
  pub fewer : IfSome r (λ h. length h.rest.now < length text)
  pub means : (φ : Formula) (rest : List Lexeme) → lexemes_of text ≡ spell φ rest → HeadOf r φ rest

-- The same behind an opening bracket.
pub record BracketedAt (text : List ℕ) (r : Option Headed) : Type 0 where
  pub tail : IfSome r (λ h. Tail text h.rest.now)
  pub run : IfSome r (λ h. HeadStands text (head_in h.head) h.rest.now)
  pub fewer : IfSome r (λ h. length h.rest.now < length text)
  pub means : (φ : Bracketed) (rest : List Lexeme) → lexemes_of text ≡ spell_bracketed φ rest → HeadInside r φ rest

-- The head k and a lexeme, the opening bracket of its list.
pub record ListedAt (text : List ℕ) (k : Opening) (r : Option Headed) : Type 0 where
  pub head : IfSome r (λ h. head_in h.head ≡ k)
  pub tail : IfSome r (λ h. Tail text h.rest.now)
  pub fewer : IfSome r (λ h. length h.rest.now < length text)
  pub means : (l : Lexeme) (ls : List Lexeme) → lexemes_of text ≡ l ∷ ls → Starts r k ls

-- ---- the next of a list, or the list's end

pub record Ends (r : Item) (ls : List Lexeme) : Type 0 where
  pub last : r.variable ≡ None
  pub after : lexemes_of r.rest.now ≡ ls

pub record GoesOn (r : Item) (x : ℕ) (ls : List Lexeme) : Type 0 where
  pub variable : r.variable ≡ Some x
  pub after : lexemes_of r.rest.now ≡ ls

-- of a quantifier's variables, where so many are declared
abbrev pub VariableOf : ℕ → Item → List SortedVariable → List Lexeme → Type 0
VariableOf n r [] rest = Ends r rest
VariableOf n r (declares x s ∷ xs) rest = GoesOn r (variable_among n x) (spell_variables xs rest)

-- of parts; the variable of an argument is 0
abbrev pub PartOf : ℕ → Bool → Item → List Part → List Lexeme → Type 0
PartOf n bound r [] rest = Ends r rest
PartOf n bound r (p ∷ ps) rest = GoesOn r (cond bound (variable_among n p.called) 0) (spell p.formula (after_part bound (spell_parts bound ps rest)))

-- The first item, or the list's end; and behind it the text from some byte on.
pub record ItemAt (text : List ℕ) (r : Item) : Type 0 where
  pub tail : Tail text r.rest.now
  pub fewer : length r.rest.now ≤ length text
  pub word : IfSome r.variable (λ x. x ≤ 4294967295)

-- where so many variables are declared, the one that is named first
pub record NamedAt (text : List ℕ) (n : ℕ) (r : Item) : Type 0 where
  pub item : ItemAt text r
  pub means : (w : List ℕ) (ls : List Lexeme) → lexemes_of text ≡ word (name w) ∷ ls → GoesOn r (variable_among n w) ls

pub record VariableAt (text : List ℕ) (n : ℕ) (r : Item) : Type 0 where
  pub item : ItemAt text r
  pub further : IfSome r.variable (λ x. length r.rest.now < length text)
  pub means : (xs : List SortedVariable) (rest : List Lexeme) → lexemes_of text ≡ spell_variables xs rest → VariableOf n r xs rest

pub record PartAt (text : List ℕ) (n : ℕ) (bound : Bool) (r : Item) : Type 0 where
  pub item : ItemAt text r
  pub means : (ps : List Part) (rest : List Lexeme) → lexemes_of text ≡ spell_parts bound ps rest → PartOf n bound r ps rest

-- behind a part, from the text behind its formula
pub record PartEnd (bound : Bool) (text rest : List ℕ) : Type 0 where
  pub tail : Tail text rest
  pub fewer : length rest ≤ length text
  pub means : (ls : List Lexeme) → lexemes_of text ≡ after_part bound ls → lexemes_of rest ≡ ls
