-- Names: the kind that is due where each stands, and refusal 20 ('unknown word, with its first byte, where a name isn't a declared one of
-- the kind due; the earlier byte wins').
use Rattle.std.specs.Prelude.{ℕ, suc, ◌+◌, ◌-◌, ◌≡◌, ◌⊎◌, Bool, true, false, cond, ◌&&◌, length}
use mathlib.Core.List.{List, [], ◌∷◌, ◌++◌}
use Rattle.std.proofs.Math.Option.{Option, none, some}
use Rattle.grammar.specs.Bytes.{Class, space, lineEnd, semicolon, opening, closing, digit, symbol, other, Word, constant, negation, connective}
use Rattle.grammar.specs.Bytes.{quantifier, letting, sort, name, class_of, word_of}
use Rattle.grammar.specs.Grammar.{SortedVariable, declares, Formula, called, truth, bracketed, Bracketed, denies, connects, applies, quantifies}
use Rattle.grammar.specs.Grammar.{lets, Formulas, no_formula, and_formula, Bindings, no_binding, and_binding}
use Rattle.grammar.specs.Grammar.{Mode, between, comment, within}
use Rattle.grammar.specs.Parser.{Due, formula, formulas, inside, opener, closer, sorted, sorteds, bound, bounds, variable, sortName, State}
use Rattle.grammar.specs.Parser.{step, Outcome, read, unread, start, parse}

-- ---- the names of a formula

-- The kind due: a variable or a symbol, where a name is a formula; a symbol, after a bracket; a variable, where it is bound.
pub data Place : Type 0 where
  either symbolOnly variableOnly : Place

pub record Name : Type 0 where
  pub place : Place
  pub spelled : List ℕ

abbrev one : Place → List ℕ → List Name → List Name
one p w rest = record { place = p; spelled = w } ∷ rest

-- the names of the variables of a quantifier, left to right, and then `rest`
unfoldable pub variable_names : List SortedVariable → List Name → List Name
variable_names [] rest = rest
variable_names (declares x s ∷ xs) rest = one variableOnly x (variable_names xs rest)

unfoldable mutual
  unfolding variable_names

  -- the names of a formula, left to right, and then `rest`
  pub names : Formula → List Name → List Name
  names (called w) rest = one either w rest
  names (truth v) rest = rest
  names (bracketed b) rest = names_inside b rest

  pub names_inside : Bracketed → List Name → List Name
  names_inside (denies φ) rest = names φ rest
  names_inside (connects c φ ψ) rest = names φ (names ψ rest)
  names_inside (applies f φ φs) rest = one symbolOnly f (names φ (names_of_all φs rest))
  names_inside (quantifies q x xs φ) rest = variable_names (x ∷ xs) (names φ rest)
  names_inside (lets x φ xs ψ) rest = one variableOnly x (names φ (names_bound xs (names ψ rest)))

  pub names_of_all : Formulas → List Name → List Name
  names_of_all no_formula rest = rest
  names_of_all (and_formula φ φs) rest = names φ (names_of_all φs rest)

  pub names_bound : Bindings → List Name → List Name
  names_bound no_binding rest = rest
  names_bound (and_binding x φ xs) rest = one variableOnly x (names φ (names_bound xs rest))

-- ---- the names that the parser meets

-- a name where d is due
unfoldable pub name_at : Due → List ℕ → List Name
name_at formula w = one either w []
name_at formulas w = one either w []
name_at inside w = one symbolOnly w []
name_at opener w = []
name_at closer w = []
name_at sorted w = []
name_at sorteds w = []
name_at bound w = []
name_at bounds w = []
name_at variable w = one variableOnly w []
name_at sortName w = []

unfoldable pub word_at : Due → Word → List Name
unfolding name_at
word_at d (constant v) = []
word_at d negation = []
word_at d (connective c) = []
word_at d (quantifier q) = []
word_at d letting = []
word_at d (sort s) = []
word_at d (name w) = name_at d w

unfoldable pub met_at : List Due → Word → List Name
unfolding word_at
met_at [] w = []
met_at (d ∷ σ) w = word_at d w

pub record Located : Type 0 where
  pub first : ℕ
  pub called : Name

unfoldable pub locate : ℕ → List Name → List Located
locate n [] = []
locate n (x ∷ xs) = record { first = n; called = x } ∷ locate n xs

unfoldable pub called_of : List Located → List Name
called_of [] = []
called_of (l ∷ ls) = l.called ∷ called_of ls

-- the name that ends before byte n
unfoldable pub ends_at : ℕ → Mode → List Due → List Located
unfolding met_at locate word_of
ends_at n between σ = []
ends_at n comment σ = []
ends_at n (within w) σ = locate (n - length w) (met_at σ (word_of w))

-- the name that byte n ends
unfoldable pub ended_by : Class → ℕ → Mode → List Due → List Located
unfolding ends_at
ended_by space n m σ = ends_at n m σ
ended_by lineEnd n m σ = ends_at n m σ
ended_by semicolon n m σ = ends_at n m σ
ended_by opening n m σ = ends_at n m σ
ended_by closing n m σ = ends_at n m σ
ended_by digit n m σ = []
ended_by symbol n m σ = []
ended_by other n m σ = ends_at n m σ

module _ {A : Type 0} where
  unfoldable pub while_steps : {B : Type 0} → Option (State A) → (State A → List B) → List B
  while_steps none f = []
  while_steps (some st) f = f st

  unfoldable pub met_from : ℕ → List ℕ → State A → List Located
  unfolding ends_at ended_by while_steps step class_of
  met_from n [] st = ends_at n st.mode st.stack.due
  met_from n (c ∷ cs) st = ended_by (class_of c) n st.mode st.stack.due ++ while_steps (step st c) (met_from (suc n) cs)

-- the names of a text, with their first bytes, up to where it is unread
unfoldable pub met : List ℕ → List Located
unfolding met_from start
met text = met_from 0 text start

-- ---- what is said of them

abbrev pub Every : (Located → Type 0) → List Located → Type 0
Every P [] = Unit {0}
Every P (l ∷ ls) = P l × Every P ls

-- it is one of them
abbrev pub In : Located → List Located → Type 0
In l [] = ⊥
In l (m ∷ ms) = (l ≡ m) ⊎ In l ms

-- the byte after it
abbrev pub past_of : Located → ℕ
past_of l = l.first + length l.called.spelled

-- a symbol character
unfoldable pub in_run : Class → Bool
in_run space = false
in_run lineEnd = false
in_run semicolon = false
in_run opening = false
in_run closing = false
in_run digit = true
in_run symbol = true
in_run other = false

-- a run of symbol characters ends before these bytes
abbrev pub EndsRun : List ℕ → Type 0
EndsRun [] = Unit {0}
EndsRun (c ∷ cs) = in_run (class_of c) ≡ false

-- the name stands in the text, whole, from its first byte on
pub record StandsIn (text : List ℕ) (l : Located) : Type 0 where
  pub before : List ℕ
  pub after : List ℕ
  pub parts : text ≡ before ++ (l.called.spelled ++ after)
  pub place : l.first ≡ length before
  pub whole : EndsRun after

-- ---- unknown words

-- the first byte of the first name that is not known
unfoldable pub first_unknown : (Name → Bool) → List Located → Option ℕ
first_unknown known [] = none
first_unknown known (l ∷ ls) = cond (known l.called) (first_unknown known ls) (some l.first)

unfoldable pub all_known : (Name → Bool) → List Name → Bool
all_known known [] = true
all_known known (x ∷ xs) = known x && all_known known xs

pub data Resolved : Type 0 where
  resolved : Formula → Resolved
  unread_at : ℕ → Resolved
  unknown_at : ℕ → Resolved

unfoldable pub otherwise : Outcome Formula → Resolved
otherwise (read φ) = resolved φ
otherwise (unread n) = unread_at n

unfoldable pub or_unknown : Option ℕ → Resolved → Resolved
or_unknown none r = r
or_unknown (some m) r = unknown_at m

-- The names met before the byte of 19 stand before it, so an unknown one of them is the earlier.
unfoldable pub resolve : (Name → Bool) → List ℕ → Resolved
unfolding first_unknown met parse otherwise or_unknown
resolve known text = or_unknown (first_unknown known (met text)) (otherwise (parse text))
