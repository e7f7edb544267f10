-- THE PARSER: a predictive parser on a stack of what is still due, lexeme by lexeme, and from it one on bytes.
use Rattle.std.specs.Prelude.{ℕ, suc, Bool, true, false, ◌&&◌, ◌||◌, eqb}
use Rattle.std.proofs.Math.Bool.{cond}
use mathlib.Core.List.{List, [], ◌∷◌, ◌++◌}
use Rattle.std.proofs.Math.Option.{Option, none, some}
use Rattle.grammar.specs.Bytes.{SortWord, Word, constant, negation, connective, quantifier, letting, sort, name, class_of, bytes}
use Rattle.grammar.specs.Grammar.{SortedVariable, declares, Formula, called, truth, bracketed, Bracketed, denies, connects, applies, quantifies}
use Rattle.grammar.specs.Grammar.{lets, Formulas, no_formula, and_formula, Bindings, no_binding, and_binding, Lexeme, opens, closes, word, stray}
use Rattle.grammar.specs.Grammar.{Mode, between, comment, within, ends, onwards, last, spell, spell_variable, spell_variables, spell_bracketed}
use Rattle.grammar.specs.Grammar.{spell_formulas, spell_bindings}

-- ---- what may be due

pub data Due : Type 0 where
  -- a formula; formulas up to the closing bracket
  formula formulas : Due
  -- what stands between brackets, and the closing one
  inside : Due
  opener closer : Due
  -- a variable with its sort; such variables up to the closing bracket
  sorted sorteds : Due
  -- a variable with its bound formula; such pairs up to the closing bracket
  bound bounds : Due
  -- a variable's name; a sort
  variable sortName : Due

-- what each is read as
abbrev pub One : Due → Type 0
One formula = Formula
One formulas = Formulas
One inside = Bracketed
One opener = Unit {0}
One closer = Unit {0}
One sorted = SortedVariable
One sorteds = List SortedVariable
One bound = List ℕ × Formula
One bounds = Bindings
One variable = List ℕ
One sortName = SortWord

abbrev pub Fill : List Due → Type 0
Fill [] = Unit {0}
Fill (d ∷ σ) = One d × Fill σ

-- how it is spelled, and then `rest`
unfoldable pub spell_one : (d : Due) → One d → List Lexeme → List Lexeme
unfolding spell spell_variable spell_variables
spell_one formula x rest = spell x rest
spell_one formulas x rest = spell_formulas x rest
spell_one inside x rest = spell_bracketed x rest
spell_one opener x rest = opens ∷ rest
spell_one closer x rest = closes ∷ rest
spell_one sorted x rest = spell_variable x rest
spell_one sorteds x rest = spell_variables x rest
spell_one bound x rest = opens ∷ word (name x.0) ∷ spell x.1 (closes ∷ rest)
spell_one bounds x rest = spell_bindings x rest
spell_one variable x rest = word (name x) ∷ rest
spell_one sortName x rest = word (sort x) ∷ rest

unfoldable pub spell_fill : (σ : List Due) → Fill σ → List Lexeme → List Lexeme
unfolding spell_one
spell_fill [] f rest = rest
spell_fill (d ∷ σ) f rest = spell_one d f.0 (spell_fill σ f.1 rest)

-- ---- one lexeme

-- what is due after a lexeme, in place of d, and how d is read from what those are read as
pub record Move (d : Due) : Type 0 where
  pub next : List Due
  pub back : Fill next → One d

-- a word where a formula is due; among formulas up to a closing bracket; after an opening bracket; and so on
unfoldable pub on_formula : Word → Option (Move formula)
on_formula (constant v) = some (record { next = []; back = λ f. truth v })
on_formula negation = none
on_formula (connective c) = none
on_formula (quantifier q) = none
on_formula letting = none
on_formula (sort s) = none
on_formula (name w) = some (record { next = []; back = λ f. called w })

unfoldable pub on_formulas : Word → Option (Move formulas)
on_formulas (constant v) = some (record { next = formulas ∷ []; back = λ f. and_formula (truth v) f.0 })
on_formulas negation = none
on_formulas (connective c) = none
on_formulas (quantifier q) = none
on_formulas letting = none
on_formulas (sort s) = none
on_formulas (name w) = some (record { next = formulas ∷ []; back = λ f. and_formula (called w) f.0 })

unfoldable pub on_inside : Word → Option (Move inside)
on_inside (constant v) = none
on_inside negation = some (record { next = formula ∷ closer ∷ []; back = λ f. denies f.0 })
on_inside (connective c) = some (record { next = formula ∷ formula ∷ closer ∷ []; back = λ f. connects c f.0 f.1.0 })
on_inside (quantifier q) =
    some (record { next = opener ∷ sorted ∷ sorteds ∷ formula ∷ closer ∷ []; back = λ f. quantifies q f.1.0 f.1.1.0 f.1.1.1.0 })
on_inside letting =
    some (record { next = opener ∷ bound ∷ bounds ∷ formula ∷ closer ∷ []; back = λ f. lets f.1.0.0 f.1.0.1 f.1.1.0 f.1.1.1.0 })
on_inside (sort s) = none
on_inside (name w) = some (record { next = formula ∷ formulas ∷ []; back = λ f. applies w f.0 f.1.0 })

unfoldable pub on_variable : Word → Option (Move variable)
on_variable (constant v) = none
on_variable negation = none
on_variable (connective c) = none
on_variable (quantifier q) = none
on_variable letting = none
on_variable (sort s) = none
on_variable (name w) = some (record { next = []; back = λ f. w })

unfoldable pub on_sort : Word → Option (Move sortName)
on_sort (constant v) = none
on_sort negation = none
on_sort (connective c) = none
on_sort (quantifier q) = none
on_sort letting = none
on_sort (sort s) = some (record { next = []; back = λ f. s })
on_sort (name w) = none

unfoldable pub advance : (d : Due) → Lexeme → Option (Move d)
unfolding on_formula on_formulas on_inside on_variable on_sort
advance formula opens = some (record { next = inside ∷ []; back = λ f. bracketed f.0 })
advance formula closes = none
advance formula (word w) = on_formula w
advance formula stray = none
advance formulas opens = some (record { next = inside ∷ formulas ∷ []; back = λ f. and_formula (bracketed f.0) f.1.0 })
advance formulas closes = some (record { next = []; back = λ f. no_formula })
advance formulas (word w) = on_formulas w
advance formulas stray = none
advance inside opens = none
advance inside closes = none
advance inside (word w) = on_inside w
advance inside stray = none
advance opener opens = some (record { next = []; back = λ f. tt })
advance opener closes = none
advance opener (word w) = none
advance opener stray = none
advance closer opens = none
advance closer closes = some (record { next = []; back = λ f. tt })
advance closer (word w) = none
advance closer stray = none
advance sorted opens = some (record { next = variable ∷ sortName ∷ closer ∷ []; back = λ f. declares f.0 f.1.0 })
advance sorted closes = none
advance sorted (word w) = none
advance sorted stray = none
advance sorteds opens = some (record { next = variable ∷ sortName ∷ closer ∷ sorteds ∷ []; back = λ f. declares f.0 f.1.0 ∷ f.1.1.1.0 })
advance sorteds closes = some (record { next = []; back = λ f. [] })
advance sorteds (word w) = none
advance sorteds stray = none
advance bound opens = some (record { next = variable ∷ formula ∷ closer ∷ []; back = λ f. (f.0, f.1.0) })
advance bound closes = none
advance bound (word w) = none
advance bound stray = none
advance bounds opens = some (record { next = variable ∷ formula ∷ closer ∷ bounds ∷ []; back = λ f. and_binding f.0 f.1.0 f.1.1.1.0 })
advance bounds closes = some (record { next = []; back = λ f. no_binding })
advance bounds (word w) = none
advance bounds stray = none
advance variable opens = none
advance variable closes = none
advance variable (word w) = on_variable w
advance variable stray = none
advance sortName opens = none
advance sortName closes = none
advance sortName (word w) = on_sort w
advance sortName stray = none

-- ---- a stack of what is due, and how the whole is read from what that is read as

pub record Stack (A : Type 0) : Type 0 where
  pub due : List Due
  pub back : Fill due → A

abbrev pub split : (τ σ : List Due) → Fill (τ ++ σ) → Fill τ × Fill σ
split [] σ f = (tt, f)
split (d ∷ τ) σ f = ((f.0, (split τ σ f.1).0), (split τ σ f.1).1)

unfoldable pub and_then : {A B : Type 0} → Option A → (A → Option B) → Option B
and_then none f = none
and_then (some a) f = f a

module _ {A : Type 0} where
  unfoldable pub push : (d : Due) (σ : List Due) → (Fill (d ∷ σ) → A) → Move d → Stack A
  push d σ k m = record { due = m.next ++ σ; back = λ f. k (m.back (split m.next σ f).0, (split m.next σ f).1) }

  unfoldable pub takes : (σ : List Due) → (Fill σ → A) → Lexeme → Option (Stack A)
  unfolding and_then push advance
  takes [] k l = none
  takes (d ∷ σ) k l = and_then (advance d l) (λ m. some (push d σ k m))

  unfoldable pub feed : List Lexeme → Stack A → Option (Stack A)
  unfolding and_then takes
  feed [] s = some s
  feed (l ∷ ls) s = and_then (takes s.due s.back l) (feed ls)

  unfoldable pub complete : (σ : List Due) → (Fill σ → A) → Option A
  complete [] k = some (k tt)
  complete (d ∷ σ) k = none

  unfoldable pub run : List Lexeme → Stack A → Option A
  unfolding and_then feed complete
  run ls s = and_then (feed ls s) (λ s'. complete s'.due s'.back)

-- ---- bytes

-- u starts v
unfoldable pub starts : List ℕ → List ℕ → Bool
starts [] v = true
starts (x ∷ u) [] = false
starts (x ∷ u) (y ∷ v) = eqb x y && starts u v

-- a run that starts with w may become a word that is due
unfoldable pub may_grow : List ℕ → List Due → Bool
unfolding starts bytes
may_grow w [] = false
may_grow w (formula ∷ σ) = true
may_grow w (formulas ∷ σ) = true
may_grow w (inside ∷ σ) = true
may_grow w (opener ∷ σ) = false
may_grow w (closer ∷ σ) = false
may_grow w (sorted ∷ σ) = false
may_grow w (sorteds ∷ σ) = false
may_grow w (bound ∷ σ) = false
may_grow w (bounds ∷ σ) = false
may_grow w (variable ∷ σ) = true
may_grow w (sortName ∷ σ) = starts w (bytes "Bool") || starts w (bytes "Item")

unfoldable pub viable : Mode → List Due → Bool
unfolding may_grow
viable between σ = true
viable comment σ = true
viable (within w) σ = may_grow w σ

pub record State (A : Type 0) : Type 0 where
  pub mode : Mode
  pub stack : Stack A

pub data Outcome (A : Type 0) : Type 0 where
  read : A → Outcome A
  unread : ℕ → Outcome A

module _ {A : Type 0} where
  unfoldable pub enter : Mode → Stack A → Option (State A)
  unfolding viable
  enter m s = cond (viable m s.due) (some (record { mode = m; stack = s })) none

  unfoldable pub step : State A → ℕ → Option (State A)
  unfolding and_then feed enter ends onwards class_of
  step st c = and_then (feed (ends st.mode (class_of c)) st.stack) (enter (onwards st.mode c (class_of c)))

  unfoldable pub steps : List ℕ → State A → Option (State A)
  unfolding and_then step
  steps [] st = some st
  steps (c ∷ cs) st = and_then (step st c) (steps cs)

  unfoldable pub finish : State A → Option A
  unfolding run last
  finish st = run (last st.mode) st.stack

  unfoldable pub on_read : ℕ → Option A → Outcome A
  on_read n none = unread n
  on_read n (some a) = read a

  unfoldable pub on_step : ℕ → Option (State A) → (State A → Outcome A) → Outcome A
  on_step n none f = unread n
  on_step n (some st) f = f st

  unfoldable pub parse_from : ℕ → List ℕ → State A → Outcome A
  unfolding on_read on_step finish step
  parse_from n [] st = on_read n (finish st)
  parse_from n (c ∷ cs) st = on_step n (step st c) (parse_from (suc n) cs)

unfoldable pub start : State Formula
start = record { mode = between; stack = record { due = formula ∷ []; back = λ f. f.0 } }

unfoldable pub parse : List ℕ → Outcome Formula
unfolding parse_from start
parse text = parse_from 0 text start

-- ---- the parser that keeps no formula

abbrev pub stack_of : List Due → Stack (Unit {0})
stack_of σ = record { due = σ; back = λ f. tt }

unfoldable pub start_of_scan : State (Unit {0})
start_of_scan = record { mode = between; stack = stack_of (formula ∷ []) }

unfoldable pub judged : List ℕ → Outcome (Unit {0})
unfolding parse_from start_of_scan
judged text = parse_from 0 text start_of_scan
