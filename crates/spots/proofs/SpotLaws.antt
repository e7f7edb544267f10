-- THE TABLE DOES WHAT THE GRAMMAR DOES: a lexeme at a spot, against the stack machine on what is due there.
--     due_opens, due_closes, due_stray, due_word     a lexeme
--     due_grows, due_named                           what a run may become; the kind of name due
--     due_ends                                       the text may end at spot 0 alone
use Prim.Native.Nat.{ℕ, zero, suc, ◌<◌}
use native.Mathlib.Omega.{arith}
use native.Mathlib.Decide.{ℕ_discrete}
use mathlib.Core.Path.{◌≡◌, refl}
use mathlib.Core.Bool.{Bool, true, false, cond, ◌||◌, false≢true}
use mathlib.Core.List.{List, [], ◌∷◌, ◌++◌}
use mathlib.Core.Option.{Option, none, some}
use lib.Dec.{eqb, ltb}
use Rattle.std.proofs.Common.{rules}
use Rattle.grammar.specs.Bytes.{Word, constant, negation, connective, quantifier, letting, sort, name, bytes}
use Rattle.grammar.specs.Grammar.{Lexeme, opens, closes, word, stray}
use Rattle.grammar.specs.Parser.{Due, Stack, stack_of, takes, and_then, push, advance, on_formula, on_formulas, on_inside, on_variable, on_sort, complete, starts, may_grow}
use Rattle.grammar.specs.Names.{Name, name_at, word_at, met_at}
use Rattle.lexing.specs.Codes.{word_code}
use Rattle.lexing.specs.Counted.{place_of}
use Rattle.spots.specs.Spots.{wants, wanted, owed, due_at, cell, behind, Nested}
use Rattle.bundle.specs.Lists.{has}

-- what is true of each number below n
abbrev Upto : (ℕ → Type 0) → ℕ → Type 0
Upto P zero = Unit {0}
Upto P (suc n) = Upto P n × P n

upto_at : (P : ℕ → Type 0) (n : ℕ) → Upto P n → (i : ℕ) → i < n → P i
upto_at P zero h i l = absurd (omega (arith, l))
upto_at P (suc n) h i l = go (ℕ_discrete i n) (upto_at P n h.0 i)
  where
    go : Dec (i ≡ n) → (i < n → P i) → P i
    go (yes e) f = rw e h.1
    go (no ne) f = f (omega arith)

-- an equation about what is due at a spot, whatever is due behind it
abbrev EachSpot : {A : Type 0} → (List Due → A) → (ℕ → List Due → A) → ℕ → Type 0
EachSpot f g zero = Unit {0}
EachSpot f g (suc s) = (rest : List Due) → f (wanted (suc s) ++ rest) ≡ g (suc s) rest

-- it holds at spot 0 too, where nothing is held
module _ {A : Type 0} (f : List Due → A) (g : ℕ → List Due → A) (each : Upto (EachSpot f g) 20) (end : f [] ≡ g 0 []) where
  at_spot : (s : ℕ) (held : List ℕ) → s < 20 → Nested s held → f (due_at s held) ≡ g s (owed held)
  unfolding due_at wanted wants owed behind has
  at_spot s held l n = go s held n (upto_at (EachSpot f g) 20 each s l)
    where
      go : (s : ℕ) (held : List ℕ) → Nested s held → EachSpot f g s → f (wanted s ++ owed held) ≡ g s (owed held)
      go zero [] n e = end
      go zero (u ∷ held) n e = absurd (false≢true n.0)
      go (suc s) held n e = e (owed held)

-- ---- the table

abbrev pub stack_if : Bool → List Due → Option (Stack (Unit {0}))
stack_if b σ = cond b (some (stack_of σ)) none

abbrev taken : Lexeme → List Due → Option (Stack (Unit {0}))
taken l σ = takes σ (λ f. tt) l

abbrev pub opened_to : ℕ → List Due → Option (Stack (Unit {0}))
opened_to s rest = stack_if (ltb (cell s 0) 20) (wanted (cell s 0) ++ (wanted (cell s 10) ++ rest))

abbrev pub closed_to : ℕ → List Due → Option (Stack (Unit {0}))
closed_to s rest = cond (eqb (cell s 1) 99) none (some (stack_of rest))

abbrev pub word_to : Word → ℕ → List Due → Option (Stack (Unit {0}))
word_to w s rest = stack_if (ltb (cell s (word_code w)) 20) (wanted (cell s (word_code w)) ++ rest)

opens_table : Upto (EachSpot (taken opens) opened_to) 20
unfolding wanted wants takes and_then push advance
opens_table = search rules

closes_table : Upto (EachSpot (taken closes) closed_to) 20
unfolding wanted wants takes and_then push advance
closes_table = search rules

stray_table : Upto (EachSpot (taken stray) (λ s rest. none)) 20
unfolding wanted wants takes and_then push advance
stray_table = search rules

words_table : (w : Word) → Upto (EachSpot (taken (word w)) (word_to w)) 20
unfolding wanted wants takes and_then push advance on_formula on_formulas on_inside on_variable on_sort word_code
words_table (constant v) = search rules
words_table negation = search rules
words_table (connective c) = search rules
words_table (quantifier q) = search rules
words_table letting = search rules
words_table (sort x) = search rules
words_table (name w) = search rules

abbrev pub grows_as : ℕ → List ℕ → Bool
grows_as g w = cond (eqb g 0) false (cond (eqb g 1) true (starts w (bytes "Bool") || starts w (bytes "Item")))

grows_table : (w : List ℕ) → Upto (EachSpot (may_grow w) (λ s rest. grows_as (cell s 11) w)) 20
unfolding wanted wants may_grow
grows_table w = search rules

abbrev pub named_as : ℕ → List ℕ → List Name
named_as s w = cond (ltb (cell s 9) 20) (record { place = place_of (cell s 12); spelled = w } ∷ []) []

names_table : (w : List ℕ) → Upto (EachSpot (λ σ. met_at σ (name w)) (λ s rest. named_as s w)) 20
unfolding wanted wants met_at word_at name_at
names_table w = search rules

module _ (s : ℕ) (held : List ℕ) (l : s < 20) (n : Nested s held) where
  pub due_opens : takes (due_at s held) (λ f. tt) opens ≡ opened_to s (owed held)
  unfolding takes
  due_opens = at_spot (taken opens) opened_to opens_table refl s held l n

  pub due_closes : takes (due_at s held) (λ f. tt) closes ≡ closed_to s (owed held)
  unfolding takes
  due_closes = at_spot (taken closes) closed_to closes_table refl s held l n

  pub due_stray : takes {A = Unit {0}} (due_at s held) (λ f. tt) stray ≡ none
  unfolding takes
  due_stray = at_spot (taken stray) (λ s rest. none) stray_table refl s held l n

  pub due_word : (w : Word) → takes (due_at s held) (λ f. tt) (word w) ≡ word_to w s (owed held)
  unfolding takes word_code
  due_word w = at_spot (taken (word w)) (word_to w) (words_table w) (nothing w) s held l n
    where
      nothing : (w : Word) → taken (word w) [] ≡ word_to w 0 []
      nothing (constant v) = refl
      nothing negation = refl
      nothing (connective c) = refl
      nothing (quantifier q) = refl
      nothing letting = refl
      nothing (sort x) = refl
      nothing (name w) = refl

  pub due_grows : (w : List ℕ) → may_grow w (due_at s held) ≡ grows_as (cell s 11) w
  unfolding may_grow
  due_grows w = at_spot (may_grow w) (λ s rest. grows_as (cell s 11) w) (grows_table w) refl s held l n

  pub due_named : (w : List ℕ) → met_at (due_at s held) (name w) ≡ named_as s w
  unfolding met_at
  due_named w = at_spot (λ σ. met_at σ (name w)) (λ s rest. named_as s w) (names_table w) refl s held l n

-- ---- the text's end

abbrev pub completed : List Due → Option (Unit {0})
completed σ = complete σ (λ f. tt)

abbrev pub ends_at_spot : ℕ → List Due → Option (Unit {0})
ends_at_spot s rest = cond (eqb s 0) (some tt) none

ends_table : Upto (EachSpot completed ends_at_spot) 20
unfolding wanted wants complete
ends_table = search rules

pub due_ends : (s : ℕ) (held : List ℕ) → s < 20 → Nested s held → completed (due_at s held) ≡ ends_at_spot s (owed held)
unfolding complete
due_ends s held l n = at_spot completed ends_at_spot ends_table refl s held l n
