-- THE THEOREM: sorts can be judged node by node, in any order, with no stack.
--     sorts_local
use Prim.Native.Nat.{ℕ, zero, suc}
use mathlib.Core.Path.{◌≡◌, refl}
use mathlib.Core.Bool.{Bool, true, false, ◌&&◌}
use mathlib.Core.Option.{Option, some}
use Rattle.bundle.specs.Bundle.{Bundle}
use Rattle.grammar.specs.Grammar.{called, truth, bracketed, Bracketed, denies, connects, applies, quantifies, lets, Formulas, no_formula}
use Rattle.grammar.specs.Grammar.{and_formula, Bindings, no_binding, and_binding}
use Rattle.grammar.specs.Parser.{and_then}
use Rattle.reading.specs.Called.{variable_called, symbol_called}
use Rattle.reading.specs.Typing.{TypedList, TypedBindings, only, applied, alone, quantified, letting, sorts}
use Rattle.reading.specs.Typing.{sorts_inside, sorts_all, sorts_bound}
use Rattle.reading.specs.Local.{alone_sort, alone_term, alone_fine, accepts, head_sort, inside_sort, head_sorts, bound_sorts, bound_names, plain}
use Rattle.reading.specs.Local.{plain_inside, plain_all, plain_bound, fine, fine_inside, fine_all, fine_bound, typed, SortsLocal}

-- one test after another
both : {A B : Type 0} (o : Option A) (p : Bool) (a : A) (f : A → Option B) (q : Bool) (c : B) → o ≡ only p a → f a ≡ only q c → and_then o f ≡ only (p && q) c
unfolding and_then
both o true a f q c e h = rw e h
both o false a f q c e h = rw e

after : {A B : Type 0} (o : Option A) (p : Bool) (a : A) (g : A → B) → o ≡ only p a → and_then o (λ x. some (g x)) ≡ only p (g a)
unfolding and_then
after o true a g e = rw e
after o false a g e = rw e

alone_local : (b : Bundle) (x f : ℕ) → alone b x f ≡ only (alone_fine b x f) (record { term = alone_term x f; sort = alone_sort b x f })
unfolding alone applied alone_fine alone_term alone_sort accepts
alone_local b zero f = refl
alone_local b (suc x) f = refl

abbrev listed : Bundle → Formulas → TypedList
listed b φs = record { terms = plain_all b φs; sorts = head_sorts b φs }

abbrev bindings : Bundle → Bindings → TypedBindings
bindings b xs = record { variables = bound_names b xs; terms = plain_bound b xs; sorts = bound_sorts b xs }

mutual
  unfolding sorts head_sort plain fine head_sorts bound_sorts bound_names applied accepts quantified letting and_then

  pub sorts_local : SortsLocal
  sorts_local b (called w) = alone_local b (variable_called b w) (symbol_called b w)
  sorts_local b (truth v) = refl
  sorts_local b (bracketed φ) = inside_local b φ

  inside_local : (b : Bundle) (φ : Bracketed) → sorts_inside b φ ≡ only (fine_inside b φ) (record { term = plain_inside b φ; sort = inside_sort b φ })
  inside_local b (denies φ) = both (sorts b φ) (fine b φ) (typed b φ) _ _ _ (sorts_local b φ) refl
  inside_local b (connects c φ ψ) =
      both (sorts b φ) (fine b φ) (typed b φ) _ _ _ (sorts_local b φ)
      (both (sorts b ψ) (fine b ψ) (typed b ψ) _ _ _ (sorts_local b ψ) refl)
  inside_local b (applies f φ φs) =
      both (sorts b φ) (fine b φ) (typed b φ) _ _ _ (sorts_local b φ)
      (both (sorts_all b φs) (fine_all b φs) (listed b φs) _ _ _ (all_local b φs) refl)
  inside_local b (quantifies q x xs φ) = both (sorts b φ) (fine b φ) (typed b φ) _ _ _ (sorts_local b φ) refl
  inside_local b (lets x φ xs ψ) =
      both (sorts b φ) (fine b φ) (typed b φ) _ _ _ (sorts_local b φ)
      (both (sorts_bound b xs) (fine_bound b xs) (bindings b xs) _ _ _ (bound_local b xs)
      (both (sorts b ψ) (fine b ψ) (typed b ψ) _ _ _ (sorts_local b ψ) refl))

  all_local : (b : Bundle) (φs : Formulas) → sorts_all b φs ≡ only (fine_all b φs) (listed b φs)
  all_local b no_formula = refl
  all_local b (and_formula φ φs) =
      both (sorts b φ) (fine b φ) (typed b φ) _ _ _ (sorts_local b φ)
      (after (sorts_all b φs) (fine_all b φs) (listed b φs) _ (all_local b φs))

  bound_local : (b : Bundle) (xs : Bindings) → sorts_bound b xs ≡ only (fine_bound b xs) (bindings b xs)
  bound_local b no_binding = refl
  bound_local b (and_binding x φ xs) =
      both (sorts b φ) (fine b φ) (typed b φ) _ _ _ (sorts_local b φ)
      (after (sorts_bound b xs) (fine_bound b xs) (bindings b xs) _ (bound_local b xs))
