-- The term that a formula stands for, where it is well sorted (else 8).
use Rattle.std.specs.Prelude.{ℕ, zero, suc, Bool, true, cond, ◌&&◌, List, [], ◌∷◌, map, eqb}
use Rattle.std.proofs.Math.Option.{Option, none, some}
use Rattle.bundle.specs.Bundle.{Bundle, sort_of_variable}
use Rattle.bundle.specs.Lists.{same_list, different}
use Rattle.logic.specs.Terms.{Binder, Term, Terms, var, app, bind, let_in}
use Rattle.logic.specs.Symbols.{truth_sort, item_sort, signature_of, argument_sorts, result_sort}
use Rattle.grammar.specs.Bytes.{SortWord, bool, item, Connective, conjunction, disjunction, implication, equality}
use Rattle.grammar.specs.Grammar.{SortedVariable, declares, Formula, called, truth, bracketed, Bracketed, denies, connects, applies, quantifies, lets}
use Rattle.grammar.specs.Grammar.{Formulas, no_formula, and_formula, Bindings, no_binding, and_binding}
use Rattle.grammar.specs.Parser.{and_then}
use Rattle.reading.specs.Called.{variable_called, symbol_called}

-- a term and its sort; terms and their sorts; variables, bound terms and their sorts
pub record Typed : Type 0 where
  pub term : Term
  pub sort : ℕ

pub record TypedList : Type 0 where
  pub terms : Terms
  pub sorts : List ℕ

pub record TypedBindings : Type 0 where
  pub variables : List ℕ
  pub terms : Terms
  pub sorts : List ℕ

abbrev none' : TypedList
none' = record { terms = Terms.none; sorts = [] }

abbrev also : Typed → TypedList → TypedList
also t ts = record { terms = Terms.more t.term ts.terms; sorts = t.sort ∷ ts.sorts }

abbrev also_bound : ℕ → Typed → TypedBindings → TypedBindings
also_bound x t ts = record { variables = x ∷ ts.variables; terms = Terms.more t.term ts.terms; sorts = t.sort ∷ ts.sorts }

-- a test, and then a value
abbrev pub only : {A : Type 0} → Bool → A → Option A
only p a = cond p (some a) none

-- ---- applications

-- the symbol's argument sorts, in number and order
unfoldable pub applied : Bundle → ℕ → TypedList → Option Typed
unfolding signature_of argument_sorts result_sort same_list
applied b f ts = only (same_list (argument_sorts b (signature_of b f)) ts.sorts) (record { term = app f ts.terms; sort = result_sort b (signature_of b f) })

-- 7 equals on truth, 8 equals on items: by the sort of the first
unfoldable pub connective_symbol : Connective → ℕ → ℕ
connective_symbol conjunction s = 4
connective_symbol disjunction s = 5
connective_symbol implication s = 6
connective_symbol equality s = cond (eqb s truth_sort) 7 8

-- a name alone: a variable, or a symbol with no arguments
unfoldable pub alone : Bundle → ℕ → ℕ → Option Typed
unfolding applied
alone b zero f = applied b f none'
alone b (suc x) f = some (record { term = var (suc x); sort = sort_of_variable b (suc x) })

-- ---- quantifiers

unfoldable pub sort_number : SortWord → ℕ
sort_number bool = truth_sort
sort_number item = item_sort

-- each with its declared sort
unfoldable pub sorts_declared : Bundle → List SortedVariable → Bool
unfolding sort_number variable_called
sorts_declared b [] = true
sorts_declared b (declares x s ∷ xs) = eqb (sort_of_variable b (variable_called b x)) (sort_number s) && sorts_declared b xs

-- one or more variables, nested from the left
unfoldable pub nested : Bundle → Binder → List SortedVariable → Term → Term
unfolding variable_called
nested b q [] t = t
nested b q (declares x s ∷ xs) t = bind q (variable_called b x) (nested b q xs t)

unfoldable pub quantified : Bundle → Binder → List SortedVariable → Typed → Option Typed
unfolding sorts_declared nested
quantified b q xs t = only (sorts_declared b xs && eqb t.sort truth_sort) (record { term = nested b q xs t.term; sort = truth_sort })

-- ---- lets: no repeats, bound terms of their variables' sorts

unfoldable pub letting : Bundle → TypedBindings → Typed → Option Typed
unfolding different same_list
letting b xs t =
    only (different xs.variables && same_list (map (sort_of_variable b) xs.variables) xs.sorts)
    (record { term = let_in xs.variables xs.terms t.term; sort = t.sort })

-- ---- formulas

unfoldable mutual
  unfolding and_then alone applied connective_symbol quantified letting variable_called symbol_called

  pub sorts : Bundle → Formula → Option Typed
  sorts b (called w) = alone b (variable_called b w) (symbol_called b w)
  sorts b (truth v) = some (record { term = app (cond v 1 2) Terms.none; sort = truth_sort })
  sorts b (bracketed φ) = sorts_inside b φ

  pub sorts_inside : Bundle → Bracketed → Option Typed
  sorts_inside b (denies φ) = and_then (sorts b φ) (λ t. applied b 3 (also t none'))
  sorts_inside b (connects c φ ψ) = and_then (sorts b φ) (λ t. and_then (sorts b ψ) (λ u. applied b (connective_symbol c t.sort) (also t (also u none'))))
  sorts_inside b (applies f φ φs) = and_then (sorts b φ) (λ t. and_then (sorts_all b φs) (λ ts. applied b (symbol_called b f) (also t ts)))
  sorts_inside b (quantifies q x xs φ) = and_then (sorts b φ) (λ t. quantified b q (x ∷ xs) t)
  sorts_inside b (lets x φ xs ψ) =
      and_then (sorts b φ) (λ t. and_then (sorts_bound b xs) (λ ts. and_then (sorts b ψ) (λ u. letting b (also_bound (variable_called b x) t ts) u)))

  pub sorts_all : Bundle → Formulas → Option TypedList
  sorts_all b no_formula = some none'
  sorts_all b (and_formula φ φs) = and_then (sorts b φ) (λ t. and_then (sorts_all b φs) (λ ts. some (also t ts)))

  pub sorts_bound : Bundle → Bindings → Option TypedBindings
  sorts_bound b no_binding = some (record { variables = []; terms = Terms.none; sorts = [] })
  sorts_bound b (and_binding x φ xs) = and_then (sorts b φ) (λ t. and_then (sorts_bound b xs) (λ ts. some (also_bound (variable_called b x) t ts)))
