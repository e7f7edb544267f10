-- A formula's term is nested at least as deep as the formula.
--     nesting_depth     THE LAW
use Prim.Native.Nat.{ℕ, zero, suc, ◌≤◌}
use native.Mathlib.Omega.{arith}
use mathlib.Core.List.{List, [], ◌∷◌}
use Rattle.bundle.specs.Bundle.{Bundle}
use Rattle.logic.specs.Terms.{Binder, Term}
use Rattle.grammar.specs.Grammar.{SortedVariable, declares, Formula, called, truth, bracketed, Bracketed, denies, connects, applies, quantifies, lets}
use Rattle.grammar.specs.Grammar.{Formulas, no_formula, and_formula, Bindings, no_binding, and_binding}
use Rattle.reading.specs.Called.{variable_called, symbol_called}
use Rattle.reading.specs.Typing.{nested}
use Rattle.reading.specs.Local.{alone_term, plain, plain_inside, plain_all, plain_bound}
use Rattle.reading.specs.Records.{depth, depth_all, nesting, nesting_inside, nesting_all, nesting_bound}

module _ (b : Bundle) where
  alone_deep : (x f : ℕ) → 1 ≤ depth (alone_term x f)
  unfolding alone_term depth
  alone_deep zero f = omega arith
  alone_deep (suc x) f = omega arith

  nested_deep : (q : Binder) (xs : List SortedVariable) (t : Term) → depth t ≤ depth (nested b q xs t)
  unfolding nested depth
  nested_deep q [] t = omega arith
  nested_deep q (declares x s ∷ xs) t = omega (arith, nested_deep q xs t)

  quantified_deep : (q : Binder) (x : SortedVariable) (xs : List SortedVariable) (t : Term) → suc (depth t) ≤ depth (nested b q (x ∷ xs) t)
  unfolding nested depth
  quantified_deep q (declares x s) xs t = omega (arith, nested_deep q xs t)

  mutual
    unfolding nesting depth plain

    -- THE LAW
    pub nesting_depth : (φ : Formula) → nesting φ ≤ depth (plain b φ)
    nesting_depth (called w) = alone_deep (variable_called b w) (symbol_called b w)
    nesting_depth (truth v) = omega arith
    nesting_depth (bracketed φ) = inside_depth φ

    inside_depth : (φ : Bracketed) → suc (nesting_inside φ) ≤ depth (plain_inside b φ)
    inside_depth (denies φ) = omega (arith, nesting_depth φ)
    inside_depth (connects c φ ψ) = omega (arith, nesting_depth φ, nesting_depth ψ)
    inside_depth (applies f φ φs) = omega (arith, nesting_depth φ, all_depth φs)
    inside_depth (quantifies q x xs φ) = omega (arith, nesting_depth φ, quantified_deep q x xs (plain b φ))
    inside_depth (lets x φ xs ψ) = omega (arith, nesting_depth φ, bound_depth xs, nesting_depth ψ)

    all_depth : (φs : Formulas) → nesting_all φs ≤ depth_all (plain_all b φs)
    all_depth no_formula = omega arith
    all_depth (and_formula φ φs) = omega (arith, nesting_depth φ, all_depth φs)

    bound_depth : (xs : Bindings) → nesting_bound xs ≤ depth_all (plain_bound b xs)
    bound_depth no_binding = omega arith
    bound_depth (and_binding x φ xs) = omega (arith, nesting_depth φ, bound_depth xs)
