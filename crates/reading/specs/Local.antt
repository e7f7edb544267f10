-- Sorts without a stack: the sort of a formula by its head, the term whatever the sorts, and the test of each node by the heads of its parts.
use Rattle.std.specs.Prelude.{ℕ, zero, suc, ◌≡◌, Bool, true, cond, ◌&&◌, List, [], ◌∷◌, map, eqb}
use Rattle.bundle.specs.Bundle.{Bundle, sort_of_variable}
use Rattle.bundle.specs.Lists.{same_list, different}
use Rattle.logic.specs.Terms.{Term, Terms, var, app, let_in}
use Rattle.logic.specs.Symbols.{truth_sort, signature_of, argument_sorts, result_sort}
use Rattle.grammar.specs.Grammar.{Formula, called, truth, bracketed, Bracketed, denies, connects, applies, quantifies, lets, Formulas, no_formula}
use Rattle.grammar.specs.Grammar.{and_formula, Bindings, no_binding, and_binding}
use Rattle.reading.specs.Called.{variable_called, symbol_called}
use Rattle.reading.specs.Typing.{Typed, only, connective_symbol, sorts_declared, nested, sorts}

-- a name alone: its sort, its term, its test
unfoldable pub alone_sort : Bundle → ℕ → ℕ → ℕ
unfolding signature_of result_sort
alone_sort b zero f = result_sort b (signature_of b f)
alone_sort b (suc x) f = sort_of_variable b (suc x)

unfoldable pub alone_term : ℕ → ℕ → Term
alone_term zero f = app f Terms.none
alone_term (suc x) f = var (suc x)

-- the symbol takes these sorts
unfoldable pub accepts : Bundle → ℕ → List ℕ → Bool
unfolding signature_of argument_sorts same_list
accepts b f ss = same_list (argument_sorts b (signature_of b f)) ss

unfoldable pub alone_fine : Bundle → ℕ → ℕ → Bool
unfolding accepts
alone_fine b zero f = accepts b f []
alone_fine b (suc x) f = true

-- ---- the sort, by the head

unfoldable mutual
  unfolding alone_sort signature_of result_sort variable_called symbol_called connective_symbol

  pub head_sort : Bundle → Formula → ℕ
  head_sort b (called w) = alone_sort b (variable_called b w) (symbol_called b w)
  head_sort b (truth v) = truth_sort
  head_sort b (bracketed φ) = inside_sort b φ

  pub inside_sort : Bundle → Bracketed → ℕ
  inside_sort b (denies φ) = result_sort b (signature_of b 3)
  inside_sort b (connects c φ ψ) = result_sort b (signature_of b (connective_symbol c (head_sort b φ)))
  inside_sort b (applies f φ φs) = result_sort b (signature_of b (symbol_called b f))
  inside_sort b (quantifies q x xs φ) = truth_sort
  inside_sort b (lets x φ xs ψ) = head_sort b ψ

unfoldable pub head_sorts : Bundle → Formulas → List ℕ
unfolding head_sort
head_sorts b no_formula = []
head_sorts b (and_formula φ φs) = head_sort b φ ∷ head_sorts b φs

unfoldable pub bound_sorts : Bundle → Bindings → List ℕ
unfolding head_sort
bound_sorts b no_binding = []
bound_sorts b (and_binding x φ xs) = head_sort b φ ∷ bound_sorts b xs

unfoldable pub bound_names : Bundle → Bindings → List ℕ
unfolding variable_called
bound_names b no_binding = []
bound_names b (and_binding x φ xs) = variable_called b x ∷ bound_names b xs

-- ---- the term, whatever the sorts

unfoldable mutual
  unfolding alone_term variable_called symbol_called connective_symbol head_sort nested bound_names

  pub plain : Bundle → Formula → Term
  plain b (called w) = alone_term (variable_called b w) (symbol_called b w)
  plain b (truth v) = app (cond v 1 2) Terms.none
  plain b (bracketed φ) = plain_inside b φ

  pub plain_inside : Bundle → Bracketed → Term
  plain_inside b (denies φ) = app 3 (Terms.more (plain b φ) Terms.none)
  plain_inside b (connects c φ ψ) = app (connective_symbol c (head_sort b φ)) (Terms.more (plain b φ) (Terms.more (plain b ψ) Terms.none))
  plain_inside b (applies f φ φs) = app (symbol_called b f) (Terms.more (plain b φ) (plain_all b φs))
  plain_inside b (quantifies q x xs φ) = nested b q (x ∷ xs) (plain b φ)
  plain_inside b (lets x φ xs ψ) = let_in (variable_called b x ∷ bound_names b xs) (Terms.more (plain b φ) (plain_bound b xs)) (plain b ψ)

  pub plain_all : Bundle → Formulas → Terms
  plain_all b no_formula = Terms.none
  plain_all b (and_formula φ φs) = Terms.more (plain b φ) (plain_all b φs)

  pub plain_bound : Bundle → Bindings → Terms
  plain_bound b no_binding = Terms.none
  plain_bound b (and_binding x φ xs) = Terms.more (plain b φ) (plain_bound b xs)

-- ---- the tests, each on one node and the heads of its parts

unfoldable mutual
  unfolding alone_fine accepts head_sort head_sorts bound_sorts bound_names connective_symbol sorts_declared variable_called symbol_called different same_list

  pub fine : Bundle → Formula → Bool
  fine b (called w) = alone_fine b (variable_called b w) (symbol_called b w)
  fine b (truth v) = true
  fine b (bracketed φ) = fine_inside b φ

  pub fine_inside : Bundle → Bracketed → Bool
  fine_inside b (denies φ) = fine b φ && accepts b 3 (head_sort b φ ∷ [])
  fine_inside b (connects c φ ψ) = fine b φ && (fine b ψ && accepts b (connective_symbol c (head_sort b φ)) (head_sort b φ ∷ head_sort b ψ ∷ []))
  fine_inside b (applies f φ φs) = fine b φ && (fine_all b φs && accepts b (symbol_called b f) (head_sort b φ ∷ head_sorts b φs))
  fine_inside b (quantifies q x xs φ) = fine b φ && (sorts_declared b (x ∷ xs) && eqb (head_sort b φ) truth_sort)
  fine_inside b (lets x φ xs ψ) =
      fine b φ && (fine_bound b xs && (fine b ψ
      && (different (variable_called b x ∷ bound_names b xs)
      && same_list (map (sort_of_variable b) (variable_called b x ∷ bound_names b xs)) (head_sort b φ ∷ bound_sorts b xs))))

  pub fine_all : Bundle → Formulas → Bool
  fine_all b no_formula = true
  fine_all b (and_formula φ φs) = fine b φ && fine_all b φs

  pub fine_bound : Bundle → Bindings → Bool
  fine_bound b no_binding = true
  fine_bound b (and_binding x φ xs) = fine b φ && fine_bound b xs

abbrev pub typed : Bundle → Formula → Typed
typed b φ = record { term = plain b φ; sort = head_sort b φ }

-- A formula is well sorted exactly where every node's test passes; its sort is its head's.
abbrev pub SortsLocal : Type 0
SortsLocal = (b : Bundle) (φ : Formula) → sorts b φ ≡ only (fine b φ) (typed b φ)
