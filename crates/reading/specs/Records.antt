-- The records of a term: 'Equal terms share one record; a new record is appended after its parts, taken left to right, with its lists just
-- before it as in the writer.'
use Rattle.std.specs.Prelude.{ℕ, suc, max, List, [], ◌∷◌}
use Rattle.bundle.specs.Bundle.{Bundle}
use Rattle.logic.specs.Terms.{Term, Terms, var, app, bind, let_in, none, more}
use Rattle.logic.specs.Lookup.{seek, same_variable, same_application, same_binder, same_let}
use Rattle.logic.specs.Longer.{consecutive}
use Rattle.grammar.specs.Grammar.{Formula, called, truth, bracketed, Bracketed, denies, connects, applies, quantifies, lets}
use Rattle.grammar.specs.Grammar.{Formulas, no_formula, and_formula, Bindings, no_binding, and_binding}
use Rattle.expansion.specs.Placed.{PlacedTerm, place_variable, place_application, place_binder, place_let}

-- a bundle, and terms of it
pub record PlacedTerms : Type 0 where
  pub bundle : Bundle
  pub terms : List ℕ

-- the records of a term, and of terms, appended to a bundle
unfoldable mutual
  unfolding seek same_variable same_application same_binder same_let consecutive

  pub file : Term → Bundle → PlacedTerm
  file (var x) b = place_variable b x
  file (app f ts) b = let p : PlacedTerms = file_all ts b in place_application p.bundle f p.terms
  file (bind q x t) b = let p : PlacedTerm = file t b in place_binder p.bundle q x p.term
  file (let_in vs ts t) b =
      let p : PlacedTerms = file_all ts b in
      let r : PlacedTerm = file t p.bundle in
      place_let r.bundle vs p.terms r.term

  pub file_all : Terms → Bundle → PlacedTerms
  file_all none b = record { bundle = b; terms = [] }
  file_all (more t ts) b =
      let p : PlacedTerm = file t b in
      let q : PlacedTerms = file_all ts p.bundle in
      record { bundle = q.bundle; terms = p.term ∷ q.terms }

-- ---- nesting

-- how deep terms are nested
unfoldable mutual
  pub depth : Term → ℕ
  depth (var x) = 1
  depth (app f ts) = suc (depth_all ts)
  depth (bind q x t) = suc (depth t)
  depth (let_in vs ts t) = suc (max (depth_all ts) (depth t))

  pub depth_all : Terms → ℕ
  depth_all none = 0
  depth_all (more t ts) = max (depth t) (depth_all ts)

-- how deep formulas are nested
unfoldable mutual
  pub nesting : Formula → ℕ
  nesting (called w) = 1
  nesting (truth v) = 1
  nesting (bracketed φ) = suc (nesting_inside φ)

  pub nesting_inside : Bracketed → ℕ
  nesting_inside (denies φ) = nesting φ
  nesting_inside (connects c φ ψ) = max (nesting φ) (nesting ψ)
  nesting_inside (applies f φ φs) = max (nesting φ) (nesting_all φs)
  nesting_inside (quantifies q x xs φ) = nesting φ
  nesting_inside (lets x φ xs ψ) = max (max (nesting φ) (nesting_bound xs)) (nesting ψ)

  pub nesting_all : Formulas → ℕ
  nesting_all no_formula = 0
  nesting_all (and_formula φ φs) = max (nesting φ) (nesting_all φs)

  pub nesting_bound : Bindings → ℕ
  nesting_bound no_binding = 0
  nesting_bound (and_binding x φ xs) = max (nesting φ) (nesting_bound xs)
