-- Terms that are too large, part by part.
--     file_longer, all_longer                       records are appended
--     no_level, no_place                            no level is left; no place for a pair is left
--     applied_large, first_large, rest_large, ..    a term is too large where a part of it is
use Prim.Native.Nat.{ℕ, suc, ◌+◌, ◌≤◌, ◌<◌}
use native.Mathlib.Omega.{arith}
use mathlib.Core.Path.{◌≡◌}
use mathlib.Core.List.{List}
use Rattle.bundle.specs.Bundle.{Bundle}
use Rattle.bundle.specs.Limits.{limits}
use Rattle.logic.specs.Terms.{Binder, Term, Terms, var, app, bind, let_in, none, more}
use Rattle.logic.specs.Longer.{Longer}
use Rattle.logic.proofs.Longer.{longer_refl, longer_trans}
use Rattle.expansion.specs.Placed.{PlacedTerm}
use Rattle.expansion.proofs.Grown.{variable_longer, application_longer, binder_longer, let_longer}
use Rattle.placing.proofs.OutcomeFacts.{longer_over}
use Rattle.reading.specs.Records.{PlacedTerms, file, file_all, depth}
use Rattle.formulas.specs.Pending.{count, pending}
use Rattle.formulas.specs.ReadGives.{TooLarge, AllTooLarge}

-- ---- records are appended

mutual
  unfolding file

  pub file_longer : (τ : Term) (b : Bundle) → Longer b (file τ b).bundle
  file_longer (var x) b = variable_longer b x
  file_longer (app f ts) b = longer_trans (all_longer ts b) (application_longer (file_all ts b).bundle f (file_all ts b).terms)
  file_longer (bind q x t) b = longer_trans (file_longer t b) (binder_longer (file t b).bundle q x (file t b).term)
  file_longer (let_in vs ts t) b =
      let p : PlacedTerms = file_all ts b in
      let r : PlacedTerm = file t p.bundle in
      longer_trans (all_longer ts b) (longer_trans (file_longer t p.bundle) (let_longer r.bundle vs p.terms r.term))

  pub all_longer : (ts : Terms) (b : Bundle) → Longer b (file_all ts b).bundle
  all_longer none b = longer_refl b
  all_longer (more t ts) b = longer_trans (file_longer t b) (all_longer ts (file t b).bundle)

-- ---- too large

some_depth : (τ : Term) → 0 < depth τ
unfolding depth
some_depth (var x) = omega arith
some_depth (app f ts) = omega arith
some_depth (bind q x t) = omega arith
some_depth (let_in vs ts t) = omega arith

pub no_level : (τ : Term) {b : Bundle} {h n : ℕ} → n ≤ 0 → TooLarge τ b h n
no_level τ l = TooLarge.deep (omega (arith, l, some_depth τ))

pub no_place : (t : Term) (ts : Terms) {b : Bundle} {h n : ℕ} → limits.links ≤ h → AllTooLarge (more t ts) b h n
unfolding count
no_place t ts l = AllTooLarge.waiting (omega (arith, l))

module _ {b : Bundle} {h n : ℕ} where
  pub applied_large : (f : ℕ) (ts : Terms) → AllTooLarge ts b h n → TooLarge (app f ts) b h (suc n)
  unfolding file pending depth
  applied_large f ts (AllTooLarge.records o) = TooLarge.records (longer_over (application_longer (file_all ts b).bundle f (file_all ts b).terms) o)
  applied_large f ts (AllTooLarge.waiting l) = TooLarge.waiting l
  applied_large f ts (AllTooLarge.deep l) = TooLarge.deep (omega (arith, l))

  pub first_large : (t : Term) (ts : Terms) → TooLarge t b h n → AllTooLarge (more t ts) b h n
  unfolding file pending depth count
  first_large t ts (TooLarge.records o) = AllTooLarge.records (longer_over (all_longer ts (file t b).bundle) o)
  first_large t ts (TooLarge.waiting l) = AllTooLarge.waiting (omega (arith, l))
  first_large t ts (TooLarge.deep l) = AllTooLarge.deep (omega (arith, l))

  pub rest_large : (t : Term) (ts : Terms) → AllTooLarge ts (file t b).bundle (h + 1) n → AllTooLarge (more t ts) b h n
  unfolding file pending depth count
  rest_large t ts (AllTooLarge.records o) = AllTooLarge.records o
  rest_large t ts (AllTooLarge.waiting l) = AllTooLarge.waiting (omega (arith, l))
  rest_large t ts (AllTooLarge.deep l) = AllTooLarge.deep (omega (arith, l))

  pub bound_large : (q : Binder) (x : ℕ) (t : Term) → TooLarge t b h n → TooLarge (bind q x t) b h (suc n)
  unfolding file pending depth
  bound_large q x t (TooLarge.records o) = TooLarge.records (longer_over (binder_longer (file t b).bundle q x (file t b).term) o)
  bound_large q x t (TooLarge.waiting l) = TooLarge.waiting l
  bound_large q x t (TooLarge.deep l) = TooLarge.deep (omega (arith, l))

  module _ (vs : List ℕ) (ts : Terms) (t : Term) where
    pub pairs_large : AllTooLarge ts b h n → TooLarge (let_in vs ts t) b h (suc n)
    unfolding file pending depth
    pairs_large (AllTooLarge.records o) =
        TooLarge.records
        (longer_over (longer_trans (file_longer t (file_all ts b).bundle) (let_longer (file t (file_all ts b).bundle).bundle vs (file_all ts b).terms (file t
        (file_all ts b).bundle).term)) o)
    pairs_large (AllTooLarge.waiting l) = TooLarge.waiting (omega (arith, l))
    pairs_large (AllTooLarge.deep l) = TooLarge.deep (omega (arith, l))

    pub body_large : {top : ℕ} → top ≡ h + count ts → TooLarge t (file_all ts b).bundle top n → TooLarge (let_in vs ts t) b h (suc n)
    unfolding file pending depth
    body_large e (TooLarge.records o) = TooLarge.records (longer_over (let_longer (file t (file_all ts b).bundle).bundle vs (file_all ts b).terms (file t
        (file_all ts b).bundle).term) o)
    body_large e (TooLarge.waiting l) = TooLarge.waiting (omega (arith, l, e))
    body_large e (TooLarge.deep l) = TooLarge.deep (omega (arith, l))
