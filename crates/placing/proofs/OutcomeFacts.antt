-- What an outcome tells, and what is too much.
--     Done, outcome_done, outcome_full     a call that was done; one that was full
--     full_on                              a call that was full: so is all that needs more
--     VisitDone, visit_done                a visit that was done
--     ListDone, list_done, list_full       a visit to a list
--     on                                   a longer bundle, by what it is equal to
--     longer_over                          what is too much for a bundle is too much for a longer one
use mathlib.Core.Path.{◌≡◌, refl, sym, ap, subst, ◌∙◌}
use mathlib.Core.Bool.{true, false}
use mathlib.Core.List.{List}
use Prim.Native.Nat.{ℕ, ◌+◌}
use native.Mathlib.Omega.{arith}
use lib.ListN.{length}
use Rattle.std.specs.Prelude.{Option, Some, None}
use Rattle.bundle.specs.File.{own_counts}
use Rattle.bundle.specs.Bundle.{Bundle}
use Rattle.bundle.specs.Limits.{Within}
use Rattle.logic.specs.Longer.{Longer}
use Rattle.logic.proofs.Longer.{sizes}
use Rattle.scratch.specs.Stack.{halves}
use Rattle.placing.specs.declared.Visited.{Visited}
use Rattle.expansion.specs.Visit.{Visits}
use Rattle.placing.specs.Outcomes.{TooMuch, Outcome, ListOutcome}

-- ---- too much

pub longer_over : {b b' : Bundle} → Longer b b' → TooMuch b → TooMuch b'
longer_over e over h =
    let s = sizes e in
    over record {
      symbols = omega (arith, h.symbols, s.symbols);
      variables = omega (arith, h.variables, s.variables);
      terms = omega (arith, h.terms, s.terms);
      links = omega (arith, h.links, s.links);
      contexts = omega (arith, h.contexts, s.contexts);
      steps = omega (arith, h.steps, s.steps);
    }

-- a longer bundle, by what it is equal to
pub on : {b b' b1 : Bundle} → Longer b b' → b1 ≡ b' → Longer b b1
on {b} longer e = subst (Longer b) (sym e) longer

-- ---- an outcome

-- what the definition without limits gives, b' and a, is what there is after the call, b and x
pub record Done {A : Type 0} (b' : Bundle) (a : A) (b : Bundle) (x : A) : Type 0 where
  pub within : Within (own_counts b')
  pub bundle : b ≡ b'
  pub value : x ≡ a

module _ {A : Type 0} {b' b : Bundle} {a : A} {r : Option A} where
  pub outcome_done : {x : A} → Outcome b' a b r → r ≡ Some x → Done b' a b x
  outcome_done (Outcome.done h e k) t = record { within = h; bundle = e; value = cc }
  outcome_done (Outcome.full f k) t = absurd (cc)

  pub outcome_full : Outcome b' a b r → r ≡ None → TooMuch b'
  outcome_full (Outcome.done h e k) t = absurd (cc)
  outcome_full (Outcome.full f k) t = f

  pub full_on : Outcome b' a b r → r ≡ None → {b2' b2 : Bundle} {B : Type 0} {c : B} → Longer b' b2' → Outcome b2' c b2 None
  full_on o e longer = Outcome.full (longer_over longer (outcome_full o e)) refl

-- ---- of a visit

pub record VisitDone (b' : Bundle) (t s : ℕ) (b : Bundle) (x : Visited) : Type 0 where
  pub within : Within (own_counts b')
  pub bundle : b ≡ b'
  pub result : x.result ≡ t
  pub step : x.step ≡ s

pub visit_done : {b' b : Bundle} {t s : ℕ} {r : Option Visited} {x : Visited} → Outcome b' (record { result = t; step = s }) b r → r ≡ Some x
    → VisitDone b' t s b x
visit_done o e =
    let d = outcome_done o e in
    record {
      within = d.within;
      bundle = d.bundle;
      result = ap (λ (v : Visited). v.result) d.value;
      step = ap (λ (v : Visited). v.step) d.value;
    }

-- ---- of a visit to a list

pub record ListDone (v : Visits) (h : ℕ) (b : Bundle) (s : List ℕ) (top : ℕ) : Type 0 where
  pub within : Within (own_counts v.bundle)
  pub bundle : b ≡ v.bundle
  pub height : top ≡ h + length v.results
  pub results : halves true s h top ≡ v.results
  pub steps : halves false s h top ≡ v.steps

module _ {v : Visits} {h : ℕ} {b : Bundle} {s : List ℕ} {r : Option ℕ} where
  pub list_done : {top : ℕ} → ListOutcome v h b s r → r ≡ Some top → ListDone v h b s top
  list_done {top} (ListOutcome.done g e k p q) t =
      let is : top ≡ h + length v.results = cc in
      record { within = g; bundle = e; height = is; results = ap (halves true s h) is ∙ p; steps = ap (halves false s h) is ∙ q }
  list_done (ListOutcome.full f k) t = absurd (cc)

  pub list_full : ListOutcome v h b s r → r ≡ None → TooMuch v.bundle
  list_full (ListOutcome.done g e k p q) t = absurd (cc)
  list_full (ListOutcome.full f k) t = f
