-- A list, and then a record: what the two calls give together.
--     concluded_is       the step of a visit
--     concluded_fits     its result and the step are words
--     opened_is          a context that replaces
use mathlib.Core.Path.{◌≡◌, subst}
use mathlib.Core.List.{List, [], ◌∷◌}
use Prim.Native.Nat.{ℕ, suc, ◌≤◌}
use native.Mathlib.Omega.{arith}
use lib.ListN.{length, length-append}
use Rattle.std.specs.Prelude.{Option}
use Rattle.bundle.specs.Words.{largest_word}
use Rattle.bundle.specs.Bundle.{Bundle}
use Rattle.logic.specs.Longer.{with_contexts, with_steps, add_list, list_start}
use Rattle.placing.specs.declared.Visited.{Visited}
use Rattle.expansion.specs.Visit.{concluded, replacing}
use Rattle.placing.specs.Outcomes.{Outcome, VisitOutcome, VisitFits, OpenOutcome}

module _ (b : Bundle) {b1 b2 : Bundle} {s : ℕ} where
  -- n is the rule's number, b1 has the premises' list, which starts at s
  pub concluded_is : (k c l r : ℕ) (ps : List ℕ) {n : ℕ} {a : Option Visited} → n ≡ k → b1 ≡ add_list b ps → s ≡ list_start b ps
      → VisitOutcome
      (record {
        bundle = with_steps b1 (record { rule = n; context = c; left = l; right = r; premises = s } ∷ []);
        result = r;
        step = suc (length b1.steps);
      }) b2 a
      → VisitOutcome (concluded b k c l r ps) b2 a
  concluded_is k c l r ps {n} {a} rule list start o =
      subst
      (λ (p : ℕ × (Bundle × ℕ)). VisitOutcome
      (record {
        bundle = with_steps p.1.0 (record { rule = p.0; context = c; left = l; right = r; premises = p.1.1 } ∷ []);
        result = r;
        step = suc (length p.1.0.steps);
      }) b2 a)
      (λ i. (rule i, (list i, start i))) o

  -- the same of a context: n is the entry's number
  pub opened_is : (vs c : ℕ) (ts : List ℕ) {n : ℕ} {a : Option ℕ} → n ≡ 2 → b1 ≡ add_list b ts → s ≡ list_start b ts
      → OpenOutcome
      (record {
        bundle = with_contexts b1 (record { kind = n; a = vs; b = s; parent = c } ∷ []);
        context = suc (length b1.contexts);
      }) b2 a
      → OpenOutcome (replacing b vs c ts) b2 a
  opened_is vs c ts {n} {a} entry list start o =
      subst
      (λ (p : ℕ × (Bundle × ℕ)). OpenOutcome
      (record {
        bundle = with_contexts p.1.0 (record { kind = p.0; a = vs; b = p.1.1; parent = c } ∷ []);
        context = suc (length p.1.0.contexts);
      }) b2 a)
      (λ i. (entry i, (list i, start i))) o

pub concluded_fits : (b : Bundle) (k c l r : ℕ) (ps : List ℕ) {b2 : Bundle} {a : Option Visited} → VisitOutcome (concluded b k c l r ps) b2 a
    → r ≤ largest_word → VisitFits a
concluded_fits b k c l r ps (Outcome.done h e is) le =
    rw is (le, omega (arith, h.steps, length-append b.steps (record { rule = k; context = c; left = l; right = r; premises = list_start b ps } ∷ [])))
concluded_fits b k c l r ps (Outcome.full f is) le = rw is tt
