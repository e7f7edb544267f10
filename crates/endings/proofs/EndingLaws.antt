-- From the outcome of a placement to that of the formula.
--     ended, ended_none                a term that is placed, or not
--     variable_alone, symbol_alone     a word alone
use Prim.Native.Nat.{ℕ, zero, suc, ◌≤◌}
use native.Mathlib.Omega.{arith}
use mathlib.Core.Path.{◌≡◌, refl, subst, ◌∙◌}
use mathlib.Core.List.{List, []}
use Rattle.std.specs.Prelude.{Option, Some, None}
use Rattle.bundle.specs.Bundle.{Bundle, sort_of_variable}
use Rattle.logic.specs.Symbols.{signature_of, result_sort}
use Rattle.expansion.specs.Placed.{PlacedTerm, place_variable, place_application}
use Rattle.reading.specs.Local.{alone_sort, alone_term}
use Rattle.reading.specs.Records.{file}
use Rattle.placing.specs.Outcomes.{PlaceOutcome}
use Rattle.placing.proofs.OutcomeFacts.{outcome_done, outcome_full}
use Rattle.endings.specs.declared.ReadTerm.{ReadTerm}
use Rattle.endings.specs.ReadOutcomes.{TermIs, TermOutcome}

-- ---- a term that is placed, or not

module _ {p : PlacedTerm} {b : Bundle} {r : Option ℕ} (h : PlaceOutcome p b r) {s : ℕ} {rest : List ℕ} where
  pub ended : {t : ℕ} → r ≡ Some t → {x : ReadTerm} → TermIs t s rest x → TermOutcome p s rest b (Some x)
  ended k is =
      let d = outcome_done h k in
      TermOutcome.done d.within d.bundle _ refl (record { term = is.term ∙ d.value; sort = is.sort; rest = is.rest })

  pub ended_none : r ≡ None → TermOutcome p s rest b None
  ended_none k = TermOutcome.full (outcome_full h k) refl

-- ---- a word alone

module _ (D b : Bundle) {s : ℕ} {rest : List ℕ} {b' : Bundle} {r : Option ReadTerm} where
  pub variable_alone : (x f : ℕ) → 1 ≤ x → s ≡ sort_of_variable D x → TermOutcome (place_variable b x) s rest b' r
      → TermOutcome (file (alone_term x f) b) (alone_sort D x f) rest b' r
  unfolding file alone_term alone_sort
  variable_alone zero f n same p = absurd (omega arith)
  variable_alone (suc x) f n same p = subst (λ (u : ℕ). TermOutcome (place_variable b (suc x)) u rest b' r) same p

  pub symbol_alone : (x f : ℕ) → x ≡ 0 → s ≡ result_sort D (signature_of D f) → TermOutcome (place_application b f []) s rest b' r
      → TermOutcome (file (alone_term x f) b) (alone_sort D x f) rest b' r
  unfolding file alone_term alone_sort
  symbol_alone zero f n same p = subst (λ (u : ℕ). TermOutcome (place_application b f []) u rest b' r) same p
  symbol_alone (suc x) f n same p = absurd (omega arith)
