-- From a placement, and its pair on the stack, to what is promised of both.
--     laid_put                                         the pair of a placement
--     application_put, binder_put, let_put  what each function puts
use Prim.Native.Nat.{ℕ}
use mathlib.Core.Path.{◌≡◌, refl, ◌∙◌}
use mathlib.Core.Bool.{true, false}
use mathlib.Core.List.{List, [], ◌∷◌, ◌++◌}
use lib.ListN.{take, drop}
use Rattle.std.specs.Prelude.{Some}
use Rattle.bundle.specs.Bundle.{Bundle}
use Rattle.logic.specs.Named.{binder_in}
use Rattle.logic.specs.Symbols.{signature_of, result_sort, truth_sort}
use Rattle.logic.specs.declared.kinds.Binder.{Binder}
use Rattle.scratch.specs.Stack.{half_of, halves_of}
use Rattle.expansion.specs.Placed.{PlacedTerm, place_application, place_binder, place_let}
use Rattle.placing.specs.Outcomes.{PlaceOutcome}
use Rattle.placing.proofs.OutcomeFacts.{outcome_done}
use Rattle.reading.specs.Local.{accepts}
use Rattle.pass_tokens.specs.Tokens.{Closed}
use Rattle.pass_terms.specs.Passing.{PairPut, Laid, ApplicationPut, BinderPut, LetPut}

pub laid_put : {p : PlacedTerm} {b' : Bundle} {st st' : List ℕ} {n s s' : ℕ} → PlaceOutcome p b' (Some n) → s ≡ s' → Laid st n s st' → PairPut p s' st b' st'
laid_put o same l =
    let d = outcome_done o refl in
    record { bundle = d.bundle; laid = record { pair = l.pair; upper = l.upper ∙ d.value; lower = l.lower ∙ same; stacked = l.stacked } }

module _ {b b' : Bundle} {st st' : List ℕ} where
  module _ {D : Bundle} {h f : ℕ} where
    pub application_put : {pairs cut : List ℕ} {n s : ℕ} → accepts D f (halves_of false (drop h st)) ≡ true → pairs ≡ drop h st → cut ≡ take h st
        → PlaceOutcome (place_application b f (halves_of true pairs)) b' (Some n) → s ≡ result_sort D (signature_of D f) → Laid cut n s st'
        → ApplicationPut D b st f h b' st'
    application_put taken above below o same l = record { takes = taken; put = rw (← above, ← below) (laid_put o same l) }

  pub binder_put : (below : List ℕ) (body : ℕ) {q : Binder} {x half n : ℕ} → st ≡ below ++ (body ∷ []) → half ≡ half_of true body
      → PlaceOutcome (place_binder b (binder_in q) x half) b' (Some n) → Laid below n truth_sort st' → BinderPut b st q x b' st'
  binder_put below body {q} {x} stacked upper o l =
      let put : PairPut (place_binder b (binder_in q) x (half_of true body)) truth_sort below b' st' = rw (← upper) (laid_put o refl l) in
      record { body = body; top = record { below = below; stacked = stacked }; put = put }

  pub let_put : (below : List ℕ) (body : ℕ) {text rest pairs cut : List ℕ} {h half n s : ℕ} → Closed text rest → st ≡ below ++ (body ∷ []) → half ≡ half_of true body
      → pairs ≡ drop h below → PlaceOutcome (place_let b (halves_of false pairs) (halves_of true pairs) half) b' (Some n) → cut ≡ take h below
      → s ≡ half_of false body → Laid cut n s st' → LetPut text b st h rest b' st'
  let_put below body {h = h} closed stacked upper above o under same l =
      let put : PairPut (place_let b (halves_of false (drop h below)) (halves_of true (drop h below)) (half_of true body)) (half_of false body)
      (take h below) b' st' = rw (← above, ← upper, ← under) (laid_put o same l) in
      record { closed = closed; body = body; top = record { below = below; stacked = stacked }; put = put }
