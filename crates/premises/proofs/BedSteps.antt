-- Earlier steps, of the file or of the bed.
--     taken_step                            a step of the file
--     taken_file, taken_bed, taken_none     a field of a step of the file, of the bed, of neither
use mathlib.Core.Path.{◌≡◌, refl, ap, ◌∙◌}
use mathlib.Core.List.{List}
use Prim.Native.Nat.{ℕ, suc, ◌+◌, ◌*◌, ◌-◌, ◌/◌, ◌≤◌, ◌<◌}
use native.Mathlib.Nat.{zero-add}
use native.Mathlib.Omega.{arith}
use lib.ListN.{length, get_or, get_or-eq_default}
use lib.Seq.{get_or-append-add}
use Rattle.bundle.specs.Bundle.{Bundle, Step, no_step, step_of, step_field}
use Rattle.bundle.specs.File.{record_by}
use Rattle.bundle.proofs.Tab.{tab_length, tab_at}
use Rattle.bundle.proofs.Fields.{step_word}
use Rattle.logic.proofs.Longer.{prefix_at}
use Rattle.images.specs.LentReading.{bed_steps, step_in}

pub taken_step : (b : Bundle) (bed : List ℕ) (p : ℕ) → p ≤ length b.steps → step_in b bed p ≡ step_of b p
unfolding step_in
taken_step b bed p l = prefix_at no_step b.steps _ (bed_steps bed, refl) p l

module _ (b : Bundle) (bed : List ℕ) (p k : ℕ) where
  pub taken_file : p ≤ length b.steps → step_field (step_in b bed p) k ≡ step_field (step_of b p) k
  taken_file l = ap (λ (s : Step). step_field s k) (taken_step b bed p l)

  module _ (over : length b.steps < p) (few : k < 5) where
    past : step_in b bed p ≡ get_or (bed_steps bed) (p - length b.steps - 1) no_step
    unfolding step_in
    past =
        let e : p ≡ suc (length b.steps + (p - length b.steps - 1)) = omega arith in
        ap (step_in b bed) e ∙ get_or-append-add b.steps (bed_steps bed) (p - length b.steps - 1) no_step

    pub taken_bed : p - length b.steps - 1 < length bed / 5 → step_field (step_in b bed p) k ≡ get_or bed (5 * (p - length b.steps - 1) + k) 0
    taken_bed l =
        let j : ℕ = p - length b.steps - 1 in
        ap (λ (s : Step). step_field s k) (past ∙ tab_at _ (length bed / 5) j no_step l)
        ∙ step_word (record_by (λ n. get_or bed n 0) 0 5 j) k few ∙ ap (λ (n : ℕ). get_or bed (n + k) 0) (zero-add (5 * j))

    pub taken_none : length bed / 5 ≤ p - length b.steps - 1 → step_field (step_in b bed p) k ≡ 0
    taken_none l = ap (λ (s : Step). step_field s k) (past ∙ get_or-eq_default (bed_steps bed) no_step (rw tab_length l)) ∙ step_word (λ _. 0) k few
