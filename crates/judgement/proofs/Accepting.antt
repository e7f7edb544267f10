-- What the answer says of a file: nothing is wrong exactly with an acceptable file.
--     claim_exactly       check 15 finds nothing exactly where the last step is the claim
--     early_fault         what the checks 1 to 9 find is the fault
--     nothing_exactly     no check finds anything exactly with an acceptable file
--     accepted_where      a file is accepted, with its claim, exactly where the fault's number is 0
--     refused_where       it is refused with number n, not 0, and record i exactly where that is the fault
use Prim.Native.Nat.{ℕ, zero, suc, ◌≤◌}
use mathlib.Core.Path.{◌≡◌, refl, ◌∙◌}
use mathlib.Core.Logic.{◌↔◌}
use mathlib.Core.List.{List}
use native.Mathlib.Omega.{arith}
use lib.ListN.{length}
use borrow.Author.Tests.{eqb-true, eq-eqb, ltb-true, lt-ltb}
use Rattle.bundle.specs.Bundle.{Bundle, step_of}
use Rattle.bundle.specs.File.{bundle_of}
use Rattle.logic.specs.Tests.{Fault}
use Rattle.logic.specs.Tests.{first_failing, fault, or_else, or_next}
use Rattle.logic.specs.Checks.{header_fault, sections_fault, tables_fault}
use Rattle.logic.specs.Contexts.{contexts_fault}
use Rattle.logic.specs.Rules.{steps_fault}
use Rattle.logic.specs.WellFormed.{WellFormed}
use Rattle.logic.proofs.Tests.{passed_each, all_passed, failing_none, none_failing}
use Rattle.logic.proofs.Firsts.{or_else_here, next_both, both_next}
use Rattle.logic.proofs.Formed.{well_formed_exactly}
use Rattle.logic.proofs.Instances.{steps_exactly}
use Rattle.judgement.specs.declared.Acceptance.{Acceptance}
use Rattle.judgement.specs.Answer.{Accepted, Refused}
use Rattle.judgement.specs.Judge.{acceptance, required, claim_tests, late_fault, fault_of, answer_of, judge}
use Rattle.judgement.specs.Demands.{LastIsClaim, Acceptable}
use Rattle.logic.proofs.Headers.{header_exactly}

-- ---- the claim

pub claim_exactly : (b : Bundle) → (first_failing (claim_tests b) ≡ 0) ↔ LastIsClaim b
claim_exactly b = (
  λ e.
      let t = passed_each _ (failing_none (claim_tests b) refl e).0 in
      record {
        some = ltb-true 0 (length b.steps) t.0;
        context = eqb-true (step_of b (length b.steps)).context 0 t.1.0;
        left = eqb-true (step_of b (length b.steps)).left b.left t.1.1.0;
        right = eqb-true (step_of b (length b.steps)).right b.right t.1.1.1.0;
      },
  λ h.
      none_failing (claim_tests b) (
        all_passed _ (
          lt-ltb 0 (length b.steps) h.some,
          (
            eq-eqb (step_of b (length b.steps)).context 0 h.context,
            (eq-eqb (step_of b (length b.steps)).left b.left h.left, (eq-eqb (step_of b (length b.steps)).right b.right h.right, tt)),
          ),
        ),
        tt,
      ),
)

-- ---- the file

pub early_fault : (f : List ℕ) (m : ℕ) → ((tables_fault f m (required f)).number ≡ 0 → ⊥) → fault_of f m ≡ tables_fault f m (required f)
unfolding fault_of
early_fault f m ne = or_else_here _ _ _ ne

pub nothing_exactly : (f : List ℕ) (m : ℕ) → ((fault_of f m).number ≡ 0) ↔ Acceptable f m
unfolding fault_of tables_fault late_fault
nothing_exactly f m = (there, back)
  where
    b : Bundle
    b = bundle_of f

    header : ℕ
    header = header_fault f m (required f)

    claim : Fault
    claim = or_else (first_failing (claim_tests b)) 0 (fault 0 0)

    there : (fault_of f m).number ≡ 0 → Acceptable f m
    there e =
        let halves = next_both (tables_fault f m (required f)) (late_fault b) e in
        let tables = next_both (fault header 0) (sections_fault b) halves.0 in
        let late = next_both (contexts_fault b) (or_next (steps_fault b) claim) halves.1 in
        let end = next_both (steps_fault b) claim late.1 in
        let good = (header_exactly f m (required f)).0 tables.0 in
        let formed : WellFormed b = (well_formed_exactly b).0 (tables.1, late.0) in
        record {
          header = good.0;
          area = good.1;
          formed = formed;
          steps = (steps_exactly b formed).0 end.0;
          claim = (claim_exactly b).0 (next_both (fault (first_failing (claim_tests b)) 0) (fault 0 0) end.1).0;
        }

    back : Acceptable f m → (fault_of f m).number ≡ 0
    back a =
        let tables = (well_formed_exactly b).1 a.formed in
        both_next (tables_fault f m (required f)) (late_fault b)
        (both_next (fault header 0) (sections_fault b) ((header_exactly f m (required f)).1 (a.header, a.area)) tables.0)
        (both_next (contexts_fault b) (or_next (steps_fault b) claim) tables.1
        (both_next (steps_fault b) claim ((steps_exactly b a.formed).1 a.steps)
        (both_next (fault (first_failing (claim_tests b)) 0) (fault 0 0) ((claim_exactly b).1 a.claim) refl)))

-- ---- the answer: accepted where the fault's number is 0, else refused with its number and record

accepted_as : (b : Bundle) (n i : ℕ) (a : Acceptance) → (answer_of b n i ≡ Accepted a) ↔ ((n ≡ 0) × (a ≡ acceptance b))
unfolding answer_of
accepted_as b zero i a = (λ e. (refl, cc), λ h. rw h.1)
accepted_as b (suc n) i a = (λ e. (cc, cc), λ h. let z : suc n ≡ 0 = h.0 in absurd (omega arith))

pub accepted_where : (f : List ℕ) (m : ℕ) (a : Acceptance) → (judge f m ≡ Accepted a) ↔ (((fault_of f m).number ≡ 0) × (a ≡ acceptance (bundle_of f)))
unfolding judge
accepted_where f m a = accepted_as (bundle_of f) (fault_of f m).number (fault_of f m).«record» a

refused_as : (b : Bundle) (a : Fault) (n i : ℕ) → (answer_of b a.number a.«record» ≡ Refused n i) ↔ ((1 ≤ n) × (a ≡ fault n i))
unfolding answer_of
refused_as b a n i = (there a.number refl, back)
  where
    there : (k : ℕ) → a.number ≡ k → answer_of b k a.«record» ≡ Refused n i → (1 ≤ n) × (a ≡ fault n i)
    there zero q e = (let z : ◌≡◌ {A = ℕ} 0 1 = cc in omega arith, cc)
    there (suc k) q e =
        let same : suc k ≡ n = cc in
        let at : a.«record» ≡ i = cc in
        (omega arith, λ j. record { number = (q ∙ same) j; «record» = at j })

    some : (k j : ℕ) → 1 ≤ k → answer_of b k j ≡ Refused k j
    some zero j l = absurd (omega arith)
    some (suc k) j l = refl

    back : (1 ≤ n) × (a ≡ fault n i) → answer_of b a.number a.«record» ≡ Refused n i
    back h = rw h.1 (some n i h.0)

pub refused_where : (f : List ℕ) (m n i : ℕ) → (judge f m ≡ Refused n i) ↔ ((1 ≤ n) × (fault_of f m ≡ fault n i))
unfolding judge
refused_where f m n i = refused_as (bundle_of f) (fault_of f m) n i
