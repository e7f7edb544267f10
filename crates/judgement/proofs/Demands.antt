-- THE DEMANDS on the checker, each under the name of its type in specs/Demands.antt.
--     refused_exactly           a file is refused with number n and record i exactly where that check is the first that fails
--     accepted_unless_fails     a file is accepted exactly where no check fails
--     accepted_exactly          the same, in document 01's words
--     accepted_sound            accepted, both sides of the claim have equal values
--     accepted_closed           accepted, both sides of the claim are closed
--     accepted_pairs            the answer gives the pairs of the last REFL walked, at most 4,096
--     accepted_distinct         accepted, different numbers stand for different terms
--     area_left                 accepted, the free sets stand in the area; refused, zeros
use Prim.Native.Nat.{ℕ, zero, suc, ◌≤◌}
use mathlib.Core.Path.{◌≡◌, refl, sym, ap, subst, subst₂, ◌∙◌}
use native.Mathlib.Omega.{arith}
use lib.ListN.{length, replicate}
use Rattle.bundle.specs.File.{bundle_of}
use Rattle.bundle.proofs.Fields.{terms_length}
use Rattle.logic.specs.Rules.{steps_fault, last_pairs}
use Rattle.logic.specs.Values.{EqualValues}
use Rattle.logic.specs.Statements.{LastWalked}
use Rattle.logic.proofs.Formed.{well_formed_exactly}
use Rattle.logic.proofs.Distinct.{terms_distinct}
use Rattle.logic.proofs.Instances.{steps_exactly}
use Rattle.logic.proofs.Pairs.{last_pairs_lem, last_pairs_at_most}
use Rattle.logic.specs.Terms.{tree}
use Rattle.logic.specs.Free.{Closed}
use Rattle.logic.proofs.Sound.{claim_sound}
use Rattle.logic.proofs.Scopes.{claim_closed}
use Rattle.judgement.specs.declared.Acceptance.{Acceptance}
use Rattle.judgement.specs.Judge.{area_for, area_after}
use Rattle.judgement.specs.Order.{all_checks}
use Rattle.judgement.specs.Demands.{LastIsClaim, RefusedExactly, AcceptedUnlessFails, AcceptedExactly, AcceptedSound, AcceptedClosed, AcceptedPairs, AcceptedDistinct, AreaLeft}
use Rattle.judgement.proofs.Order.{first_fails, fails_first, none_fails, all_hold, failing_number, checks_find}
use Rattle.judgement.proofs.Accepting.{nothing_exactly, accepted_where, refused_where}
use Rattle.judgement.proofs.Areas.{sets_left}

pub refused_exactly : RefusedExactly
refused_exactly f m n i = (
  λ e. let r = (refused_where f m n i).0 e in fails_first (all_checks f m) n i r.0 ((checks_find f m).first ∙ r.1),
  λ h. (refused_where f m n i).1 (failing_number (checks_find f m) h, sym (checks_find f m).first ∙ first_fails (all_checks f m) n i h),
)

pub accepted_unless_fails : AcceptedUnlessFails
accepted_unless_fails f m = (
  λ e. all_hold (all_checks f m) (checks_find f m).numbers (rw (checks_find f m).first ((accepted_where f m _).0 e).0),
  λ h. (accepted_where f m _).1 (rw (← (checks_find f m).first, none_fails (all_checks f m) h), refl),
)

pub accepted_exactly : AcceptedExactly
accepted_exactly f m a = (
  λ e. let h = (accepted_where f m a).0 e in ((nothing_exactly f m).0 h.0, h.1),
  λ h. (accepted_where f m a).1 ((nothing_exactly f m).1 h.0, h.1),
)

pub accepted_sound : AcceptedSound
accepted_sound f m a e =
    let h = (accepted_exactly f m a).0 e in
    let last : LastIsClaim (bundle_of f) = h.0.claim in
    subst₂ (EqualValues (bundle_of f)) (last.left ∙ sym (ap (λ (x : Acceptance). x.left) h.1))
    (last.right ∙ sym (ap (λ (x : Acceptance). x.right) h.1))
    (claim_sound (bundle_of f) h.0.formed h.0.steps (length (bundle_of f).steps) (last.some, omega arith) last.context)

pub accepted_closed : AcceptedClosed
accepted_closed f m a e =
    let h = (accepted_exactly f m a).0 e in
    let b = bundle_of f in
    let last : LastIsClaim b = h.0.claim in
    let closed = claim_closed b (length b.steps) (h.0.steps (length b.steps) (last.some, omega arith)) last.context in (
      subst (λ (t : ℕ). Closed (tree b t)) (last.left ∙ sym (ap (λ (x : Acceptance). x.left) h.1)) closed.0,
      subst (λ (t : ℕ). Closed (tree b t)) (last.right ∙ sym (ap (λ (x : Acceptance). x.right) h.1)) closed.1,
    )

pub accepted_pairs : AcceptedPairs
accepted_pairs f m a e =
    let h = (accepted_exactly f m a).0 e in
    let is : a.pairs ≡ last_pairs (bundle_of f) (length (bundle_of f).steps) = ap (λ (x : Acceptance). x.pairs) h.1 in
    let none : (steps_fault (bundle_of f)).number ≡ 0 = (steps_exactly (bundle_of f) h.0.formed).1 h.0.steps in (
      subst (LastWalked (bundle_of f) (length (bundle_of f).steps)) (sym is) (last_pairs_lem (bundle_of f) (length (bundle_of f).steps)),
      omega (arith, is, last_pairs_at_most (bundle_of f) none),
    )

pub accepted_distinct : AcceptedDistinct
accepted_distinct f m a e = terms_distinct (bundle_of f) ((well_formed_exactly (bundle_of f)).1 ((accepted_exactly f m a).0 e).0.formed).0

pub area_left : AreaLeft
unfolding area_after
area_left f m = record {
  accepted = λ a e.
      let good = ((accepted_exactly f m a).0 e).0 in
      rw ((accepted_where f m a).0 e).0 (sets_left (bundle_of f) m good.formed.tables (rw terms_length good.area));
  refused = λ n i e. let h = (refused_where f m n i).0 e in rw h.1 (zeros n h.0);
}
  where
    zeros : (n : ℕ) → 1 ≤ n → area_for (bundle_of f) n m ≡ replicate m 0
    zeros zero some = absurd (omega arith)
    zeros (suc n) some = refl
