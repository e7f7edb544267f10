-- `accepted` meets its contract: the header's fault comes first, and where there is none, the file is a bundle and the area is long enough, as the later checks
-- require.
use borrow.Author.Tests.{le-leb}
use Prim.Native.Nat.{ℕ, ◌*◌, ◌≤◌}
use mathlib.Core.Path.{◌≡◌, refl, sym, ap, ◌∙◌}
use mathlib.Core.List.{List}
use lib.ListN.{length}
use Rattle.std.proofs.lemmas.Result.{err_from_is_err_and}
use Rattle.bundle.specs.Bundle.{Bundle}
use Rattle.bundle.specs.Limits.{set_words}
use Rattle.bundle.specs.File.{bundle_of}
use Rattle.bundle.proofs.Fields.{terms_length}
use Rattle.logic.specs.declared.checks.Check.{Check}
use Rattle.logic.specs.Failures.{check_number}
use Rattle.logic.specs.Tests.{Fault, fault, or_next}
use Rattle.logic.specs.Checks.{header_fault, sections_fault, tables_fault}
use Rattle.logic.proofs.Firsts.{or_else_here}
use Rattle.logic.proofs.Headers.{header_exactly, tables_on}
use Rattle.judgement.specs.Judge.{required, lent_for, late_fault, fault_of}
use Rattle.judgement.proofs.Accepting.{early_fault}
use Rattle.judgement.proofs.Areas.{lent_is}
use Rattle.logic.proofs.CheckNumbers.{number_some}
use Rattle.checker.proofs.accepted.Goals as goal

module _ (f : List ℕ) (m : ℕ) where
  -- k is what the header's tests find in f, where m words are lent
  header_refused : (k : Check) → check_number k ≡ header_fault f m (lent_for f) → fault (check_number k) 0 ≡ fault_of f m
  unfolding tables_fault
  header_refused k e =
      let t : tables_fault f m (required f) ≡ fault (check_number k) 0 = sym (lent_is f m) ∙ rw (← e) (or_else_here (check_number k) 0 _ (number_some k)) in
      sym (early_fault f m (λ z. number_some k (rw t at z)) ∙ t)

  -- or they find nothing
  module _ (e : 0 ≡ header_fault f m (lent_for f)) where
    room : set_words * length (bundle_of f).terms ≤ m
    unfolding lent_for bundle_of
    room =
        let h = (header_exactly f m (lent_for f)).0 (sym e) in
        rw terms_length (rw (le-leb 36 (length f) h.0.long) at h.1)

    later : (b : Bundle) → b ≡ bundle_of f → or_next (sections_fault b) (late_fault b) ≡ fault_of f m
    unfolding fault_of bundle_of
    later b is =
        ap (λ (x : Bundle). or_next (sections_fault x) (late_fault x)) is
        ∙ ap (λ (t : Fault). or_next t (late_fault (bundle_of f))) (sym (tables_on f m (lent_for f) refl (sym e)) ∙ lent_is f m)

pub returns-in_err-bundle-clause-fault : goal.returns-in_err-bundle-clause-fault
returns-in_err-bundle-clause-fault c =
    let p = err_from_is_err_and c.from_residual.result c.from_residual.ensures.1 in
    rw (p.1, p.2) (header_refused _ _ c.in_err-bundle.field-0.0 (rw (← c.lent_for-required.ensures) c.in_err-bundle.ensures.number))

pub noted_fault-requires : goal.noted_fault-requires
noted_fault-requires c = rw c.in_ok-bundle.ensures.bundle (room _ _ (rw (← c.lent_for-required.ensures) c.in_ok-bundle.ensures.number))

pub returns-in_err-pairs-clause-fault : goal.returns-in_err-pairs-clause-fault
returns-in_err-pairs-clause-fault c =
    let r = c.from_residual-in_err-pairs in
    let p = err_from_is_err_and r.result r.ensures.1 in
    let b = c.in_ok-bundle.ensures in
    rw (p.1, p.2) (c.in_err-pairs.ensures.fact.fault ∙ later _ _ (rw (← c.lent_for-required.ensures) b.number) _ b.bundle)

pub returns : goal.returns
returns c =
    let b = c.in_ok-bundle.ensures in
    let r = c.in_ok-pairs.ensures in record {
      fault = r.fact.fault ∙ later _ _ (rw (← c.lent_for-required.ensures) b.number) _ b.bundle;
      acceptance = rw (← b.bundle) (λ i. record { left = c.claim_left.ensures.0 i; right = c.claim_right.ensures.0 i; pairs = r.fact.pairs i });
      free_after = rw (← b.bundle) r.free_after;
    }
