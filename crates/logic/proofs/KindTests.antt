-- The kind of a term's record, from the tests of the code, and the record by its fields.
--     kind_binder      the number of a binder
--     kind_other       a number that is neither 1, 2, 5 nor a binder's is no kind
--     record_is        a record is its four fields
use mathlib.Core.Path.{◌≡◌, refl, sym, ◌∙◌}
use mathlib.Core.Bool.{true, false, false≢true}
use Prim.Native.Nat.{ℕ}
use native.Mathlib.Omega.{arith}
use Rattle.bundle.specs.Bundle.{TermRecord}
use Rattle.logic.proofs.TermKinds.{kind_number, is_binder_exactly}
use Rattle.logic.specs.Terms.{Binder, Kind, kind_of, is_binder, variable, application, binder, letting, other}

pub kind_binder : (k : ℕ) → is_binder k ≡ true → (q : Binder) × (kind_of k ≡ binder q)
kind_binder k = (is_binder_exactly k).0

module _ (k : ℕ) (not2 : k ≡ 2 → ⊥) (no_binder : is_binder k ≡ false) (not5 : k ≡ 5 → ⊥) (not1 : k ≡ 1 → ⊥) where
  pub kind_other : kind_of k ≡ other
  kind_other = go (kind_of k) refl
    where
      go : (κ : Kind) → kind_of k ≡ κ → kind_of k ≡ other
      go variable e = absurd (not1 (kind_number k variable e (λ o. let z : ◌≡◌ {A = ℕ} 0 1 = cc in omega arith)))
      go application e = absurd (not2 (kind_number k application e (λ o. let z : ◌≡◌ {A = ℕ} 0 1 = cc in omega arith)))
      go (binder q) e = absurd (false≢true (sym no_binder ∙ (is_binder_exactly k).1 (q, e)))
      go letting e = absurd (not5 (kind_number k letting e (λ o. let z : ◌≡◌ {A = ℕ} 0 1 = cc in omega arith)))
      go other e = e

-- a binder has no list
pub binder_no_list : (k : ℕ) → is_binder k ≡ true → (k ≡ 2 → ⊥) × (k ≡ 5 → ⊥)
unfolding is_binder
binder_no_list k e = (λ z. false≢true (rw z at e), λ z. false≢true (rw z at e))

abbrev pub term_record : ℕ → ℕ → ℕ → ℕ → TermRecord
term_record k x y z = record { kind = k; a = x; b = y; c = z }

pub record_is : (r : TermRecord) {k x y z : ℕ} → k ≡ r.kind → x ≡ r.a → y ≡ r.b → z ≡ r.c → r ≡ term_record k x y z
record_is r p q s u = λ i. record { kind = sym p i; a = sym q i; b = sym s i; c = sym u i }
