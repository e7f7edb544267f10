-- What is done with a pair by its kind, from the code's tests of the kind.
--     opened_variable, opened_binder, opened_rest     what is put onto the agenda
--     closes_not                                      what is no application
--     open_variable, open_binder, open_none, open_some     the same, of the words that are read; an application with no arguments
--     opened_crossed                                  it crosses no variables
use mathlib.Core.Path.{◌≡◌, refl, sym, ap, ◌∙◌}
use mathlib.Core.Bool.{Bool, true, false, cond, false≢true}
use mathlib.Core.List.{List, ◌∷◌}
use Prim.Native.Nat.{ℕ}
use native.Mathlib.Omega.{arith}
use lib.ListN.{length}
use borrow.Author.Tests.{ne_eqb}
use Rattle.bundle.specs.Bundle.{Bundle, term_of}
use Rattle.bundle.specs.Links.{starts_at}
use Rattle.logic.specs.Terms.{Kind, kind_of, binds, is_binder, variable, application, binder, letting, other}
use Rattle.logic.proofs.KindTests.{binder_no_list}
use Rattle.logic.proofs.TermKinds.{kind_number}
use Rattle.pair_walk.specs.Agenda.{Frame, pending, crossed_by, opened_as, closes, opened}

not_other {ℓ} : {A : Type ℓ} → ◌≡◌ {A = ℕ} 0 1 → A
not_other e = absurd (omega arith)

variable_kind : (k : ℕ) → kind_of k ≡ variable → k ≡ 1
variable_kind k d = kind_number k variable d (λ q. not_other cc)

-- ---- frames

module _ (b : Bundle) (k : ℕ) (l r : ℕ) (fs : List Frame) where
  pub opened_variable : k ≡ 1 → opened_as b (kind_of k) l r fs ≡ fs
  unfolding opened_as kind_of
  opened_variable e = rw e

  pub opened_binder : is_binder k ≡ true → opened_as b (kind_of k) l r fs ≡ pending l r 0 0 ∷ fs
  unfolding opened_as is_binder
  opened_binder e = go (kind_of k) e
    where
      go : (κ : Kind) → binds κ ≡ true → opened_as b κ l r fs ≡ pending l r 0 0 ∷ fs
      go variable h = absurd (false≢true h)
      go application h = absurd (false≢true h)
      go (binder q) h = refl
      go letting h = absurd (false≢true h)
      go other h = absurd (false≢true h)

  pub opened_rest : is_binder k ≡ false → (k ≡ 1 → ⊥)
      → opened_as b (kind_of k) l r fs ≡ pending l r (starts_at (length b.links) (term_of b l).b) (starts_at (length b.links) (term_of b r).b) ∷ fs
  unfolding opened_as is_binder
  opened_rest e ne = go (kind_of k) refl e
    where
      go : (κ : Kind) → kind_of k ≡ κ → binds κ ≡ false
          → opened_as b κ l r fs ≡ pending l r (starts_at (length b.links) (term_of b l).b) (starts_at (length b.links) (term_of b r).b) ∷ fs
      go variable d h = absurd (ne (variable_kind k d))
      go application d h = refl
      go (binder q) d h = absurd (false≢true (sym h))
      go letting d h = refl
      go other d h = refl

opened_as_crossed : (b : Bundle) (k : Kind) (l r : ℕ) (fs : List Frame) → crossed_by (opened_as b k l r fs) ≡ crossed_by fs
unfolding opened_as crossed_by
opened_as_crossed b variable l r fs = refl
opened_as_crossed b application l r fs = refl
opened_as_crossed b (binder q) l r fs = refl
opened_as_crossed b letting l r fs = refl
opened_as_crossed b other l r fs = refl

pub opened_crossed : (b : Bundle) (l r : ℕ) (fs : List Frame) → crossed_by (opened b l r fs) ≡ crossed_by fs
unfolding opened
opened_crossed b l r fs = go (closes (term_of b l).kind (starts_at (length b.links) (term_of b l).b) (starts_at (length b.links) (term_of b r).b))
  where
    go : (p : Bool) → crossed_by (cond p fs (opened_as b (kind_of (term_of b l).kind) l r fs)) ≡ crossed_by fs
    go true = refl
    go false = opened_as_crossed b (kind_of (term_of b l).kind) l r fs

pub closes_not : (k i j : ℕ) → (k ≡ 2 → ⊥) → closes k i j ≡ false
closes_not k i j ne = rw (ne_eqb k 2 ne)

-- ---- what is put onto the agenda, of the words that are read

module _ (b : Bundle) (l r : ℕ) (fs : List Frame) {k : ℕ} (dk : k ≡ (term_of b l).kind) where
  opened_some : closes (term_of b l).kind (starts_at (length b.links) (term_of b l).b) (starts_at (length b.links) (term_of b r).b) ≡ false
      → opened b l r fs ≡ opened_as b (kind_of (term_of b l).kind) l r fs
  unfolding opened
  opened_some e = rw e

  pub open_variable : k ≡ 1 → opened b l r fs ≡ fs
  open_variable e =
      let one = sym dk ∙ e in
      opened_some (closes_not (term_of b l).kind (starts_at (length b.links) (term_of b l).b) (starts_at (length b.links) (term_of b r).b)
      (λ two. omega (arith, one, two)))
      ∙ opened_variable b (term_of b l).kind l r fs one

  pub open_binder : is_binder k ≡ true → opened b l r fs ≡ pending l r 0 0 ∷ fs
  open_binder e =
      let binds = ap is_binder (sym dk) ∙ e in
      opened_some (closes_not (term_of b l).kind (starts_at (length b.links) (term_of b l).b) (starts_at (length b.links) (term_of b r).b)
      (binder_no_list (term_of b l).kind binds).0)
      ∙ opened_binder b (term_of b l).kind l r fs binds

  module _ {i j : ℕ} (di : i ≡ starts_at (length b.links) (term_of b l).b) (dj : j ≡ starts_at (length b.links) (term_of b r).b) where
    -- an application with no arguments has no frame
    pub open_none : closes k i j ≡ true → opened b l r fs ≡ fs
    unfolding opened
    open_none e = let e' : closes (term_of b l).kind (starts_at (length b.links) (term_of b l).b) (starts_at (length b.links) (term_of b r).b) ≡ true
        = rw (← dk, ← di, ← dj) e in rw e'

    pub open_some : closes k i j ≡ false → is_binder k ≡ false → (k ≡ 1 → ⊥) → opened b l r fs ≡ pending l r i j ∷ fs
    open_some e no_binder not1 =
        opened_some (rw (← dk, ← di, ← dj) e)
        ∙ opened_rest b (term_of b l).kind l r fs (ap is_binder (sym dk) ∙ no_binder) (λ one. not1 (dk ∙ one)) ∙ rw (di, dj)
