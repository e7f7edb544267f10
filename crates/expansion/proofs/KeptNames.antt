-- Which variables keep their names.
--     no_binder, none_bind, one_binder, one_binds     how many of the terms 1 to n bind a variable
--     listed_exactly                                  whether one of them lists it
--     binds_at, lists_at                              what the tests of a record say, in propositions
--     keeps_exactly                                   THE LAW: by default a variable is kept exactly where one term binds it and no let lists it
--     kept_bound                                      the same of a kept variable, under either choice
--     kept_number                                     in well-formed tables only a variable of the job is kept
use mathlib.Core.Path.{◌≡◌, refl, sym, ap, ◌∙◌, subst}
use Prim.Native.Nat.{ℕ, zero, suc}
use mathlib.Core.Bool.{Bool, true, false, cond, not, ◌||◌, false≢true}
use mathlib.Core.Logic.{◌↔◌, ◌⊎◌, inl, inr}
use native.Mathlib.Omega.{arith}
use native.Mathlib.Decide.{ℕ_discrete}
use lib.ListN.{length}
use lib.Dec.{eqb}
use Rattle.std.proofs.lemmas.Bool.{or_cases, or_left, or_right, false_from_ne_true}
use Rattle.std.proofs.lemmas.Bool.Decides.{Decides-and, Decides-not, Decides-eqb}
use Rattle.bundle.specs.Bundle.{Bundle, TermRecord, term_of}
use Rattle.bundle.specs.Links.{items}
use Rattle.bundle.specs.Lists.{has}
use Rattle.logic.specs.Lists.{Among, Number}
use Rattle.logic.specs.Terms.{Binder, Kind, variable, application, binder, letting, number_of, kind_of, is_binder}
use Rattle.logic.proofs.Exactly.{has_exactly}
use Rattle.logic.specs.WellFormed.{TermFormed, a_variable, an_application, a_binder, a_let, TablesFormed}
use Rattle.logic.proofs.TermKinds.{number_kind, kind_test, is_binder_exactly}
use Rattle.expansion.specs.declared.Names.{Names}
use Rattle.expansion.specs.declared.Names.TheVariants.{Keep, RenameAll}
use Rattle.expansion.specs.Names.{binds, lists, binders, listed, keeps, BindsAt, ListsAt, BoundOnce, KeepsExactly}

module _ (b : Bundle) (x : ℕ) where
  -- ---- how many of the terms 1 to n bind x

  -- term t is one of them, and binds x
  abbrev BindsTo : ℕ → ℕ → Type 0
  BindsTo n t = Number n t × (binds (term_of b t) x ≡ true)

  -- the last of them, or one before
  last_or : {A : Type 0} (n t : ℕ) → Number (suc n) t → (t ≡ suc n → A) → (Number n t → A) → A
  last_or {A} n t h last before = go (ℕ_discrete t (suc n))
    where
      go : Dec (t ≡ suc n) → A
      go (yes e) = last e
      go (no e) = before (h.0, omega (arith, h.1))

  more : {n t : ℕ} → BindsTo n t → BindsTo (suc n) t
  more h = ((h.0.0, omega (arith, h.0.1)), h.1)

  no_binder : (n : ℕ) → binders b n x ≡ 0 → (t : ℕ) → BindsTo n t → ⊥
  unfolding binders
  no_binder zero e t h = omega (arith, h.0.0, h.0.1)
  no_binder (suc n) e t h = go (binds (term_of b (suc n)) x) refl e (no_binder n)
    where
      go : (p : Bool) → binds (term_of b (suc n)) x ≡ p → cond p (suc (binders b n x)) (binders b n x) ≡ 0
          → (binders b n x ≡ 0 → (t : ℕ) → BindsTo n t → ⊥) → ⊥
      go true q e ih = omega arith
      go false q e ih = last_or n t h.0 (λ is. false≢true (sym q ∙ rw is at h.1)) (λ low. ih e t (low, h.1))

  none_bind : (n : ℕ) → ((t : ℕ) → BindsTo n t → ⊥) → binders b n x ≡ 0
  unfolding binders
  none_bind zero h = refl
  none_bind (suc n) h = rw (false_from_ne_true (binds (term_of b (suc n)) x) (λ e. h (suc n) ((omega arith, omega arith), e))) (none_bind n (λ t k. h t (more k)))

  -- one of the terms binds x
  record OneTo (n : ℕ) : Type 0 where
    pub term : ℕ
    pub bound : BindsTo n term
    pub alone : (t : ℕ) → BindsTo n t → t ≡ term

  one_binder : (n : ℕ) → binders b n x ≡ 1 → OneTo n
  unfolding binders
  one_binder zero e = absurd (omega arith)
  one_binder (suc n) e = go (binds (term_of b (suc n)) x) refl e (one_binder n)
    where
      go : (p : Bool) → binds (term_of b (suc n)) x ≡ p → cond p (suc (binders b n x)) (binders b n x) ≡ 1 → (binders b n x ≡ 1 → OneTo n) → OneTo (suc n)
      go true q e ih = record {
        term = suc n;
        bound = ((omega arith, omega arith), q);
        alone = λ t h. last_or n t h.0 (λ is. is) (λ low. absurd (no_binder n (omega arith) t (low, h.1)));
      }
      go false q e ih =
          let one = ih e in
          record {
            term = one.term;
            bound = more one.bound;
            alone = λ t h. last_or n t h.0 (λ is. absurd (false≢true (sym q ∙ rw is at h.1))) (λ low. one.alone t (low, h.1));
          }

  one_binds : (n : ℕ) → OneTo n → binders b n x ≡ 1
  unfolding binders
  one_binds zero one = absurd (omega (arith, one.bound.0.0, one.bound.0.1))
  one_binds (suc n) one = go (binds (term_of b (suc n)) x) refl (one_binds n)
    where
      go : (p : Bool) → binds (term_of b (suc n)) x ≡ p → (OneTo n → binders b n x ≡ 1) → cond p (suc (binders b n x)) (binders b n x) ≡ 1
      go true q ih =
          let first : suc n ≡ one.term = one.alone (suc n) ((omega arith, omega arith), q) in
          ap suc (none_bind n (λ t h. let is : t ≡ one.term = one.alone t (more h) in omega (arith, h.0.1)))
      go false q ih =
          last_or n one.term one.bound.0 (λ is. absurd (false≢true (sym q ∙ rw is at one.bound.1)))
          (λ low. ih (record { term = one.term; bound = (low, one.bound.1); alone = λ t h. one.alone t (more h) }))

  -- ---- whether one of them lists x

  listed_exactly : (n : ℕ) → (listed b n x ≡ true) ↔ ((t : ℕ) × Number n t × (lists b (term_of b t) x ≡ true))
  unfolding listed
  listed_exactly zero = (λ e. absurd (false≢true e), λ h. absurd (omega (arith, h.1.0, h.1.1)))
  listed_exactly (suc n) = (λ e. there (or_cases (lists b (term_of b (suc n)) x) (listed b n x) e) (listed_exactly n).0, back (listed_exactly n).1)
    where
      there : (lists b (term_of b (suc n)) x ≡ true) ⊎ (listed b n x ≡ true)
          → (listed b n x ≡ true → (t : ℕ) × Number n t × (lists b (term_of b t) x ≡ true))
          → (t : ℕ) × Number (suc n) t × (lists b (term_of b t) x ≡ true)
      there (inl h) ih = (suc n, (omega arith, omega arith), h)
      there (inr h) ih = let (t, nt, k) = ih h in (t, (nt.0, omega (arith, nt.1)), k)

      back : ((t : ℕ) × Number n t × (lists b (term_of b t) x ≡ true) → listed b n x ≡ true)
          → (t : ℕ) × Number (suc n) t × (lists b (term_of b t) x ≡ true) → (lists b (term_of b (suc n)) x || listed b n x) ≡ true
      back ih (t, nt, h) =
          last_or n t nt (λ is. or_left (lists b (term_of b (suc n)) x) (listed b n x) (rw is at h))
          (λ low. or_right (lists b (term_of b (suc n)) x) (listed b n x) (ih (t, low, h)))

  -- ---- the tests of a record, in propositions

  abbrev T : ℕ
  T = length b.terms

  binds_test : (t : ℕ) → (binds (term_of b t) x ≡ true) ↔ (((q : Binder) × (kind_of (term_of b t).kind ≡ binder q)) × ((term_of b t).a ≡ x))
  binds_test t = Decides-and (is_binder (term_of b t).kind) (eqb (term_of b t).a x) (is_binder_exactly (term_of b t).kind) (Decides-eqb (term_of b t).a x)

  binds_at : (t : ℕ) → BindsTo T t ↔ BindsAt b t x
  binds_at t = (
    λ h. let k = (binds_test t).0 h.1 in record { is_term = h.0; kind = k.0; variable = k.1 },
    λ h. (h.is_term, (binds_test t).1 (h.kind, h.variable)),
  )

  lists_test : (t : ℕ) → (lists b (term_of b t) x ≡ true) ↔ ((kind_of (term_of b t).kind ≡ letting) × Among x (items b (term_of b t).a))
  lists_test t =
      Decides-and (eqb (term_of b t).kind (number_of letting)) (has x (items b (term_of b t).a))
      (kind_test (term_of b t).kind letting (λ o. let z : ◌≡◌ {A = ℕ} 0 1 = cc in omega arith)) (has_exactly x (items b (term_of b t).a))

  lists_at : (t : ℕ) → (Number T t × (lists b (term_of b t) x ≡ true)) ↔ ListsAt b t x
  lists_at t = (
    λ h. let k = (lists_test t).0 h.1 in record { is_term = h.0; kind = k.0; variable = k.1 },
    λ h. (h.is_term, (lists_test t).1 (h.kind, h.variable)),
  )

  -- ---- THE LAW

  kept_test : (keeps Keep b x ≡ true) ↔ ((binders b T x ≡ 1) × (((t : ℕ) × Number T t × (lists b (term_of b t) x ≡ true)) → ⊥))
  unfolding keeps
  kept_test =
      Decides-and (eqb (binders b T x) 1) (not (listed b T x)) (Decides-eqb (binders b T x) 1) (Decides-not (listed b T x) (listed_exactly T))

  bound_once : keeps Keep b x ≡ true → BoundOnce b x
  bound_once e =
      let holds = kept_test.0 e in
      let one = one_binder T holds.0 in
      record {
        term = one.term;
        bound = (binds_at one.term).0 one.bound;
        alone = λ t h. one.alone t ((binds_at t).1 h);
        unlisted = λ t h. let k = (lists_at t).1 h in holds.1 (t, k.0, k.1);
      }

  once_bound : BoundOnce b x → keeps Keep b x ≡ true
  once_bound once =
      let one : OneTo T = record {
        term = once.term;
        bound = (binds_at once.term).1 once.bound;
        alone = λ t h. once.alone t ((binds_at t).0 h);
      } in
      kept_test.1 (one_binds T one, λ h. once.unlisted h.0 ((lists_at h.0).0 (h.1, h.2)))

pub keeps_exactly : KeepsExactly
keeps_exactly b x = (bound_once b x, once_bound b x)

-- ---- what the visits use of it, under either choice

pub kept_bound : (names : Names) (b : Bundle) (x : ℕ) → keeps names b x ≡ true → BoundOnce b x
unfolding keeps
kept_bound Keep b x e = bound_once b x e
kept_bound RenameAll b x e = absurd (false≢true e)

-- ---- only a variable of the job is kept

module _ (b : Bundle) where
  -- what a well-formed term binds is a variable of the bundle
  binds_number : (t x : ℕ) → TermFormed b t → BindsAt b t x → Number (length b.variables) x
  binds_number t x formed h = go formed
    where
      kind_is : {r : TermRecord} → term_of b t ≡ r → (term_of b t).kind ≡ r.kind
      kind_is e = ap (λ (r : TermRecord). r.kind) e

      -- its kind, where that is no binder's
      other : {A : Type 0} (k : Kind) → (term_of b t).kind ≡ number_of k → (k ≡ binder h.kind.0 → ⊥) → A
      other k e apart = absurd (apart (sym (ap kind_of e ∙ number_kind k) ∙ h.kind.1))

      clash : ◌≡◌ {A = ℕ} 0 1 → ⊥
      clash z = omega arith

      go : TermFormed b t → Number (length b.variables) x
      go (a_variable y e n) = other variable (kind_is e) (λ z. clash cc)
      go (an_application f s e known start lows sorts) = other application (kind_is e) (λ z. clash cc)
      go (a_binder q k y u e kind n low s) = subst (Number (length b.variables)) (sym (ap (λ (r : TermRecord). r.a) e) ∙ h.variable) n
      go (a_let vs ts u e sv nv st lows low ls) = other letting (kind_is e) (λ z. clash cc)

  pub kept_number : TablesFormed b → (names : Names) (x : ℕ) → keeps names b x ≡ true → Number (length b.variables) x
  kept_number formed names x h =
      let once = kept_bound names b x h in
      binds_number once.term x (formed.terms once.term once.bound.is_term) once.bound
