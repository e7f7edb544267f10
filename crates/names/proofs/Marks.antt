-- The mark of a variable, term by term.
--     mark_on       the mark after one term more
--     after_binder, after_let, after_other    what a term's record makes of a mark, by its kind
--     list_on      what a let's list makes of a mark, item by item
--     kept_marked, none_kept    THE LAW: the marks after all terms say what is kept, and those of no term where all are renamed
use mathlib.Core.Path.{◌≡◌, refl, ap}
use Prim.Native.Nat.{ℕ, zero, suc, ◌-◌, ◌≤◌}
use mathlib.Core.Bool.{Bool, true, false, cond, not, ◌&&◌, ◌||◌}
use mathlib.Core.List.{List, ◌∷◌}
use native.Mathlib.Omega.{arith}
use lib.ListN.{length}
use lib.Dec.{eqb}
use borrow.Author.Tests.{eq-eqb, ne_eqb, le-leb}
use Rattle.bundle.specs.Bundle.{Bundle, TermRecord, term_of}
use Rattle.bundle.specs.Limits.{limits}
use Rattle.bundle.specs.Links.{items}
use Rattle.bundle.specs.Lists.{has}
use Rattle.logic.specs.Terms.{letting, number_of, is_binder}
use Rattle.logic.proofs.KindTests.{binder_no_list}
use Rattle.expansion.specs.declared.Names.TheVariants.{Keep, RenameAll}
use Rattle.expansion.specs.Names.{binds, lists, binders, listed, keeps}
use Rattle.names.specs.declared.Mark.{Mark}
use Rattle.names.specs.declared.Mark.TheVariants.{Unbound, Renamed}
use Rattle.names.specs.declared.Kept.{Kept}
use Rattle.names.specs.Marks.{is_once, bound_again, mark_at, kept_in, counted, mark_of, after_term}

module _ (b : Bundle) (x : ℕ) where
  -- term n + 1 after the terms 1 to n
  next : (n : ℕ) → mark_of b (suc n) x ≡ after_term b (term_of b (suc n)) x (mark_of b n x)
  unfolding mark_of binders listed after_term counted
  next n = go (lists b (term_of b (suc n)) x) (binds (term_of b (suc n)) x) (listed b n x) (binders b n x)
    where
      go : (l p q : Bool) (m : ℕ) → cond (l || q) Renamed (counted (cond p (suc m) m)) ≡ cond l Renamed (cond p (bound_again (cond q Renamed (counted m))) (cond q Renamed (counted m)))
      go true p q m = refl
      go false true true m = refl
      go false true false m = refl
      go false false true m = refl
      go false false false m = refl

  pub mark_on : (t : ℕ) → 1 ≤ t → mark_of b t x ≡ after_term b (term_of b t) x (mark_of b (t - 1) x)
  mark_on zero one = absurd (omega (arith, one))
  mark_on (suc n) one = let e : suc n - 1 ≡ n = omega arith in rw e (next n)

  -- ---- by the kind of the record

  module _ (r : TermRecord) (m : Mark) where
    pub after_binder : is_binder r.kind ≡ true → after_term b r x m ≡ cond (eqb r.a x) (bound_again m) m
    unfolding after_term
    after_binder e = rw (e, ne_eqb r.kind (number_of letting) (binder_no_list r.kind e).1)

    pub after_let : is_binder r.kind ≡ false → r.kind ≡ number_of letting → after_term b r x m ≡ cond (has x (items b r.a)) Renamed m
    unfolding after_term
    after_let e k = rw (e, eq-eqb r.kind (number_of letting) k)

    pub after_other : is_binder r.kind ≡ false → (r.kind ≡ number_of letting → ⊥) → after_term b r x m ≡ m
    unfolding after_term
    after_other e k = rw (e, ne_eqb r.kind (number_of letting) k)

  -- item y of a let's list, then the rest
  pub list_on : (y : ℕ) (ys : List ℕ) (m : Mark) → cond (has x ys) Renamed (cond (eqb x y) Renamed m) ≡ cond (has x (y ∷ ys)) Renamed m
  unfolding has
  list_on y ys m = go (eqb x y) (has x ys)
    where
      go : (p q : Bool) → cond q Renamed (cond p Renamed m) ≡ cond (p || q) Renamed m
      go true true = refl
      go true false = refl
      go false q = refl

  -- ---- THE LAW

  mark_kept : is_once (mark_of b (length b.terms) x) ≡ keeps Keep b x
  unfolding mark_of keeps counted
  mark_kept = go (listed b (length b.terms) x) (binders b (length b.terms) x)
    where
      again : (n : ℕ) → counted (suc (suc n)) ≡ Renamed
      again zero = refl
      again (suc n) = ap bound_again (again n)

      go : (q : Bool) (n : ℕ) → is_once (cond q Renamed (counted n)) ≡ (eqb n 1 && not q)
      go true zero = refl
      go true (suc zero) = refl
      go true (suc (suc n)) = rw (ne_eqb (suc (suc n)) 1 (λ e. omega arith))
      go false zero = refl
      go false (suc zero) = refl
      go false (suc (suc n)) = rw (again n, ne_eqb (suc (suc n)) 1 (λ e. omega arith))

  module _ (k : Kept) (few : x ≤ limits.variables) where
    pub kept_marked : mark_at k x ≡ mark_of b (length b.terms) x → kept_in k x ≡ keeps Keep b x
    kept_marked e = rw (le-leb x limits.variables few, e) mark_kept

    pub none_kept : mark_at k x ≡ Unbound → kept_in k x ≡ keeps RenameAll b x
    unfolding keeps
    none_kept e = rw (le-leb x limits.variables few, e)
