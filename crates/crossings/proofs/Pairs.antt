-- Pairs of terms that meet, by what code reads of them.
--     bound_meets_lem     at a variable that is bound on the left
--     free_meets_lem, image_differs     at one that is free there: the right one is its image, or is not
--     none_sorts                two lists, where the first has ended
--     variable_pair, application_pair, binder_pair, let_pair, other_pair     a pair by the kind of the left one
use mathlib.Core.Path.{◌≡◌, refl, sym, ap, ◌∙◌}
use mathlib.Core.Bool.{Bool, true, false, not, ◌&&◌}
use mathlib.Core.List.{List, [], ◌∷◌}
use Prim.Native.Nat.{ℕ}
use lib.Dec.{eqb}
use borrow.Author.Tests.{ne_eqb}
use Rattle.bundle.specs.Bundle.{Bundle, TermRecord, term_of}
use Rattle.bundle.specs.Lists.{same_list, each, has}
use Rattle.logic.specs.declared.Image.{Image}
use Rattle.logic.specs.Terms.{Kind, kind_of, is_binder, variable, application, letting}
use Rattle.logic.specs.ReflWalk.{Crossed, lefts, rights, image_is, bound_meets, free_meets, variable_meets}
use Rattle.logic.specs.ReflWalk.{application_meets, all_sorts_meet, binder_meets, let_meets}
use Rattle.logic.proofs.TermKinds.{number_kind}
use Rattle.logic.proofs.KindTests.{kind_binder, kind_other}
use Rattle.crossings.specs.Places.{stamp}
use Rattle.crossings.specs.Pairs.{meets_as, meets_by}
use Rattle.crossings.proofs.Stamps.{has_stamp, meets_stamps}

module _ (free : ℕ → ℕ → Bool) (image : ℕ → Image) (b : Bundle) (ps : Crossed) (x r : ℕ) {place : ℕ} (at_x : place ≡ stamp (lefts ps) x) where
  pub bound_meets_lem : (place ≡ 0 → ⊥) → {kind z other : ℕ} → kind ≡ (term_of b r).kind → z ≡ (term_of b r).a → other ≡ stamp (rights ps) z
      → (eqb kind 1 && eqb place other) ≡ variable_meets free image b ps x r
  unfolding variable_meets bound_meets
  bound_meets_lem some {kind} {z} {other} dk dz at-z =
      let is : has x (lefts ps) ≡ true = has_stamp (lefts ps) x ∙ rw (← at_x, ne_eqb place 0 some) in
      rw (is, meets_stamps ps x (term_of b r).a is, ← at_x, ← dz, ← at-z, ← dk)

  module _ (none : place ≡ 0) where
    out : has x (lefts ps) ≡ false
    out = has_stamp (lefts ps) x ∙ rw (← at_x, none)

    pub free_meets_lem : {i : Image} {good clear : Bool} → i ≡ image x → good ≡ image_is b i x r → good ≡ true
        → clear ≡ each (λ y. not (free r y)) (rights ps) → clear ≡ variable_meets free image b ps x r
    unfolding variable_meets free_meets
    free_meets_lem di dg is dc = rw (out, ← di, ← dg, is, dc)

    pub image_differs : {i : Image} {good : Bool} → i ≡ image x → good ≡ image_is b i x r → good ≡ false → false ≡ variable_meets free image b ps x r
    unfolding variable_meets free_meets
    image_differs di dg is = rw (out, ← di, ← dg, is)

-- ---- lists of which the first has ended

module _ (b : Bundle) where
  pub none_sorts : (ys : List ℕ) → all_sorts_meet b [] ys ≡ same_list [] ys
  unfolding all_sorts_meet same_list
  none_sorts [] = refl
  none_sorts (y ∷ ys) = refl

-- ---- a record's kind, from the tests of the code; p is what the function of that kind answers

module _ (free : ℕ → ℕ → Bool) (image : ℕ → Image) (b : Bundle) (s : TermRecord) (ps : Crossed) (r : ℕ) {kind : ℕ} (dk : kind ≡ s.kind) {p : Bool} where
  of_kind : {k : Kind} → kind_of kind ≡ k → p ≡ meets_as free image b k s ps r → p ≡ meets_by free image b s ps r
  unfolding meets_by
  of_kind e d = d ∙ sym (ap (λ (k : Kind). meets_as free image b k s ps r) (ap kind_of (sym dk) ∙ e))

  pub variable_pair : kind ≡ 1 → {x : ℕ} → x ≡ s.a → p ≡ variable_meets free image b ps x r → p ≡ meets_by free image b s ps r
  unfolding meets_as
  variable_pair e dx d = of_kind (ap kind_of e ∙ number_kind variable) (d ∙ ap (λ (x : ℕ). variable_meets free image b ps x r) dx)

  pub application_pair : kind ≡ 2 → p ≡ application_meets b s r → p ≡ meets_by free image b s ps r
  unfolding meets_as
  application_pair e d = of_kind (ap kind_of e ∙ number_kind application) d

  pub binder_pair : is_binder kind ≡ true → p ≡ binder_meets b s r → p ≡ meets_by free image b s ps r
  unfolding meets_as
  binder_pair e d = of_kind (kind_binder kind e).1 d

  pub let_pair : kind ≡ 5 → p ≡ let_meets b s r → p ≡ meets_by free image b s ps r
  unfolding meets_as
  let_pair e d = of_kind (ap kind_of e ∙ number_kind letting) d

  pub other_pair : (kind ≡ 1 → ⊥) → (kind ≡ 2 → ⊥) → is_binder kind ≡ false → (kind ≡ 5 → ⊥) → p ≡ false → p ≡ meets_by free image b s ps r
  unfolding meets_as
  other_pair not1 not2 no_binder not5 d = of_kind (kind_other kind not2 no_binder not5 not1) d
