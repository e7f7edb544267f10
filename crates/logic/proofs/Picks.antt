-- Sets of values as lists, and picks.
--     set_exactly                  a set's members are the values of the sort for which the test holds
--     sets_mean                    THE THEOREM: a set is told by its members
--     picks_exist                  THE THEOREM: there are picks for every size
--     choice_some, choice_every    a quantifier is true exactly where its body is true at a choice
use mathlib.Core.Path.{◌≡◌, refl, sym, ap, ◌∙◌, subst}
use mathlib.Core.Logic.Iff
use mathlib.Core.Logic.{◌⊎◌, ◌↔◌, inl, inr}
use Prim.Native.Nat.{ℕ}
use mathlib.Core.Bool.{Bool, true, false, cond, not, false≢true}
use mathlib.Core.List.{List, [], ◌∷◌}
use Rattle.std.specs.Cmp.{both_ways}
use Rattle.bundle.specs.Bundle.{Bundle}
use Rattle.logic.specs.Lists.{Among}
use Rattle.logic.specs.Symbols.{SortKind, kind_of_sort}
use Rattle.logic.specs.WellFormed.{IsSort}
use Rattle.logic.specs.Terms.{choice}
use Rattle.logic.specs.Values.{Value, listed, HasIn, selected, set_in, World, range, for_every, for_some, bound_value}
use Rattle.logic.specs.Meanings.{PicksExist, SetsMean}
use Rattle.logic.proofs.Values.{is_listed, listed_is, some_value, has_some, in_range, range_has, every_of, of_every, some_of, of_some, selected_same}
use Rattle.logic.proofs.Tests.{not_in}

-- ---- sets

module _ (p : Value → Bool) where
  selected_exactly : (vs : List Value) (v : Value) → Among v (selected p vs) ↔ (Among v vs × (p v ≡ true))
  unfolding selected
  selected_exactly [] v = (λ m. absurd m, λ h. absurd h.0)
  selected_exactly (u ∷ vs) v = go (p u) refl (selected_exactly vs v)
    where
      go : (q : Bool) → p u ≡ q → Among v (selected p vs) ↔ (Among v vs × (p v ≡ true))
          → Among v (cond q (u ∷ selected p vs) (selected p vs)) ↔ (Among v (u ∷ vs) × (p v ≡ true))
      go true e later = (
        λ m. elim m [ inl h ↦ (inl h, ap p h ∙ e) | inr h ↦ (inr (later.0 h).0, (later.0 h).1) ],
        λ (m, t). elim m [ inl h ↦ inl h | inr h ↦ inr (later.1 (h, t)) ],
      )
      go false e later = (
        λ m. (inr (later.0 m).0, (later.0 m).1),
        λ (m, t). elim m [ inl h ↦ absurd (false≢true (sym e ∙ sym (ap p h) ∙ t)) | inr h ↦ later.1 (h, t) ],
      )

module _ (b : Bundle) (size : ℕ → ℕ) (s : ℕ) where
  set_exactly : (p : Value → Bool) (v : Value) → Among v (set_in b size s p) ↔ (HasIn b size s v × (p v ≡ true))
  set_exactly p v = Iff.trans (selected_exactly p values v) (λ h. (listed_is k (size s) v h.0, h.1), λ h. (is_listed k (size s) v h.0, h.1))
    where
      k : SortKind
      k = kind_of_sort b s

      values : List Value
      values = listed k (size s)

  -- of two tests with one set: where the first holds, so does the second
  other_holds : (p o : Value → Bool) → set_in b size s p ≡ set_in b size s o → (v : Value) → HasIn b size s v → p v ≡ true → o v ≡ true
  other_holds p o same v h t = ((set_exactly o v).0 (subst (Among v) same ((set_exactly p v).1 (h, t)))).1

pub sets_mean : SetsMean
sets_mean b size s p o = (
  λ same v h. both_ways (p v) (o v) (other_holds b size s p o same v h) (other_holds b size s o p (sym same) v h),
  λ h. selected_same p o (listed (kind_of_sort b s) (size s)) (λ v m. h v (listed_is (kind_of_sort b s) (size s) v m)),
)

-- ---- picks: the first member, or a default

abbrev first_or : Value → List Value → Value
first_or d [] = d
first_or d (v ∷ vs) = v

first_of : (d : Value) (vs : List Value) → (first_or d vs ≡ d) ⊎ Among (first_or d vs) vs
first_of d [] = inl refl
first_of d (v ∷ vs) = inr (inl refl)

first_in : (d : Value) (vs : List Value) (v : Value) → Among v vs → Among (first_or d vs) vs
first_in d [] v m = m
first_in d (u ∷ vs) v m = inl refl

pub picks_exist : PicksExist
picks_exist b size some = record {
  pick = λ s vs. first_or (default s) vs;
  a_value = λ s h p. of_sort s h p (first_of (default s) (set_in b size s p));
  a_member = λ s h p v has t. let m = first_in (default s) (set_in b size s p) v ((set_exactly b size s p v).1 (has, t)) in (members s p m).1;
}
  where
    default : ℕ → Value
    default s = some_value (kind_of_sort b s)

    picked : ℕ → (Value → Bool) → Value
    picked s p = first_or (default s) (set_in b size s p)

    members : (s : ℕ) (p : Value → Bool) → Among (picked s p) (set_in b size s p) → HasIn b size s (picked s p) × (p (picked s p) ≡ true)
    members s p = (set_exactly b size s p (picked s p)).0

    of_sort : (s : ℕ) → IsSort b s → (p : Value → Bool) → (picked s p ≡ default s) ⊎ Among (picked s p) (set_in b size s p) → HasIn b size s (picked s p)
    of_sort s h p (inl e) = subst (HasIn b size s) (sym e) (has_some b size some s h)
    of_sort s h p (inr m) = (members s p m).0

-- ---- a choice's value

module _ {b : Bundle} (w : World b) (s : ℕ) (sort : IsSort b s) (p : Value → Bool) where
  -- p holds for some value exactly where it does for the pick from those for which it holds,
  pub choice_some : for_some p (range w s) ≡ p (bound_value w choice s p)
  unfolding bound_value
  choice_some =
      both_ways (for_some p (range w s)) (p (bound_value w choice s p))
      (λ e. let f : (v : Value) × (Among v (range w s)) × (p v ≡ true) = some_of p (range w s) e in
      w.picks.a_member s sort p f.0 (range_has w s f.0 f.1) f.2)
      (of_some p (range w s) (bound_value w choice s p) (in_range w s (bound_value w choice s p) (w.picks.a_value s sort p)))

  -- and for every value exactly where it does for the pick from those for which it does not
  pub choice_every : for_every p (range w s) ≡ p (bound_value w choice s (λ v. not (p v)))
  unfolding bound_value
  choice_every =
      both_ways (for_every p (range w s)) (p c) (λ e. every_of p (range w s) e c (in_range w s c (w.picks.a_value s sort (λ v. not (p v)))))
      (λ e. of_every p (range w s) (λ v m. holds v m e (p v) refl))
    where
      c : Value
      c = bound_value w choice s (λ v. not (p v))

      holds : (v : Value) → Among v (range w s) → p c ≡ true → (q : Bool) → p v ≡ q → q ≡ true
      holds v m e true f = refl
      holds v m e false f = not_in (p c) (w.picks.a_member s sort (λ v. not (p v)) v (range_has w s v m) (ap not f)) e
