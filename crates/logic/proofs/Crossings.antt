-- What binders that meet cross: their variables, and that the order does not matter in which a let's are crossed.
--     LetBinds, bound_variables           the variables that a well-formed term binds
--     sorts_meet_lem, sorts_met               variables of one sort, and lists of them
--     all_sorts_meet_lem, all_sorts_met
--     Alike, alike_meets                  crossed binders under which the same terms meet
--     cross_alike                         a let's variables crossed one after another are as all at once, where they are different
--     cross_meets                         so the same terms meet
use mathlib.Core.Path.{◌≡◌, refl, sym, ap, ap₂, ◌∙◌, subst}
use Prim.Native.Nat.{ℕ}
use mathlib.Core.Bool.{Bool, true, false, cond, not, ◌&&◌, ◌||◌}
use mathlib.Core.Logic.{inl, inr, ◌↔◌}
use mathlib.Core.List.{List, [], ◌∷◌, ◌++◌, map}
use native.Mathlib.Omega.{arith}
use lib.ListN.{length, length-map}
use lib.Dec.{eqb}
use borrow.Author.Tests.{eqb-true, eq-eqb}
use Rattle.std.proofs.lemmas.Bool.{and_from}
use Rattle.bundle.specs.Bundle.{Bundle, TermRecord, term_of, sort_of_variable}
use Rattle.bundle.specs.Links.{items}
use Rattle.bundle.specs.Lists.{numbers, has}
use Rattle.logic.specs.Lists.{Among, All, Different, Number}
use Rattle.logic.specs.Terms.{Binder, Term, Terms, var, app, bind, let_in, none, more, kind_of, application, binder, letting}
use Rattle.logic.specs.WellFormed.{TermFormed, a_variable, an_application, a_binder, a_let, sort_of_term}
use Rattle.logic.specs.ReflWalk.{Crossed, lefts, rights, cross_all, meets, sorts_meet, all_sorts_meet}
use Rattle.logic.proofs.Tests.{and_left, and_right, numbers_of_lem, numbers_in}
use Rattle.logic.proofs.Exactly.{has_exactly}
use Rattle.logic.proofs.Meets.{zero_one, pair_up, VariableMeets, Meets, MeetsAll}

-- ---- the variables that a term binds

module _ (b : Bundle) where
  -- those of a let: variables, all different, as many as its bound terms
  pub record LetBinds (s : TermRecord) : Type 0 where
    pub variables : All (Number (length b.variables)) (items b s.a)
    pub different : Different (items b s.a)
    pub as_many : length (items b s.b) ≡ length (items b s.a)

  abbrev Binds : TermRecord → Type 0
  Binds s = ((q : Binder) → kind_of s.kind ≡ binder q → Number (length b.variables) s.a) × (s.kind ≡ 5 → LetBinds s)

  pub bound_variables : (r : ℕ) → TermFormed b r → Binds (term_of b r)
  unfolding kind_of
  bound_variables r (a_variable x e n) = subst Binds (sym e) ((λ q k. n), λ k. absurd (omega arith))
  bound_variables r (an_application f s e k st low sorts) = subst Binds (sym e) ((λ q k. absurd (no_binder q k)), λ k. absurd (omega arith))
    where
      no_binder : (q : Binder) → application ≡ binder q → ⊥
      no_binder q k = let z : ◌≡◌ {A = ℕ} 0 1 = cc in omega arith
  bound_variables r (a_binder q k x t e h n low sorts) = subst Binds (sym e) ((λ o z. n), λ z. absurd (no_let (sym (ap kind_of z) ∙ h)))
    where
      no_let : letting ≡ binder q → ⊥
      no_let o = let z : ◌≡◌ {A = ℕ} 0 1 = cc in omega arith
  bound_variables r (a_let vs ts t e sv nv st lows low lists) = subst Binds (sym e) ((λ q k. absurd (no_binder q k)), λ k. all)
    where
      no_binder : (q : Binder) → letting ≡ binder q → ⊥
      no_binder q k = let z : ◌≡◌ {A = ℕ} 0 1 = cc in omega arith

      all : LetBinds (record { kind = 5; a = vs; b = ts; c = t })
      all = record {
        variables = nv;
        different = lists.different;
        as_many = omega (arith, ap (length {A = ℕ}) lists.sorts, length-map (items b vs) (sort_of_variable b), length-map (items b ts) (sort_of_term b));
      }

  -- ---- sorts

  abbrev V' : ℕ
  V' = length b.variables

  pub sorts_meet_lem : (x y : ℕ) → sorts_meet b x y ≡ true → Number V' x × Number V' y × (sort_of_variable b x ≡ sort_of_variable b y)
  unfolding sorts_meet
  sorts_meet_lem x y e =
      let known : (numbers V' x && numbers V' y) ≡ true = and_left (numbers V' x && numbers V' y) (eqb (sort_of_variable b x) (sort_of_variable b y)) e in (
        numbers_of_lem V' x (and_left (numbers V' x) (numbers V' y) known),
        numbers_of_lem V' y (and_right (numbers V' x) (numbers V' y) known),
        eqb-true (sort_of_variable b x) (sort_of_variable b y) (and_right (numbers V' x && numbers V' y) (eqb (sort_of_variable b x) (sort_of_variable b y)) e),
      )

  pub sorts_met : (x y : ℕ) → Number V' x → Number V' y → sort_of_variable b x ≡ sort_of_variable b y → sorts_meet b x y ≡ true
  unfolding sorts_meet
  sorts_met x y nx ny e =
      and_from (numbers V' x && numbers V' y) (eqb (sort_of_variable b x) (sort_of_variable b y))
      (and_from (numbers V' x) (numbers V' y) (numbers_in V' x nx.0 nx.1) (numbers_in V' y ny.0 ny.1))
      (eq-eqb (sort_of_variable b x) (sort_of_variable b y) e)

  pub all_sorts_meet_lem : (xs ys : List ℕ) → all_sorts_meet b xs ys ≡ true → map (sort_of_variable b) xs ≡ map (sort_of_variable b) ys
  unfolding all_sorts_meet
  all_sorts_meet_lem [] [] e = refl
  all_sorts_meet_lem [] (y ∷ ys) e = zero_one cc
  all_sorts_meet_lem (x ∷ xs) [] e = zero_one cc
  all_sorts_meet_lem (x ∷ xs) (y ∷ ys) e =
      ap₂ (λ (s : ℕ) (ss : List ℕ). s ∷ ss) (sorts_meet_lem x y (and_left (sorts_meet b x y) (all_sorts_meet b xs ys) e)).2
      (all_sorts_meet_lem xs ys (and_right (sorts_meet b x y) (all_sorts_meet b xs ys) e))

  pub all_sorts_met : (xs ys : List ℕ) → All (Number V') xs → All (Number V') ys → map (sort_of_variable b) xs ≡ map (sort_of_variable b) ys
      → all_sorts_meet b xs ys ≡ true
  unfolding all_sorts_meet
  all_sorts_met [] [] nx ny e = refl
  all_sorts_met [] (y ∷ ys) nx ny e = zero_one cc
  all_sorts_met (x ∷ xs) [] nx ny e = zero_one cc
  all_sorts_met (x ∷ xs) (y ∷ ys) nx ny e =
      and_from (sorts_meet b x y) (all_sorts_meet b xs ys) (sorts_met x y nx.0 ny.0 cc) (all_sorts_met xs ys nx.1 ny.1 cc)

-- ---- crossed binders under which the same terms meet

pub record Alike (ps qs : Crossed) : Type 0 where
  pub same : (x z : ℕ) → meets ps x z ≡ meets qs x z
  pub left : (x : ℕ) → has x (lefts ps) ≡ has x (lefts qs)
  pub right : (y : ℕ) → has y (rights ps) ≡ has y (rights qs)

alike_refl : (ps : Crossed) → Alike ps ps
alike_refl ps = record { same = λ x z. refl; left = λ x. refl; right = λ y. refl }

alike_sym : (ps qs : Crossed) → Alike ps qs → Alike qs ps
alike_sym ps qs a = record { same = λ x z. sym (a.same x z); left = λ x. sym (a.left x); right = λ y. sym (a.right y) }

alike_trans : (ps qs rs : Crossed) → Alike ps qs → Alike qs rs → Alike ps rs
alike_trans ps qs rs a c = record {
  same = λ x z. a.same x z ∙ c.same x z;
  left = λ x. a.left x ∙ c.left x;
  right = λ y. a.right y ∙ c.right y;
}

alike_cons : (p : ℕ × ℕ) (ps qs : Crossed) → Alike ps qs → Alike (p ∷ ps) (p ∷ qs)
unfolding meets has lefts rights
alike_cons p ps qs a = record {
  same = λ x z. ap (λ (m : Bool). cond (eqb x p.0) (eqb z p.1) (not (eqb z p.1) && m)) (a.same x z);
  left = λ x. ap (λ (h : Bool). eqb x p.0 || h) (a.left x);
  right = λ y. ap (λ (h : Bool). eqb y p.1 || h) (a.right y);
}

alike_pairs : (xs ys : List ℕ) (ps qs : Crossed) → Alike ps qs → Alike (pair_up xs ys ++ ps) (pair_up xs ys ++ qs)
unfolding pair_up
alike_pairs [] ys ps qs a = a
alike_pairs (x ∷ xs) [] ps qs a = a
alike_pairs (x ∷ xs) (y ∷ ys) ps qs a = alike_cons (x, y) (pair_up xs ys ++ ps) (pair_up xs ys ++ qs) (alike_pairs xs ys ps qs a)

module _ (b : Bundle) (σ : ℕ → Term) where
  alike_variable : (x : ℕ) (ps qs : Crossed) (r : Term) → Alike ps qs → VariableMeets b σ ps x r → VariableMeets b σ qs x r
  alike_variable x ps qs r a (inl (z, e, m)) = inl (z, e, sym (a.same x z) ∙ m)
  alike_variable x ps qs r a (inr (out, e, apart)) =
      inr (sym (a.left x) ∙ out, e, λ y among f. apart y ((has_exactly y (rights ps)).0 (a.right y ∙ (has_exactly y (rights qs)).1 among)) f)

  mutual
    pub alike_meets : (t : Term) (ps qs : Crossed) (r : Term) → Alike ps qs → Meets b σ ps t r → Meets b σ qs t r
    alike_meets (var x) ps qs r a m = alike_variable x ps qs r a m
    alike_meets (app f ts) ps qs r a (us, e, ms) = (us, e, alike_all ts ps qs us a ms)
    alike_meets (bind q x t) ps qs r a (y, u, e, s, m) = (y, u, e, s, alike_meets t ((x, y) ∷ ps) ((x, y) ∷ qs) u (alike_cons (x, y) ps qs a) m)
    alike_meets (let_in xs ts u) ps qs r a (ys, us, v, e, s, ms, m) =
        (ys, us, v, e, s, alike_all ts ps qs us a ms, alike_meets u (pair_up xs ys ++ ps) (pair_up xs ys ++ qs) v (alike_pairs xs ys ps qs a) m)

    alike_all : (ts : Terms) (ps qs : Crossed) (rs : Terms) → Alike ps qs → MeetsAll b σ ps ts rs → MeetsAll b σ qs ts rs
    alike_all none ps qs rs a e = e
    alike_all (more t ts) ps qs rs a (v, vs, e, m, ms) = (v, vs, e, alike_meets t ps qs v a m, alike_all ts ps qs vs a ms)

-- ---- a let's variables

swapped : (p q s t m : Bool) → (p ≡ true → q ≡ true → ⊥) → (s ≡ true → t ≡ true → ⊥)
    → cond p s (not s && cond q t (not t && m)) ≡ cond q t (not t && cond p s (not s && m))
swapped true true s t m h k = absurd (h refl refl)
swapped true false true true m h k = absurd (k refl refl)
swapped true false true false m h k = refl
swapped true false false true m h k = refl
swapped true false false false m h k = refl
swapped false true true true m h k = absurd (k refl refl)
swapped false true true false m h k = refl
swapped false true false true m h k = refl
swapped false true false false m h k = refl
swapped false false true true m h k = absurd (k refl refl)
swapped false false true false m h k = refl
swapped false false false true m h k = refl
swapped false false false false m h k = refl

or_swap : (p q h : Bool) → (p || (q || h)) ≡ (q || (p || h))
or_swap true true h = refl
or_swap true false h = refl
or_swap false true h = refl
or_swap false false h = refl

swap_alike : (x y v w : ℕ) (ps : Crossed) → (x ≡ v → ⊥) → (y ≡ w → ⊥) → Alike ((x, y) ∷ (v, w) ∷ ps) ((v, w) ∷ (x, y) ∷ ps)
unfolding meets has lefts rights
swap_alike x y v w ps h k = record {
  same = λ u z.
      swapped (eqb u x) (eqb u v) (eqb z y) (eqb z w) (meets ps u z)
      (λ e f. h (sym (eqb-true u x e) ∙ eqb-true u v f)) (λ e f. k (sym (eqb-true z y e) ∙ eqb-true z w f));
  left = λ u. or_swap (eqb u x) (eqb u v) (has u (lefts ps));
  right = λ z. or_swap (eqb z y) (eqb z w) (has z (rights ps));
}

-- a pair crossed before others is as one crossed after them
through_alike : (x y : ℕ) (xs ys : List ℕ) (ps : Crossed) → (Among x xs → ⊥) → (Among y ys → ⊥)
    → Alike ((x, y) ∷ (pair_up xs ys ++ ps)) (pair_up xs ys ++ ((x, y) ∷ ps))
unfolding pair_up
through_alike x y [] ys ps h k = alike_refl ((x, y) ∷ ps)
through_alike x y (v ∷ vs) [] ps h k = alike_refl ((x, y) ∷ ps)
through_alike x y (v ∷ vs) (w ∷ ws) ps h k =
    alike_trans ((x, y) ∷ (v, w) ∷ (pair_up vs ws ++ ps)) ((v, w) ∷ (x, y) ∷ (pair_up vs ws ++ ps)) ((v, w) ∷ (pair_up vs ws ++ ((x, y) ∷ ps)))
    (swap_alike x y v w (pair_up vs ws ++ ps) (λ e. h (inl e)) (λ e. k (inl e)))
    (alike_cons (v, w) ((x, y) ∷ (pair_up vs ws ++ ps)) (pair_up vs ws ++ ((x, y) ∷ ps))
    (through_alike x y vs ws ps (λ m. h (inr m)) (λ m. k (inr m))))

pub cross_alike : (xs ys : List ℕ) (ps : Crossed) → Different xs → Different ys → Alike (pair_up xs ys ++ ps) (cross_all xs ys ps)
unfolding pair_up cross_all
cross_alike [] ys ps dx dy = alike_refl ps
cross_alike (x ∷ xs) [] ps dx dy = alike_refl ps
cross_alike (x ∷ xs) (y ∷ ys) ps dx dy =
    alike_trans ((x, y) ∷ (pair_up xs ys ++ ps)) (pair_up xs ys ++ ((x, y) ∷ ps)) (cross_all xs ys ((x, y) ∷ ps))
    (through_alike x y xs ys ps dx.0 dy.0) (cross_alike xs ys ((x, y) ∷ ps) dx.1 dy.1)

pub cross_meets : (b : Bundle) (σ : ℕ → Term) (xs ys : List ℕ) (ps : Crossed) → Different xs → Different ys → (t r : Term)
    → Meets b σ (pair_up xs ys ++ ps) t r ↔ Meets b σ (cross_all xs ys ps) t r
cross_meets b σ xs ys ps dx dy t r =
    let a : Alike (pair_up xs ys ++ ps) (cross_all xs ys ps) = cross_alike xs ys ps dx dy in (
      alike_meets b σ t (pair_up xs ys ++ ps) (cross_all xs ys ps) r a,
      alike_meets b σ t (cross_all xs ys ps) (pair_up xs ys ++ ps) r (alike_sym (pair_up xs ys ++ ps) (cross_all xs ys ps) a),
    )
