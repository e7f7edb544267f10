-- Laws of capture-avoiding replacement and of terms that are the same up to names.
--     settled_plain, settled_apart     where each free variable replaces itself, replacement changes nothing and captures nothing
--     unbound_apart               nor does it capture anything where the term has no binder
--     same_form, image_form       so document 01's two forms of REFL are replacements
--     SameUpToNames               terms that are the same up to the names of bound variables
--     same_exactly                THE LAW: a term is another's replacement by its own variables exactly where the two are the same up to names
--     same_walk                   so in context 0 the walk ends with no difference exactly where two terms are the same up to names
--     renamed_first               binders may be renamed first and variables replaced afterwards
--     is_replacement, narrower    but that is less: a binder may take the name of a variable that is replaced
use mathlib.Core.Path.{◌≡◌, refl, sym, ap, ap₂, ◌∙◌, subst, fun_ext}
use Prim.Native.Nat.{ℕ}
use mathlib.Core.Bool.{Bool, true, false, cond, false≢true}
use mathlib.Core.Logic.Iff
use mathlib.Core.Logic.{inl, inr, ◌↔◌}
use mathlib.Core.List.{List, [], ◌∷◌, ◌++◌, map}
use lib.ListN.{length}
use lib.Dec.{eqb}
use Rattle.bundle.specs.Bundle.{Bundle, sort_of_variable}
use Rattle.bundle.specs.Lists.{has}
use Rattle.logic.specs.Lists.{Among, Number}
use Rattle.logic.specs.Terms.{Binder, forAll, Term, Terms, var, app, bind, let_in, none, more, tree}
use Rattle.logic.specs.Free.{Free, Frees}
use Rattle.logic.specs.Contexts.{image_tree, Settled}
use Rattle.logic.specs.WellFormed.{WellFormed}
use Rattle.logic.specs.Nameless.{Marked, MarkedList, whole, own, apply, over, lets, end, next, Place, place, nameless, nameless_all}
use Rattle.logic.specs.Replacement.{replaced, replaced_all, plain, plain_all, NoCapture, NoCaptures, Replacement}
use Rattle.logic.specs.ReflWalk.{Crossed, lefts, rights, pair_walk}
use Rattle.logic.proofs.Exactly.{has_exactly}
use Rattle.logic.proofs.Images.{tree_empty}
use Rattle.logic.proofs.Meets.{zero_one, pair_up, place_has, meets_place, pair_lefts, pair_rights, VariableMeets, Meets, MeetsAll, meets_exactly}
use Rattle.logic.proofs.ReflExactly.{pair_walk_exactly}

-- ---- lists

pub among_left : (x : ℕ) (xs ys : List ℕ) → Among x xs → Among x (xs ++ ys)
among_left x [] ys m = absurd m
among_left x (z ∷ xs) ys (inl e) = inl e
among_left x (z ∷ xs) ys (inr m) = inr (among_left x xs ys m)

pub among_right : (x : ℕ) (xs ys : List ℕ) → Among x ys → Among x (xs ++ ys)
among_right x [] ys m = m
among_right x (z ∷ xs) ys m = inr (among_right x xs ys m)

-- ---- where each free variable replaces itself

module _ (σ : ℕ → Term) where
  -- each variable that is free in a term, and that no binder around it binds, replaces itself
  abbrev Kept : List ℕ → (ℕ → Type 0) → Type 0
  Kept around F = (x : ℕ) → F x → (Among x around → ⊥) → σ x ≡ var x

  under_bind : (around : List ℕ) (q : Binder) (y : ℕ) (t : Term) → Kept around (λ x. Free x (bind q y t)) → Kept (y ∷ around) (λ x. Free x t)
  under_bind around q y t h x f out = h x ((λ e. out (inl e)), f) (λ m. out (inr m))

  under_let : (around : List ℕ) (ys : List ℕ) (ts : Terms) (u : Term) → Kept around (λ x. Free x (let_in ys ts u)) → Kept (ys ++ around) (λ x. Free x u)
  under_let around ys ts u h x f out = h x (inr ((λ m. out (among_left x ys around m)), f)) (λ m. out (among_right x ys around m))

  outside : (around : List ℕ) (x : ℕ) → has x around ≡ false → Among x around → ⊥
  outside around x e m = false≢true (sym e ∙ (has_exactly x around).1 m)

  mutual
    unfolding replaced plain

    pub settled_plain : (t : Term) (around : List ℕ) → Kept around (λ x. Free x t) → plain (replaced σ around t) ≡ t
    settled_plain (var x) around h = go (has x around) refl
      where
        go : (p : Bool) → has x around ≡ p → plain (cond p (own x) (whole (σ x))) ≡ var x
        go true e = refl
        go false e = h x refl (outside around x e)
    settled_plain (app f ts) around h = ap (app f) (settled_plains ts around h)
    settled_plain (bind q y t) around h = ap (bind q y) (settled_plain t (y ∷ around) (under_bind around q y t h))
    settled_plain (let_in ys ts u) around h =
        ap₂ (let_in ys) (settled_plains ts around (λ x f. h x (inl f))) (settled_plain u (ys ++ around) (under_let around ys ts u h))

    settled_plains : (ts : Terms) (around : List ℕ) → Kept around (λ x. Frees x ts) → plain_all (replaced_all σ around ts) ≡ ts
    settled_plains none around h = refl
    settled_plains (more t ts) around h = ap₂ more (settled_plain t around (λ x f. h x (inl f))) (settled_plains ts around (λ x f. h x (inr f)))

  mutual
    unfolding replaced

    pub settled_apart : (t : Term) (around : List ℕ) → Kept around (λ x. Free x t) → NoCapture around (replaced σ around t)
    settled_apart (var x) around h = go (has x around) refl
      where
        go : (p : Bool) → has x around ≡ p → NoCapture around (cond p (own x) (whole (σ x)))
        go true e = tt
        go false e = λ y m f.
            let is : σ x ≡ var x = h x refl (outside around x e) in
            let y-is : y ≡ x = subst (Free y) is f in
            outside around x e (subst (λ (z : ℕ). Among z around) y-is m)
    settled_apart (app f ts) around h = settled_aparts ts around h
    settled_apart (bind q y t) around h = settled_apart t (y ∷ around) (under_bind around q y t h)
    settled_apart (let_in ys ts u) around h =
        (settled_aparts ts around (λ x f. h x (inl f)), settled_apart u (ys ++ around) (under_let around ys ts u h))

    settled_aparts : (ts : Terms) (around : List ℕ) → Kept around (λ x. Frees x ts) → NoCaptures around (replaced_all σ around ts)
    settled_aparts none around h = tt
    settled_aparts (more t ts) around h = (settled_apart t around (λ x f. h x (inl f)), settled_aparts ts around (λ x f. h x (inr f)))

-- a term without binders
abbrev mutual
  pub Unbound : Term → Type 0
  Unbound (var x) = Unit {0}
  Unbound (app f ts) = UnboundAll ts
  Unbound (bind q x t) = ⊥
  Unbound (let_in xs ts u) = ⊥

  pub UnboundAll : Terms → Type 0
  UnboundAll none = Unit {0}
  UnboundAll (more t ts) = Unbound t × UnboundAll ts

module _ (σ : ℕ → Term) where
  mutual
    unfolding replaced has

    pub unbound_apart : (t : Term) → Unbound t → NoCapture [] (replaced σ [] t)
    unbound_apart (var x) h = λ y m f. m
    unbound_apart (app f ts) h = unbound_aparts ts h
    unbound_apart (bind q x t) h = absurd h
    unbound_apart (let_in xs ts u) h = absurd h

    unbound_aparts : (ts : Terms) → UnboundAll ts → NoCaptures [] (replaced_all σ [] ts)
    unbound_aparts none h = tt
    unbound_aparts (more t ts) h = (unbound_apart t h.0, unbound_aparts ts h.1)

-- ---- document 01's two forms of REFL

-- left and right are the same term and it is settled
pub same_form : (b : Bundle) (c : ℕ) (t : Term) → Settled b c t → Replacement b (image_tree b c) t t
same_form b c t h =
    (replaced (image_tree b c) [] t, refl, settled_apart (image_tree b c) t [] (λ x f out. h x f), settled_plain (image_tree b c) t [] (λ x f out. h x f))

-- left is a variable and right its image
pub image_form : (b : Bundle) (σ : ℕ → Term) (x : ℕ) → Replacement b σ (var x) (σ x)
unfolding replaced plain nameless
image_form b σ x = (whole (σ x), refl, (λ y m f. m), refl)

-- ---- the same up to names

-- Two terms are the same up to the names of bound variables; the sorts at binders are compared.
abbrev pub SameUpToNames : Bundle → Term → Term → Type 0
SameUpToNames b t u = nameless b [] (replaced var [] t) ≡ nameless b [] (replaced var [] u)

module _ (b : Bundle) where
  variable_names_lem : (ps : Crossed) (x : ℕ) (r : Term) → VariableMeets b var ps x r
      → nameless b (lefts ps) (replaced var (lefts ps) (var x)) ≡ nameless b (rights ps) (replaced var (rights ps) r)
  unfolding nameless replaced
  variable_names_lem ps x r (inl (z, e, h)) =
      let (i, left, right) = meets_place ps x z h in
      rw (e, place_has (lefts ps) x i left, place_has (rights ps) z i right) (ap own (left ∙ sym right))
  variable_names_lem ps x r (inr (out, e, h)) = rw (e, out) (go (has x (rights ps)) refl)
    where
      go : (p : Bool) → has x (rights ps) ≡ p → whole (var x) ≡ nameless b (rights ps) (cond p (own x) (whole (var x)))
      go true q = absurd (h x ((has_exactly x (rights ps)).0 q) (rw e refl))
      go false q = refl

  mutual
    unfolding nameless replaced lefts rights

    same_names : (l : Term) (ps : Crossed) (r : Term) → Meets b var ps l r
        → nameless b (lefts ps) (replaced var (lefts ps) l) ≡ nameless b (rights ps) (replaced var (rights ps) r)
    same_names (var x) ps r h = variable_names_lem ps x r h
    same_names (app f ts) ps r (us, e, h) = rw e (ap (apply f) (all_names ts ps us h))
    same_names (bind q x t) ps r (y, u, e, s, h) = rw e (ap₂ (over q) s (same_names t ((x, y) ∷ ps) u h))
    same_names (let_in xs ts u) ps r (ys, us, v, e, s, hs, h) =
        let body : nameless b (xs ++ lefts ps) (replaced var (xs ++ lefts ps) u) ≡ nameless b (ys ++ rights ps) (replaced var (ys ++ rights ps) v) =
        rw (pair_lefts (sort_of_variable b) xs ys ps s, pair_rights (sort_of_variable b) xs ys ps s) at (same_names u (pair_up xs ys ++ ps) v h) in
        let bounds : nameless_all b (lefts ps) (replaced_all var (lefts ps) ts) ≡ nameless_all b (rights ps) (replaced_all var (rights ps) us) =
        all_names ts ps us hs in
        rw e (cc)

    all_names : (ls : Terms) (ps : Crossed) (rs : Terms) → MeetsAll b var ps ls rs
        → nameless_all b (lefts ps) (replaced_all var (lefts ps) ls) ≡ nameless_all b (rights ps) (replaced_all var (rights ps) rs)
    all_names none ps rs e = rw e
    all_names (more t ts) ps rs (v, vs, e, h, hs) = rw e (ap₂ next (same_names t ps v h) (all_names ts ps vs hs))

  -- THE LAW
  pub same_exactly : (l r : Term) → Replacement b var l r ↔ SameUpToNames b l r
  unfolding lefts rights
  same_exactly l r = (
    λ h. same_names l [] r ((meets_exactly b var l r).1 h),
    λ e. (replaced var [] r, sym e, settled_apart var r [] (λ x f out. refl), settled_plain var r [] (λ x f out. refl)),
  )

  pub same_walk : WellFormed b → (l r : ℕ) → Number (length b.terms) l → Number (length b.terms) r
      → ((pair_walk b 0 l [] r).same ≡ true) ↔ SameUpToNames b (tree b l) (tree b r)
  same_walk well l r hl hr =
      Iff.trans (subst (λ (σ : ℕ → Term). ((pair_walk b 0 l [] r).same ≡ true) ↔ Replacement b σ (tree b l) (tree b r)) (fun_ext (tree_empty b))
      (pair_walk_exactly b well 0 l r hl hr)) (same_exactly (tree b l) (tree b r))

-- ---- binders renamed first

module _ (b : Bundle) (σ : ℕ → Term) where
  put_in : Term → Marked Place
  put_in (var x) = whole (σ x)
  put_in (app f ts) = whole (app f ts)
  put_in (bind q x t) = whole (bind q x t)
  put_in (let_in xs ts u) = whole (let_in xs ts u)

  mutual
    unfolding put_in

    fill : Marked Place → Marked Place
    fill (whole t) = put_in t
    fill (own p) = own p
    fill (apply f ms) = apply f (fills ms)
    fill (over q s m) = over q s (fill m)
    fill (lets ss ms m) = lets ss (fills ms) (fill m)

    fills : MarkedList Place → MarkedList Place
    fills end = end
    fills (next m ms) = next (fill m) (fills ms)

  mutual
    unfolding fill nameless replaced

    filled : (t : Term) (around : List ℕ) → fill (nameless b around (replaced var around t)) ≡ nameless b around (replaced σ around t)
    filled (var x) around = go (has x around)
      where
        go : (p : Bool) → fill (nameless b around (cond p (own x) (whole (var x)))) ≡ nameless b around (cond p (own x) (whole (σ x)))
        go true = refl
        go false = refl
    filled (app f ts) around = ap (apply f) (filleds ts around)
    filled (bind q x t) around = ap (over q (sort_of_variable b x)) (filled t (x ∷ around))
    filled (let_in xs ts u) around = ap₂ (lets (map (sort_of_variable b) xs)) (filleds ts around) (filled u (xs ++ around))

    filleds : (ts : Terms) (around : List ℕ) → fills (nameless_all b around (replaced_all var around ts)) ≡ nameless_all b around (replaced_all σ around ts)
    filleds none around = refl
    filleds (more t ts) around = ap₂ next (filled t around) (filleds ts around)

  -- l with other names for its binders, whose plain replacement captures nothing
  abbrev pub RenamedFirst : Term → Term → Type 0
  RenamedFirst l r = (k : Term) × SameUpToNames b l k × NoCapture [] (replaced σ [] k) × (plain (replaced σ [] k) ≡ r)

  pub renamed_first : (l r : Term) → RenamedFirst l r → Replacement b σ l r
  renamed_first l r (k, same, apart, is) = (replaced σ [] k, sym (filled k []) ∙ ap fill (sym same) ∙ filled l [], apart, is)

-- ---- a replacement that no renaming beforehand gives: ∀y. p(x) to ∀x. p(a), where a replaces x

abbrev by_constant : ℕ → Term
by_constant x = cond (eqb x 1) (app 34 none) (var x)

abbrev left_side : Term
left_side = bind forAll 2 (app 33 (more (var 1) none))

abbrev right_side : Term
right_side = bind forAll 1 (app 33 (more (app 34 none) none))

module _ (b : Bundle) where
  pub is_replacement : sort_of_variable b 1 ≡ sort_of_variable b 2 → Replacement b by_constant left_side right_side
  unfolding nameless replaced plain
  is_replacement e = (
    over forAll 1 (apply 33 (next (whole (app 34 none)) end)),
    ap (λ (s : ℕ). over forAll s (apply 33 (next (whole (app 34 none)) end))) e,
    ((λ y m f. f), tt),
    refl,
  )

  -- what a term is, from what it is without names
  module _ (around : List ℕ) where
    abbrev names : Term → Marked Place
    names t = nameless b around (replaced var around t)

    variable_of_lem : (x : ℕ) (n : Marked Place) → names (var x) ≡ n → ((p : Place) → n ≡ own p → ⊥) → (has x around ≡ false) × (n ≡ whole (var x))
    unfolding nameless replaced
    variable_of_lem x n e out = go (has x around) refl e
      where
        go : (p : Bool) → has x around ≡ p → nameless b around (cond p (own x) (whole (var x))) ≡ n → (has x around ≡ false) × (n ≡ whole (var x))
        go true q h = absurd (out (place around x) (sym h))
        go false q h = (q, sym h)

    free_of : (t : Term) (x : ℕ) → names t ≡ whole (var x) → (t ≡ var x) × (has x around ≡ false)
    unfolding nameless replaced
    free_of (var y) x e =
        let (out, is) = variable_of_lem y (whole (var x)) e (λ p q. zero_one cc) in
        let y-is : y ≡ x = cc in
        (ap var y-is, subst (λ (z : ℕ). has z around ≡ false) y-is out)
    free_of (app f ts) x e = zero_one cc
    free_of (bind q y t) x e = zero_one cc
    free_of (let_in ys ts u) x e = zero_one cc

    app_of : (t : Term) (f : ℕ) (ns : MarkedList Place) → names t ≡ apply f ns
        → (ts : Terms) × (t ≡ app f ts) × (nameless_all b around (replaced_all var around ts) ≡ ns)
    unfolding nameless replaced
    app_of (var y) f ns e = let (out, is) = variable_of_lem y (apply f ns) e (λ p q. zero_one cc) in zero_one cc
    app_of (app g ts) f ns e = (ts, cc, cc)
    app_of (bind q y t) f ns e = zero_one cc
    app_of (let_in ys ts u) f ns e = zero_one cc

    bind_of : (t : Term) (q : Binder) (s : ℕ) (n : Marked Place) → names t ≡ over q s n
        → (y : ℕ) × (u : Term) × (t ≡ bind q y u) × (nameless b (y ∷ around) (replaced var (y ∷ around) u) ≡ n)
    unfolding nameless replaced
    bind_of (var y) q s n e = let (out, is) = variable_of_lem y (over q s n) e (λ p h. zero_one cc) in zero_one cc
    bind_of (app g ts) q s n e = zero_one cc
    bind_of (bind o y u) q s n e = (y, u, cc, cc)
    bind_of (let_in ys ts u) q s n e = zero_one cc

    one_of : (ts : Terms) (n : Marked Place) → nameless_all b around (replaced_all var around ts) ≡ next n end → (t : Term) × (ts ≡ more t none) × (names t ≡ n)
    unfolding nameless replaced
    one_of none n e = zero_one cc
    one_of (more t none) n e = (t, refl, cc)
    one_of (more t (more u us)) n e = zero_one cc

  pub narrower : RenamedFirst b by_constant left_side right_side → ⊥
  unfolding nameless replaced plain has
  narrower (k, same, apart, is) =
      let (y, t, k-is, t-names) = bind_of [] k forAll (sort_of_variable b 2) (apply 33 (next (whole (var 1)) end)) (sym same) in
      let (ts, t-is, ts-names) = app_of (y ∷ []) t 33 (next (whole (var 1)) end) t-names in
      let (u, ts-is, u-names) = one_of (y ∷ []) ts (whole (var 1)) ts-names in
      let (u-is, out) = free_of (y ∷ []) u 1 u-names in
      let plain_is : bind forAll y (plain (replaced by_constant (y ∷ []) t)) ≡ right_side = ap (λ (m : Term). plain (replaced by_constant [] m)) (sym k-is) ∙ is in
      let y-is : y ≡ 1 = cc in
      let hidden : has 1 (1 ∷ []) ≡ false = subst (λ (z : ℕ). has 1 (z ∷ []) ≡ false) y-is out in
      false≢true (sym hidden)
