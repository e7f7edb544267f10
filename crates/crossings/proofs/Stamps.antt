-- Places of variables among those crossed.
--     stamp_le                     a place is at most the number of variables
--     stamp_none, stamp_some, has_stamp     it is 0 exactly where the variable is none of them
--     has_known, stamp_past        a number that is no variable's is none of variables
--     lefts_length, rights_length  there is one on each side for each binder crossed
--     meets_stamps                 THE LAW: at a variable bound on the left, variables meet exactly where they have the same place
use mathlib.Core.Path.{◌≡◌, refl, sym, ap, ◌∙◌}
use mathlib.Core.Bool.{Bool, true, false, cond, not, ◌&&◌, ◌||◌, false≢true}
use mathlib.Core.List.{List, [], ◌∷◌}
use Prim.Native.Nat.{ℕ, suc, ◌≤◌}
use native.Mathlib.Omega.{arith}
use lib.ListN.{length}
use lib.Dec.{eqb}
use borrow.Author.Tests.{eqb-true, eq-eqb, ne_eqb}
use Rattle.bundle.specs.Lists.{has}
use Rattle.logic.specs.Lists.{All, Number}
use Rattle.logic.specs.ReflWalk.{Crossed, lefts, rights, meets}
use Rattle.crossings.specs.Places.{stamp}

pub stamp_le : (ys : List ℕ) (x : ℕ) → stamp ys x ≤ length ys
unfolding stamp
stamp_le [] x = omega arith
stamp_le (y ∷ ys) x = go (eqb x y) (stamp_le ys x)
  where
    go : (p : Bool) → stamp ys x ≤ length ys → cond p (suc (length ys)) (stamp ys x) ≤ suc (length ys)
    go true h = omega arith
    go false h = omega arith

pub stamp_none : (ys : List ℕ) (x : ℕ) → has x ys ≡ false → stamp ys x ≡ 0
unfolding stamp has
stamp_none [] x e = refl
stamp_none (y ∷ ys) x e = go (eqb x y) e (stamp_none ys x)
  where
    go : (p : Bool) → (p || has x ys) ≡ false → (has x ys ≡ false → stamp ys x ≡ 0) → cond p (suc (length ys)) (stamp ys x) ≡ 0
    go true h ih = absurd (false≢true (sym h))
    go false h ih = ih h

pub stamp_some : (ys : List ℕ) (x : ℕ) → has x ys ≡ true → 1 ≤ stamp ys x
unfolding stamp has
stamp_some [] x e = absurd (false≢true e)
stamp_some (y ∷ ys) x e = go (eqb x y) e (stamp_some ys x)
  where
    go : (p : Bool) → (p || has x ys) ≡ true → (has x ys ≡ true → 1 ≤ stamp ys x) → 1 ≤ cond p (suc (length ys)) (stamp ys x)
    go true h ih = omega arith
    go false h ih = ih h

-- whether a variable is one of them, by its place
pub has_stamp : (ys : List ℕ) (x : ℕ) → has x ys ≡ not (eqb (stamp ys x) 0)
has_stamp ys x = go (has x ys) refl
  where
    go : (p : Bool) → has x ys ≡ p → p ≡ not (eqb (stamp ys x) 0)
    go true h = rw (ne_eqb (stamp ys x) 0 (λ z. let one : 1 ≤ stamp ys x = stamp_some ys x h in omega arith))
    go false h = rw (stamp_none ys x h)

pub has_known : (n : ℕ) (ys : List ℕ) → All (Number n) ys → (x : ℕ) → has x ys ≡ true → (1 ≤ x) × (x ≤ n)
unfolding has
has_known n [] h x e = absurd (false≢true e)
has_known n (y ∷ ys) h x e = go (eqb x y) refl e (has_known n ys h.1 x)
  where
    go : (p : Bool) → eqb x y ≡ p → (p || has x ys) ≡ true → (has x ys ≡ true → (1 ≤ x) × (x ≤ n)) → (1 ≤ x) × (x ≤ n)
    go true q k ih = rw (eqb-true x y q) h.0
    go false q k ih = ih k

pub stamp_past : (n : ℕ) (ys : List ℕ) → All (Number n) ys → (x : ℕ) → ((1 ≤ x) × (x ≤ n) → ⊥) → stamp ys x ≡ 0
stamp_past n ys h x out = go (has x ys) refl
  where
    go : (p : Bool) → has x ys ≡ p → stamp ys x ≡ 0
    go true e = absurd (out (has_known n ys h x e))
    go false e = stamp_none ys x e

pub lefts_length : (ps : Crossed) → length (lefts ps) ≡ length ps
unfolding lefts
lefts_length [] = refl
lefts_length (p ∷ ps) = ap suc (lefts_length ps)

pub rights_length : (ps : Crossed) → length (rights ps) ≡ length ps
unfolding rights
rights_length [] = refl
rights_length (p ∷ ps) = ap suc (rights_length ps)

-- a place is not one more than there are
never_next : (ys : List ℕ) (x n : ℕ) → length ys ≡ n → stamp ys x ≡ suc n → ⊥
never_next ys x n e f = omega (arith, stamp_le ys x)

pub meets_stamps : (ps : Crossed) (x z : ℕ) → has x (lefts ps) ≡ true → meets ps x z ≡ eqb (stamp (lefts ps) x) (stamp (rights ps) z)
unfolding meets lefts rights stamp has
meets_stamps [] x z e = absurd (false≢true e)
meets_stamps (p ∷ ps) x z e = go (eqb x p.0) (eqb z p.1) e (meets_stamps ps x z)
  where
    l : ℕ
    l = length (lefts ps)

    r : ℕ
    r = length (rights ps)

    same : r ≡ l
    same = rights_length ps ∙ sym (lefts_length ps)

    go : (s t : Bool) → (s || has x (lefts ps)) ≡ true
        → (has x (lefts ps) ≡ true → meets ps x z ≡ eqb (stamp (lefts ps) x) (stamp (rights ps) z))
        → cond s t (not t && meets ps x z) ≡ eqb (cond s (suc l) (stamp (lefts ps) x)) (cond t (suc r) (stamp (rights ps) z))
    go true true h ih = sym (eq-eqb (suc l) (suc r) (ap suc (sym same)))
    go true false h ih = sym (ne_eqb (suc l) (stamp (rights ps) z) (λ q. never_next (rights ps) z l same (sym q)))
    go false true h ih = sym (ne_eqb (stamp (lefts ps) x) (suc r) (λ q. never_next (lefts ps) x r (sym same) q))
    go false false h ih = ih h
