-- What the arrays hold of the binders crossed.
--     places_none        zeros, where none is crossed
--     left_at, right_at        a place that was read
--     left_half, right_half    each side's half of the places
--     places_crossed     a binder more
--     places_uncrossed   one less: the places that its variables had before are put back
use mathlib.Core.Path.{◌≡◌, refl, sym, ap, ◌∙◌}
use mathlib.Core.Bool.{Bool, true, false, cond, not, ◌&&◌, ◌||◌}
use mathlib.Core.List.{List, [], ◌∷◌}
use Prim.Native.Nat.{ℕ, suc, ◌+◌, ◌*◌, ◌-◌, ◌/◌, ◌%◌, ◌≤◌}
use native.Mathlib.Omega.{arith}
use native.Mathlib.Numerals.{add-one}
use native.Mathlib.Decide.{ℕ_discrete}
use lib.ListN.{length, get_or, set, take, drop, replicate, length-set, length-drop, length-replicate}
use lib.Seq.{get_or-set_same, get_or-set_other, get_or-take, get_or-drop, length-take-le}
use lib.Dec.{eqb}
use borrow.Author.Tests.{eq-eqb, ne_eqb}
use Rattle.bundle.proofs.LinkNotes.{zeros}
use Rattle.bundle.specs.Lists.{has}
use Rattle.sets.specs.Sets.{bit_at, holds, member, inserted, removed}
use Rattle.sets.proofs.Digits.{bit_none}
use Rattle.sets.proofs.Members.{holds_small, member_inserted, member_removed, changed_length}
use Rattle.logic.specs.ReflWalk.{Crossed, lefts, rights}
use Rattle.crossings.specs.Places.{stamp, Half, Places}
use Rattle.crossings.proofs.Stamps.{has_stamp, lefts_length, rights_length}

-- ---- nothing crossed

pub places_none : (variables n k l : ℕ) → variables + variables ≤ k → n ≤ l → Places variables n (replicate k 0) (replicate l 0) []
unfolding lefts rights stamp has member
places_none variables n k l long words = record {
  long = rw length-replicate long;
  words = rw length-replicate words;
  left = λ x one few. (zeros k).zero (x - 1);
  right = λ y one few. (zeros k).zero (variables + (y - 1));
  bound = λ y. go y (holds n y);
  lefts_known = tt;
  rights_known = tt;
}
  where
    go : (y : ℕ) (p : Bool) → cond p (bit_at (get_or (replicate l 0) (0 + (y - 1) / 64) 0) ((y - 1) % 64)) false ≡ false
    go y true = ap (λ (z : ℕ). bit_at z ((y - 1) % 64)) ((zeros l).zero (0 + (y - 1) / 64)) ∙ bit_none ((y - 1) % 64)
    go y false = refl

-- ---- a place that was read

module _ (variables n : ℕ) (w m : List ℕ) (ps : Crossed) (known : Places variables n w m ps) where
  pub left_at : (x : ℕ) → 1 ≤ x → x ≤ variables → {t : ℕ} → t ≡ get_or w (x - 1) 0 → t ≡ stamp (lefts ps) x
  left_at x one few e = e ∙ known.left x one few

  pub right_at : (y : ℕ) → 1 ≤ y → y ≤ variables → {t : ℕ} → t ≡ get_or w (variables + (y - 1)) 0 → t ≡ stamp (rights ps) y
  right_at y one few e = e ∙ known.right y one few

  -- each side's half
  pub left_half : Half (take variables w) (lefts ps)
  left_half =
      let all : length (take variables w) ≡ variables = length-take-le variables w (omega (arith, known.long)) in
      record {
        place = λ x one few. get_or-take variables w (x - 1) 0 (omega (arith, one, few, all)) ∙ known.left x one (omega (arith, few, all));
        known = rw all known.lefts_known;
      }

  pub right_half : Half (take (variables + variables - variables) (drop variables w)) (rights ps)
  right_half =
      let m = variables + variables - variables in
      let all : length (take m (drop variables w)) ≡ variables = length-take-le m (drop variables w) (rw length-drop (omega (arith, known.long))) ∙ omega arith in
      record {
        place = λ y one few. get_or-take m (drop variables w) (y - 1) 0 (omega (arith, one, few, all)) ∙ get_or-drop variables w (y - 1) 0
            ∙ known.right y one (omega (arith, few, all));
        known = rw all known.rights_known;
      }

-- ---- places written: s at x on the left, t at y on the right

abbrev placed : ℕ → List ℕ → ℕ → ℕ → ℕ → ℕ → List ℕ
placed variables w x s y t = set (set w (x - 1) s) (variables + (y - 1)) t

placed_length : (variables : ℕ) (w : List ℕ) (x s y t : ℕ) → length (placed variables w x s y t) ≡ length w
placed_length variables w x s y t = length-set (set w (x - 1) s) (variables + (y - 1)) t ∙ length-set w (x - 1) s

module _ (variables n : ℕ) (w m : List ℕ) (x s y t : ℕ) (long : variables + variables ≤ length w)
    (one-x : 1 ≤ x) (few-x : x ≤ variables) (one-y : 1 ≤ y) (few-y : y ≤ variables) where
  placed_left : (z : ℕ) → 1 ≤ z → z ≤ variables → get_or (placed variables w x s y t) (z - 1) 0 ≡ cond (eqb z x) s (get_or w (z - 1) 0)
  placed_left z one few =
      get_or-set_other (set w (x - 1) s) (variables + (y - 1)) (z - 1) t 0 (λ q. omega arith) ∙ go (ℕ_discrete z x)
    where
      go : Dec (z ≡ x) → get_or (set w (x - 1) s) (z - 1) 0 ≡ cond (eqb z x) s (get_or w (z - 1) 0)
      go (yes q) = rw (eq-eqb z x q, q) (get_or-set_same w (x - 1) s 0 (omega arith))
      go (no q) = rw (ne_eqb z x q) (get_or-set_other w (x - 1) (z - 1) s 0 (λ e. q (omega arith)))

  placed_right : (z : ℕ) → 1 ≤ z → z ≤ variables
      → get_or (placed variables w x s y t) (variables + (z - 1)) 0 ≡ cond (eqb z y) t (get_or w (variables + (z - 1)) 0)
  placed_right z one few = go (ℕ_discrete z y)
    where
      go : Dec (z ≡ y) → get_or (placed variables w x s y t) (variables + (z - 1)) 0 ≡ cond (eqb z y) t (get_or w (variables + (z - 1)) 0)
      go (yes q) = rw (eq-eqb z y q, q) (get_or-set_same (set w (x - 1) s) (variables + (y - 1)) t 0 (rw length-set (omega arith)))
      go (no q) =
          rw (ne_eqb z y q)
          (get_or-set_other (set w (x - 1) s) (variables + (y - 1)) (variables + (z - 1)) t 0 (λ e. q (omega arith))
          ∙ get_or-set_other w (x - 1) (variables + (z - 1)) s 0 (λ e. omega arith))

  module _ (words : n ≤ length m) (bits : variables ≤ 64 * n) where
    held : holds n y ≡ true
    held = holds_small n y one-y (omega arith)

    fits : 0 + n ≤ length m
    fits = omega arith

    -- one more: both variables have the next place
    pub places_crossed : (ps : Crossed) → s ≡ length ps + 1 → t ≡ length ps + 1 → {m' : List ℕ} → m' ≡ inserted m 0 n y → Places variables n w m ps
        → Places variables n (placed variables w x s y t) m' ((x, y) ∷ ps)
    unfolding lefts rights stamp has
    places_crossed ps ds dt e known = rw e (record {
      long = rw placed_length long;
      words = rw changed_length words;
      left = λ z one few. placed_left z one few ∙ rw (known.left z one few, ds, add-one, ← lefts_length ps) refl;
      right = λ z one few. placed_right z one few ∙ rw (known.right z one few, dt, add-one, ← rights_length ps) refl;
      bound = λ z. member_inserted m 0 n y fits held z ∙ ap (λ (p : Bool). eqb z y || p) (known.bound z);
      lefts_known = ((one-x, few-x), known.lefts_known);
      rights_known = ((one-y, few-y), known.rights_known);
    })

    -- the set, where y is taken out if it has no place below
    abbrev unbound : ℕ → List ℕ
    unbound right = cond (eqb right 0) (removed m 0 n y) m

    unbound_length : (p : Bool) → n ≤ length (cond p (removed m 0 n y) m)
    unbound_length true = rw changed_length words
    unbound_length false = words

    pub places_uncrossed : (ps : Crossed) → s ≡ stamp (lefts ps) x → t ≡ stamp (rights ps) y → {m' : List ℕ} → m' ≡ unbound t
        → Places variables n w m ((x, y) ∷ ps) → Places variables n (placed variables w x s y t) m' ps
    unfolding lefts rights stamp has
    places_uncrossed ps ds dt e known = rw e (record {
      long = rw placed_length long;
      words = unbound_length (eqb t 0);
      left = λ z one few. placed_left z one few ∙ rw (known.left z one few) (before (lefts ps) x s ds z (ℕ_discrete z x));
      right = λ z one few. placed_right z one few ∙ rw (known.right z one few) (before (rights ps) y t dt z (ℕ_discrete z y));
      bound = λ z. still z (eqb t 0) refl;
      lefts_known = known.lefts_known.1;
      rights_known = known.rights_known.1;
    })
      where
        before : (ys : List ℕ) (x s : ℕ) → s ≡ stamp ys x → (z : ℕ) → Dec (z ≡ x)
            → cond (eqb z x) s (cond (eqb z x) (suc (length ys)) (stamp ys z)) ≡ stamp ys z
        before ys x s d z (yes q) = rw (eq-eqb z x q) (d ∙ ap (stamp ys) (sym q))
        before ys x s d z (no q) = rw (ne_eqb z x q)

        was : (z : ℕ) → member m 0 n z ≡ (eqb z y || has z (rights ps))
        was z = known.bound z

        here : (p : Bool) → eqb t 0 ≡ p → has y (rights ps) ≡ not p
        here p d = has_stamp (rights ps) y ∙ rw (← dt) (ap not d)

        still : (z : ℕ) (p : Bool) → eqb t 0 ≡ p → member (cond p (removed m 0 n y) m) 0 n z ≡ has z (rights ps)
        still z true d = member_removed m 0 n y fits held z ∙ rw (was z) (go (ℕ_discrete z y))
          where
            go : Dec (z ≡ y) → (not (eqb z y) && (eqb z y || has z (rights ps))) ≡ has z (rights ps)
            go (yes q) = rw (eq-eqb z y q) (sym (here true d) ∙ ap (λ (u : ℕ). has u (rights ps)) (sym q))
            go (no q) = rw (ne_eqb z y q)
        still z false d = was z ∙ go (ℕ_discrete z y)
          where
            go : Dec (z ≡ y) → (eqb z y || has z (rights ps)) ≡ has z (rights ps)
            go (yes q) = rw (eq-eqb z y q) (sym (here false d) ∙ ap (λ (u : ℕ). has u (rights ps)) (sym q))
            go (no q) = rw (ne_eqb z y q)
