-- Laws of what the area holds of the open brackets.
--     level_top, level_under        the spots held by their levels
--     window_push, window_again     an opening bracket; where the area is full
--     window_pop, window_below      a closing bracket; where nothing is held in the area
--     window_found                  levels that are found again
use Prim.Native.Nat.{ℕ, ◌+◌, ◌-◌, ◌≤◌, ◌<◌}
use native.Mathlib.Omega.{arith}
use native.Mathlib.Decide.{ℕ_discrete}
use mathlib.Core.Path.{◌≡◌, refl, sym, ap, ◌∙◌}
use mathlib.Core.Bool.{Bool, true, false, cond}
use mathlib.Core.List.{List, [], ◌∷◌}
use lib.ListN.{length, get_or, set, length-set}
use lib.Seq.{get_or-set_same, get_or-set_other}
use lib.Dec.{ltb}
use borrow.Author.Tests.{lt-ltb, le-ltb, eq-eqb, ne_eqb}
use Rattle.bundle.specs.Lists.{each}
use Rattle.spots.specs.Spots.{Nested, behind, alike}
use Rattle.spots.specs.Levels.{level, Window, place, pushed, stored_at}
use Rattle.spots.specs.declared.Place.{Place}
use Rattle.spots.proofs.TableFacts.{plain, nested_plain, plain_same}

pub level_top : (u : ℕ) (held : List ℕ) (j : ℕ) → j ≡ length held → level (u ∷ held) j ≡ u
unfolding level
level_top u held j e = rw (eq-eqb j (length held) e)

pub level_under : (u : ℕ) (held : List ℕ) (j : ℕ) → j < length held → level (u ∷ held) j ≡ level held j
unfolding level
level_under u held j l = rw (ne_eqb j (length held) (λ e. omega arith))

pub window_start : (a : List ℕ) → Window a 0 0 []
window_start a = record { depth = refl; fits = omega arith; stored = λ j l. absurd (omega (arith, l)) }

module _ (a : List ℕ) (h b : ℕ) (held : List ℕ) (w : Window a h b held) (v : ℕ) where
  window_push : h < length a → Window (set a h v) (h + 1) b (v ∷ held)
  window_push l = record {
    depth = omega (arith, w.depth);
    fits = let n = length-set a h v in omega (arith, n);
    stored = λ j k. go j k (ℕ_discrete j h);
  }
    where
      go : (j : ℕ) → j < h + 1 → Dec (j ≡ h) → get_or (set a h v) j 0 ≡ level (v ∷ held) (b + j)
      go j k (yes e) = rw e (get_or-set_same a h v 0 l ∙ sym (level_top v held (b + h) (omega (arith, w.depth))))
      go j k (no e) =
          get_or-set_other a h j v 0 e ∙ w.stored j (omega arith) ∙ sym (level_under v held (b + j) (omega (arith, w.depth)))

  window_again : length a ≤ h → 0 < length a → Window (set a 0 v) 1 (b + h) (v ∷ held)
  window_again l k = record {
    depth = omega (arith, w.depth);
    fits = let n = length-set a 0 v in omega (arith, n);
    stored = λ j i. go j i;
  }
    where
      go : (j : ℕ) → j < 1 → get_or (set a 0 v) j 0 ≡ level (v ∷ held) (b + h + j)
      go j i =
          let z : j ≡ 0 = omega arith in
          rw z (get_or-set_same a 0 v 0 k ∙ sym (level_top v held (b + h + 0) (omega (arith, w.depth))))

-- an opening bracket
pub window_pushed : (a : List ℕ) (p : Place) (held : List ℕ) (s v : ℕ) → Window a p.height p.base held → 0 < length a
    → Window (set a (stored_at (length a) p.height) v) (pushed (length a) p s).height (pushed (length a) p s).base (v ∷ held)
unfolding pushed stored_at
window_pushed a p held s v w k = go (ltb p.height (length a)) refl
  where
    go : (t : Bool) → ltb p.height (length a) ≡ t
        → Window (set a (cond t p.height 0) v) (cond t (place s (p.height + 1) p.base) (place s 1 (p.base + p.height))).height
        (cond t (place s (p.height + 1) p.base) (place s 1 (p.base + p.height))).base (v ∷ held)
    go true e = window_push a p.height p.base held w v (borrow.Author.Tests.ltb-true p.height (length a) e)
    go false e = window_again a p.height p.base held w v (borrow.Author.Tests.ltb-false p.height (length a) e) k

pub pushed_spot : (n : ℕ) (p : Place) (s : ℕ) → (pushed n p s).spot ≡ s
unfolding pushed
pushed_spot n p s = go (ltb p.height n)
  where
    go : (t : Bool) → (cond t (place s (p.height + 1) p.base) (place s 1 (p.base + p.height))).spot ≡ s
    go true = refl
    go false = refl

-- as `levels::push` returns
module _ (a : List ℕ) (p : Place) (s v m : ℕ) (e : v ≡ m) where
  pub pushes_in : p.height < length a
      → (place s (p.height + 1) p.base ≡ pushed (length a) p s) × (set a p.height v ≡ set a (stored_at (length a) p.height) m)
  unfolding pushed stored_at
  pushes_in l = let t = lt-ltb p.height (length a) l in (rw t, rw t (ap (set a p.height) e))

  pub pushes_again : length a ≤ p.height
      → (place s 1 (p.base + p.height) ≡ pushed (length a) p s) × (set a 0 v ≡ set a (stored_at (length a) p.height) m)
  unfolding pushed stored_at
  pushes_again l = let t = le-ltb p.height (length a) l in (rw t, rw t (ap (set a 0) e))

-- ---- closing brackets

pub window_pop : (a : List ℕ) (h b u : ℕ) (held : List ℕ) → Window a h b (u ∷ held) → (h ≡ 0 → ⊥) → (get_or a (h - 1) 0 ≡ u) × Window a (h - 1) b held
window_pop a h b u held w n = (
  w.stored (h - 1) (omega arith) ∙ level_top u held (b + (h - 1)) (omega (arith, w.depth)),
  record {
    depth = omega (arith, w.depth);
    fits = omega (arith, w.fits);
    stored = λ j l. w.stored j (omega arith) ∙ level_under u held (b + j) (omega (arith, w.depth));
  },
)

pub window_below : (a : List ℕ) (h b u : ℕ) (held : List ℕ) → Window a h b (u ∷ held) → h ≡ 0 → Window a 0 (b - 1) held
window_below a h b u held w z = record { depth = omega (arith, w.depth); fits = omega arith; stored = λ j l. absurd (omega (arith, l)) }

-- ---- levels that are found again

pub window_found : (a : List ℕ) (low top s : ℕ) (held : List ℕ) → Nested s held → each plain (behind s) ≡ true → length held ≡ top → low ≤ top
    → top - low ≤ length a → ((j : ℕ) → low ≤ j → j < top → alike (level held j) (get_or a (j - low) 0) ≡ true) → Window a (top - low) low held
window_found a low top s held n p d l f h = record {
  depth = omega (arith, d);
  fits = f;
  stored = λ j k. found j k;
}
  where
    found : (j : ℕ) → j < top - low → get_or a j 0 ≡ level held (low + j)
    found j k =
        let e : low + j - low ≡ j = omega arith in
        let q : alike (level held (low + j)) (get_or a j 0) ≡ true = rw e at (h (low + j) (omega arith) (omega arith)) in
        sym (plain_same (level held (low + j)) (get_or a j 0) (nested_plain s held n p (low + j) (omega (arith, d))) q)
