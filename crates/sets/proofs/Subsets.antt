-- Subsets: a set whose words have no bits but those of another's.
--     subset_member, member_subset     a set is a subset exactly if each of its members is a member of the other
--     subset_on                        one word more
--     either_first, either_second, either_inside     a word has the bits of two words together exactly if it has those of each
--     subset_part                      sets in parts of words
--     both_on, both_at                 two sets at once: one word more; a word that fails
use mathlib.Core.Path.{◌≡◌, refl, sym, ap, ◌∙◌}
use mathlib.Core.Bool.{Bool, true, false, cond, ◌&&◌, ◌||◌, false≢true}
use mathlib.Core.List.{List}
use Prim.Native.Nat.{ℕ, zero, suc, ◌+◌, ◌-◌, ◌*◌, ◌/◌, ◌%◌, ◌^◌, ◌≤◌, ◌<◌}
use native.Mathlib.Numerals.{add-one}
use native.Mathlib.Omega.{arith}
use native.Mathlib.Decide.{ℕ_discrete}
use lib.ListN.{get_or}
use lib.Dec.{eqb}
use lib.Bits.{bit_and, bit_or, and_le_l, or_lt}
use borrow.Author.Tests.{eqb-true, eq-eqb}
use Rattle.sets.specs.Sets.{bit_at, holds, member, subset_of}
use Rattle.sets.proofs.Digits.{bit_or_lem, bit_and_lem, bits_same}
use Rattle.sets.proofs.Members.{held, member_bit}

-- ---- one word

-- x has no bits but those of y
abbrev Inside : ℕ → ℕ → Type 0
Inside x y = bit_and x y ≡ x

inside_bit : (x y : ℕ) → Inside x y → (j : ℕ) → bit_at x j ≡ true → bit_at y j ≡ true
inside_bit x y e j h = go (bit_at x j) (bit_at y j) (sym (bit_and_lem x y j) ∙ ap (λ (z : ℕ). bit_at z j) e ∙ h)
  where
    go : (p q : Bool) → (p && q) ≡ true → q ≡ true
    go true q d = d
    go false q d = absurd (false≢true d)

bit_inside : (x y : ℕ) → x < 2 ^ 64 → ((j : ℕ) → j < 64 → bit_at x j ≡ true → bit_at y j ≡ true) → Inside x y
bit_inside x y small f =
    bits_same 64 (bit_and x y) x (let l : bit_and x y ≤ x = and_le_l x y in omega (arith, small)) small
    (λ j l. bit_and_lem x y j ∙ go (bit_at x j) (bit_at y j) (f j l))
  where
    go : (p q : Bool) → (p ≡ true → q ≡ true) → (p && q) ≡ p
    go true q h = h refl
    go false q h = refl

module _ (x y z : ℕ) (first : x < 2 ^ 64) (second : y < 2 ^ 64) where
  pub either_first : Inside (bit_or x y) z → Inside x z
  either_first e = bit_inside x z first (λ j l h. inside_bit (bit_or x y) z e j (bit_or_lem x y j ∙ ap (λ (p : Bool). p || bit_at y j) h))

  pub either_second : Inside (bit_or x y) z → Inside y z
  either_second e = bit_inside y z second (λ j l h. inside_bit (bit_or x y) z e j (bit_or_lem x y j ∙ go (bit_at x j) (bit_at y j) h))
    where
      go : (p q : Bool) → q ≡ true → (p || q) ≡ true
      go true q h = refl
      go false q h = h

  pub either_inside : Inside x z → Inside y z → Inside (bit_or x y) z
  either_inside d e = bit_inside (bit_or x y) z (or_lt 64 x y first second) (λ j l h. go j (bit_at x j) refl (sym (bit_or_lem x y j) ∙ h))
    where
      go : (j : ℕ) (p : Bool) → bit_at x j ≡ p → (p || bit_at y j) ≡ true → bit_at z j ≡ true
      go j true f h = inside_bit x z d j f
      go j false f h = inside_bit y z e j h

-- ---- sets

module _ (w : List ℕ) (first : ℕ) (v : List ℕ) (second : ℕ) where
  -- words k
  abbrev here : ℕ → Type 0
  here k = Inside (get_or w (first + k) 0) (get_or v (second + k) 0)

  -- one word more
  pub subset_on : (k : ℕ) → subset_of w first v second k ≡ true → here k → subset_of w first v second (k + 1) ≡ true
  unfolding subset_of
  subset_on k e h = rw (add-one k, eq-eqb (bit_and (get_or w (first + k) 0) (get_or v (second + k) 0)) (get_or w (first + k) 0) h, e)

  subset_word : (n k : ℕ) → subset_of w first v second n ≡ true → k < n → here k
  unfolding subset_of
  subset_word zero k e h = absurd (omega arith)
  subset_word (suc m) k e h = go (eqb (bit_and (get_or w (first + m) 0) (get_or v (second + m) 0)) (get_or w (first + m) 0)) refl e (ℕ_discrete k m) (λ r. subset_word m k r)
    where
      go : (p : Bool) → eqb (bit_and (get_or w (first + m) 0) (get_or v (second + m) 0)) (get_or w (first + m) 0) ≡ p → (p && subset_of w first v second m) ≡ true
          → Dec (k ≡ m) → (subset_of w first v second m ≡ true → k < m → here k) → here k
      go true d r (yes q) ih = rw q (eqb-true (bit_and (get_or w (first + m) 0) (get_or v (second + m) 0)) (get_or w (first + m) 0) d)
      go true d r (no ne) ih = ih r (omega arith)
      go false d r q ih = absurd (false≢true r)

  word_subset : (n : ℕ) → ((k : ℕ) → k < n → here k) → subset_of w first v second n ≡ true
  unfolding subset_of
  word_subset zero h = refl
  word_subset (suc m) h =
      rw (eq-eqb (bit_and (get_or w (first + m) 0) (get_or v (second + m) 0)) (get_or w (first + m) 0) (h m (omega arith)))
      (word_subset m (λ k l. h k (omega arith)))

  pub subset_member : (n : ℕ) → subset_of w first v second n ≡ true → (u : ℕ) → member w first n u ≡ true → member v second n u ≡ true
  unfolding member
  subset_member n e u = go (holds n u) refl
    where
      go : (p : Bool) → holds n u ≡ p → cond p (bit_at (get_or w (first + (u - 1) / 64) 0) ((u - 1) % 64)) false ≡ true
          → cond p (bit_at (get_or v (second + (u - 1) / 64) 0) ((u - 1) % 64)) false ≡ true
      go true d h =
          inside_bit (get_or w (first + (u - 1) / 64) 0) (get_or v (second + (u - 1) / 64) 0) (subset_word n ((u - 1) / 64) e (held n u d).1) ((u - 1) % 64) h
      go false d h = absurd (false≢true h)

  -- words are below 2 ^ 64: a higher bit is no member's
  pub member_subset : (n : ℕ) → ((k : ℕ) → get_or w (first + k) 0 < 2 ^ 64) → ((u : ℕ) → member w first n u ≡ true → member v second n u ≡ true)
      → subset_of w first v second n ≡ true
  member_subset n words all =
      word_subset n (λ k h. bit_inside (get_or w (first + k) 0) (get_or v (second + k) 0) (words k)
      (λ j l e. sym (member_bit v second n k j h l) ∙ all (64 * k + 1 + j) (member_bit w first n k j h l ∙ e)))

-- sets in parts of words
pub subset_part : (w x : List ℕ) (at first : ℕ) (v y : List ℕ) (from second : ℕ) (n : ℕ) → ((k : ℕ) → k < n → get_or x (at + k) 0 ≡ get_or w (first + k) 0)
    → ((k : ℕ) → k < n → get_or y (from + k) 0 ≡ get_or v (second + k) 0) → subset_of x at y from n ≡ subset_of w first v second n
unfolding subset_of
subset_part w x at first v y from second zero f g = refl
subset_part w x at first v y from second (suc m) f g =
    rw (f m (omega arith), g m (omega arith), subset_part w x at first v y from second m (λ k l. f k (omega arith)) (λ k l. g k (omega arith)))

-- two sets of one number of words against a third, a word of both at a time
module _ (v w all : List ℕ) (first : (k : ℕ) → get_or v k 0 < 2 ^ 64) (second : (k : ℕ) → get_or w k 0 < 2 ^ 64) where
  -- words k of both together
  abbrev Joint : ℕ → Type 0
  Joint k = Inside (bit_or (get_or v k 0) (get_or w k 0)) (get_or all k 0)

  pub both_on : (k : ℕ) → subset_of v 0 all 0 k ≡ true → subset_of w 0 all 0 k ≡ true → Joint k
      → (subset_of v 0 all 0 (k + 1) ≡ true) × (subset_of w 0 all 0 (k + 1) ≡ true)
  both_on k d e h =
      let z : 0 + k ≡ k = omega arith in (
        subset_on v 0 all 0 k d (rw z (either_first (get_or v k 0) (get_or w k 0) (get_or all k 0) (first k) (second k) h)),
        subset_on w 0 all 0 k e (rw z (either_second (get_or v k 0) (get_or w k 0) (get_or all k 0) (first k) (second k) h)),
      )

  pub both_at : (n k : ℕ) → k < n → (Joint k → ⊥) → (subset_of v 0 all 0 n && subset_of w 0 all 0 n) ≡ false
  both_at n k l out = go (subset_of v 0 all 0 n) refl (subset_of w 0 all 0 n) refl
    where
      z : 0 + k ≡ k
      z = omega arith

      go : (p : Bool) → subset_of v 0 all 0 n ≡ p → (q : Bool) → subset_of w 0 all 0 n ≡ q → (p && q) ≡ false
      go true d true e =
          absurd (out (either_inside (get_or v k 0) (get_or w k 0) (get_or all k 0) (first k) (second k)
          (rw z at (subset_word v 0 all 0 n k d l)) (rw z at (subset_word w 0 all 0 n k e l))))
      go true d false e = refl
      go false d q e = refl
