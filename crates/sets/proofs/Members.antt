-- THE LAWS OF SETS, for any number of words a set.
--     member_inserted     u is in the set with v inserted: it is v, or was in it
--     member_removed      u is in the set with v removed: it is not v, and was in it
--     member_cleared      nothing is in a cleared set
--     member_united       u is in the union: it is in one or the other
--     member_bit          bit j of word k of the set is number 64 k + 1 + j
--     disjoint_none, none_disjoint     two sets are disjoint exactly if no u is a member of both
--     filled_front        the first word written, then the rest; `filled_same`: words that agree
--     changed_out, filled_out     words outside the set are as they were; `member_moved`, `member_same`: so is membership in another set
use mathlib.Core.Path.{◌≡◌, refl, sym, ap, ◌∙◌}
use mathlib.Core.Logic.{◌⊎◌, inl, inr, ⊎_elim}
use mathlib.Core.List.{List}
use mathlib.Core.Bool.{Bool, true, false, cond, not, ◌&&◌, ◌||◌, and-false, false≢true}
use Prim.Native.Nat.{ℕ, zero, suc, ◌+◌, ◌-◌, ◌*◌, ◌/◌, ◌%◌, ◌^◌, ◌≤◌, ◌<◌}
use native.Mathlib.Numerals.{add-one}
use native.Mathlib.Omega.{arith}
use native.Mathlib.Decide.{ℕ_discrete}
use lib.ListN.{length, get_or, set, length-set}
use lib.Seq.{get_or-set_same, get_or-set_other}
use lib.Dec.{eqb, ltb}
use lib.Bits.{bit_and, bit_or, and_le_l}
use borrow.Author.Tests.{eqb-true, eq-eqb, ne_eqb, ltb-true, lt-ltb, le-ltb}
use Rattle.sets.specs.Sets.{bit_at, with_bit, without_bit, holds, member, changed, inserted, removed, filled, cleared, united, disjoint_of}
use Rattle.sets.proofs.Digits.{bit_or_lem, bit_and_lem, bit_with, bit_without, bit_none, bits_same}

-- what it means to have a bit
pub held : (n v : ℕ) → holds n v ≡ true → (0 < v) × ((v - 1) / 64 < n)
unfolding holds
held n v = go (ltb 0 v) refl (ltb ((v - 1) / 64) n) refl
  where
    go : (p : Bool) → ltb 0 v ≡ p → (q : Bool) → ltb ((v - 1) / 64) n ≡ q → (p && q) ≡ true → (0 < v) × ((v - 1) / 64 < n)
    go true d true e h = (ltb-true 0 v d, ltb-true ((v - 1) / 64) n e)
    go true d false e h = absurd (false≢true h)
    go false d q e h = absurd (false≢true h)

-- the other way: a number of at most 64 n has a bit
pub holds_small : (n v : ℕ) → 0 < v → v ≤ 64 * n → holds n v ≡ true
unfolding holds
holds_small n v p h = rw (lt-ltb 0 v p, lt-ltb ((v - 1) / 64) n (omega arith))

pub holds_zero : (n v : ℕ) → v ≡ 0 → holds n v ≡ false
unfolding holds
holds_zero n v e = rw e

pub holds_high : (n v : ℕ) → n ≤ (v - 1) / 64 → holds n v ≡ false
unfolding holds
holds_high n v h = rw (le-ltb ((v - 1) / 64) n h) (and-false (ltb 0 v))

pub holds_word : (n v : ℕ) → (v ≡ 0 → ⊥) → (v - 1) / 64 < n → holds n v ≡ true
unfolding holds
holds_word n v ne h = rw (lt-ltb 0 v (omega arith), lt-ltb ((v - 1) / 64) n h)

-- ---- one bit changed by g, which is h on bits

module _ (g : ℕ → ℕ → ℕ) (h : Bool → Bool → Bool) (bit : (x k j : ℕ) → bit_at (g x k) j ≡ h (eqb j k) (bit_at x j)) (keep : (q : Bool) → h false q ≡ q)
    (w : List ℕ) (at n v : ℕ) (fits : at + n ≤ length w) (has : holds n v ≡ true) where
  -- the word, where the changed bit is in it and where it is not
  word_changed : (u : ℕ) → 0 < u → (u - 1) / 64 < n
      → bit_at (get_or (changed g w at n v) (at + (u - 1) / 64) 0) ((u - 1) % 64) ≡ h (eqb u v) (bit_at (get_or w (at + (u - 1) / 64) 0) ((u - 1) % 64))
  unfolding changed
  word_changed u pos small = rw has (go (ℕ_discrete ((u - 1) / 64) ((v - 1) / 64)) (held n v has))
    where
      x : ℕ
      x = get_or w (at + (v - 1) / 64) 0

      bits : Dec (u ≡ v) → (u - 1) / 64 ≡ (v - 1) / 64 → 0 < v → eqb ((u - 1) % 64) ((v - 1) % 64) ≡ eqb u v
      bits (yes e) d p = eq-eqb ((u - 1) % 64) ((v - 1) % 64) (ap (λ (y : ℕ). (y - 1) % 64) e) ∙ sym (eq-eqb u v e)
      bits (no ne) d p = ne_eqb ((u - 1) % 64) ((v - 1) % 64) (λ z. ne (omega arith)) ∙ sym (ne_eqb u v ne)

      go : Dec ((u - 1) / 64 ≡ (v - 1) / 64) → (0 < v) × ((v - 1) / 64 < n)
          → bit_at (get_or (set w (at + (v - 1) / 64) (g x ((v - 1) % 64))) (at + (u - 1) / 64) 0) ((u - 1) % 64) ≡ h (eqb u v)
          (bit_at (get_or w (at + (u - 1) / 64) 0) ((u - 1) % 64))
      go (yes e) p =
          let same : eqb ((u - 1) % 64) ((v - 1) % 64) ≡ eqb u v = bits (ℕ_discrete u v) e p.0 in
          rw (e, get_or-set_same w (at + (v - 1) / 64) (g x ((v - 1) % 64)) 0 (omega arith), ← same) (bit x ((v - 1) % 64) ((u - 1) % 64))
      go (no ne) p =
          let other : eqb u v ≡ false = ne_eqb u v (λ e. ne (ap (λ (y : ℕ). (y - 1) / 64) e)) in
          rw (get_or-set_other w (at + (v - 1) / 64) (at + (u - 1) / 64) (g x ((v - 1) % 64)) 0 (λ z. ne (omega arith)), other)
          (sym (keep (bit_at (get_or w (at + (u - 1) / 64) 0) ((u - 1) % 64))))

  pub member_changed : (u : ℕ) → member (changed g w at n v) at n u ≡ h (eqb u v) (member w at n u)
  unfolding member
  member_changed u = go (holds n u) refl
    where
      go : (p : Bool) → holds n u ≡ p
          → cond p (bit_at (get_or (changed g w at n v) (at + (u - 1) / 64) 0) ((u - 1) % 64)) false ≡ h (eqb u v)
          (cond p (bit_at (get_or w (at + (u - 1) / 64) 0) ((u - 1) % 64)) false)
      go true e = word_changed u (held n u e).0 (held n u e).1
      go false e =
          let other : eqb u v ≡ false = ne_eqb u v (λ q. false≢true (sym e ∙ ap (holds n) q ∙ has)) in
          rw other (sym (keep false))

pub member_inserted : (w : List ℕ) (at n v : ℕ) → at + n ≤ length w → holds n v ≡ true → (u : ℕ)
    → member (inserted w at n v) at n u ≡ (eqb u v || member w at n u)
member_inserted w at n v fits has u = member_changed with_bit ◌||◌ bit_with (λ q. refl) w at n v fits has u

abbrev but : Bool → Bool → Bool
but p q = not p && q

pub member_removed : (w : List ℕ) (at n v : ℕ) → at + n ≤ length w → holds n v ≡ true → (u : ℕ)
    → member (removed w at n v) at n u ≡ (not (eqb u v) && member w at n u)
member_removed w at n v fits has u = member_changed without_bit but bit_without (λ q. refl) w at n v fits has u

-- ---- words outside, and other sets

pub changed_length : (g : ℕ → ℕ → ℕ) (w : List ℕ) (at n v : ℕ) → length (changed g w at n v) ≡ length w
unfolding changed
changed_length g w at n v = go (holds n v)
  where
    go : (p : Bool) → length (cond p (set w (at + (v - 1) / 64) (g (get_or w (at + (v - 1) / 64) 0) ((v - 1) % 64))) w) ≡ length w
    go true = length-set w (at + (v - 1) / 64) (g (get_or w (at + (v - 1) / 64) 0) ((v - 1) % 64))
    go false = refl

pub changed_out : (g : ℕ → ℕ → ℕ) (w : List ℕ) (at n v j : ℕ) → (j < at) ⊎ (at + n ≤ j) → get_or (changed g w at n v) j 0 ≡ get_or w j 0
unfolding changed
changed_out g w at n v j out = go (holds n v) refl
  where
    go : (p : Bool) → holds n v ≡ p → get_or (cond p (set w (at + (v - 1) / 64) (g (get_or w (at + (v - 1) / 64) 0) ((v - 1) % 64))) w) j 0 ≡ get_or w j 0
    go true e =
        let small : (v - 1) / 64 < n = (held n v e).1 in
        get_or-set_other w (at + (v - 1) / 64) j (g (get_or w (at + (v - 1) / 64) 0) ((v - 1) % 64)) 0
        (⊎_elim (λ l. omega arith) (λ l. omega arith) out)
    go false e = refl

-- membership goes by the words of the set alone, wherever they stand
pub member_moved : (w x : List ℕ) (at from n : ℕ) → ((k : ℕ) → k < n → get_or w (at + k) 0 ≡ get_or x (from + k) 0) → (u : ℕ)
    → member w at n u ≡ member x from n u
unfolding member
member_moved w x at from n same u = go (holds n u) refl
  where
    go : (p : Bool) → holds n u ≡ p
        → cond p (bit_at (get_or w (at + (u - 1) / 64) 0) ((u - 1) % 64)) false ≡ cond p (bit_at (get_or x (from + (u - 1) / 64) 0) ((u - 1) % 64)) false
    go true e = ap (λ (y : ℕ). bit_at y ((u - 1) % 64)) (same ((u - 1) / 64) (held n u e).1)
    go false e = refl

pub member_same : (w x : List ℕ) (at n : ℕ) → ((k : ℕ) → k < n → get_or w (at + k) 0 ≡ get_or x (at + k) 0) → (u : ℕ) → member w at n u ≡ member x at n u
member_same w x at n = member_moved w x at at n

-- ---- whole sets written

module _ (g : ℕ → ℕ) (w : List ℕ) (at : ℕ) where
  pub filled_length : (n : ℕ) → length (filled g w at n) ≡ length w
  unfolding filled
  filled_length zero = refl
  filled_length (suc k) = length-set (filled g w at k) (at + k) (g k) ∙ filled_length k

  -- one word more: what a turn of a loop does
  pub filled_more : (k x : ℕ) (v : List ℕ) → v ≡ filled g w at k → x ≡ g k → set v (at + k) x ≡ filled g w at (k + 1)
  unfolding filled
  filled_more k x v e h = rw (add-one k, e, h)

  pub filled_out : (n j : ℕ) → (j < at) ⊎ (at + n ≤ j) → get_or (filled g w at n) j 0 ≡ get_or w j 0
  unfolding filled
  filled_out zero j out = refl
  filled_out (suc k) j out =
      get_or-set_other (filled g w at k) (at + k) j (g k) 0 (⊎_elim (λ l. omega arith) (λ l. omega arith) out)
      ∙ filled_out k j (⊎_elim (λ l. inl l) (λ l. inr (omega arith)) out)

  pub filled_in : (n k : ℕ) → at + n ≤ length w → k < n → get_or (filled g w at n) (at + k) 0 ≡ g k
  unfolding filled
  filled_in zero k fits h = absurd (omega arith)
  filled_in (suc m) k fits h = go (ℕ_discrete k m) (filled_in m k)
    where
      go : Dec (k ≡ m) → (at + m ≤ length w → k < m → get_or (filled g w at m) (at + k) 0 ≡ g k) → get_or (set (filled g w at m) (at + m) (g m)) (at + k) 0 ≡ g k
      go (yes e) ih = rw e (get_or-set_same (filled g w at m) (at + m) (g m) 0 (rw filled_length (omega arith)))
      go (no ne) ih =
          get_or-set_other (filled g w at m) (at + m) (at + k) (g m) 0 (λ z. ne (omega arith)) ∙ ih (omega arith) (omega arith)

-- the same words may come from any g that agrees; and the first word may be written before the rest
pub filled_same : (g h : ℕ → ℕ) (w : List ℕ) (at n : ℕ) → ((k : ℕ) → k < n → g k ≡ h k) → filled g w at n ≡ filled h w at n
unfolding filled
filled_same g h w at zero same = refl
filled_same g h w at (suc n) same = rw (filled_same g h w at n (λ k l. same k (omega arith)), same n (omega arith))

filled_first : (g : ℕ → ℕ) (w : List ℕ) (at n : ℕ) → filled (λ k. g (suc k)) (set w at (g 0)) (at + 1) n ≡ filled g w at (suc n)
unfolding filled
filled_first g w at zero = let here : at + 0 ≡ at = omega arith in rw here
filled_first g w at (suc n) = let here : at + 1 + n ≡ at + suc n = omega arith in rw (filled_first g w at n, here)

-- n words, of which there is one
pub filled_front : (g : ℕ → ℕ) (w : List ℕ) (at n : ℕ) → (n ≡ 0 → ⊥) → filled (λ k. g (suc k)) (set w at (g 0)) (at + 1) (n - 1) ≡ filled g w at n
filled_front g w at n some = let one : suc (n - 1) ≡ n = omega arith in rw one at (filled_first g w at (n - 1))

pub member_cleared : (w : List ℕ) (at n : ℕ) → at + n ≤ length w → (u : ℕ) → member (cleared w at n) at n u ≡ false
unfolding member
member_cleared w at n fits u = go (holds n u) refl
  where
    go : (p : Bool) → holds n u ≡ p → cond p (bit_at (get_or (filled (λ k. 0) w at n) (at + (u - 1) / 64) 0) ((u - 1) % 64)) false ≡ false
    go true e =
        let z : get_or (filled (λ k. 0) w at n) (at + (u - 1) / 64) 0 ≡ 0 = filled_in (λ k. 0) w at n ((u - 1) / 64) fits (held n u e).1 in
        rw z (bit_none ((u - 1) % 64))
    go false e = refl

pub member_united : (w : List ℕ) (to from n : ℕ) → to + n ≤ length w → (u : ℕ) → member (united w to from n) to n u ≡ (member w to n u || member w from n u)
unfolding member
member_united w to from n fits u = go (holds n u) refl
  where
    g : ℕ → ℕ
    g k = bit_or (get_or w (to + k) 0) (get_or w (from + k) 0)

    go : (p : Bool) → holds n u ≡ p
        → cond p (bit_at (get_or (filled g w to n) (to + (u - 1) / 64) 0) ((u - 1) % 64)) false
        ≡ (cond p (bit_at (get_or w (to + (u - 1) / 64) 0) ((u - 1) % 64)) false || cond p (bit_at (get_or w (from + (u - 1) / 64) 0) ((u - 1) % 64)) false)
    go true e =
        let z : get_or (filled g w to n) (to + (u - 1) / 64) 0 ≡ g ((u - 1) / 64) = filled_in g w to n ((u - 1) / 64) fits (held n u e).1 in
        rw z (bit_or_lem (get_or w (to + (u - 1) / 64) 0) (get_or w (from + (u - 1) / 64) 0) ((u - 1) % 64))
    go false e = refl

-- ---- disjoint sets

-- bit j of word k of the set is number 64 * k + 1 + j
pub member_bit : (w : List ℕ) (at n k j : ℕ) → k < n → j < 64 → member w at n (64 * k + 1 + j) ≡ bit_at (get_or w (at + k) 0) j
unfolding member
member_bit w at n k j small low =
    let word : (64 * k + 1 + j - 1) / 64 ≡ k = omega arith in
    let bit : (64 * k + 1 + j - 1) % 64 ≡ j = omega arith in
    let has : holds n (64 * k + 1 + j) ≡ true = holds_word n (64 * k + 1 + j) (λ z. omega arith) (omega arith) in
    rw (has, word, bit)

module _ (w : List ℕ) (first : ℕ) (v : List ℕ) (second : ℕ) where
  -- the bits that words k have in common
  abbrev common : ℕ → ℕ
  common k = bit_and (get_or w (first + k) 0) (get_or v (second + k) 0)

  -- one word more
  pub disjoint_on : (k : ℕ) → disjoint_of w first v second k ≡ true → common k ≡ 0 → disjoint_of w first v second (k + 1) ≡ true
  unfolding disjoint_of
  disjoint_on k e z = rw (add-one k, z, e)

  disjoint_word : (n k : ℕ) → disjoint_of w first v second n ≡ true → k < n → common k ≡ 0
  unfolding disjoint_of
  disjoint_word zero k e h = absurd (omega arith)
  disjoint_word (suc m) k e h = go (eqb (common m) 0) refl e (ℕ_discrete k m) (λ r. disjoint_word m k r)
    where
      go : (p : Bool) → eqb (common m) 0 ≡ p → (p && disjoint_of w first v second m) ≡ true → Dec (k ≡ m)
          → (disjoint_of w first v second m ≡ true → k < m → common k ≡ 0) → common k ≡ 0
      go true d r (yes q) ih = rw q (eqb-true (common m) 0 d)
      go true d r (no ne) ih = ih r (omega arith)
      go false d r q ih = absurd (false≢true r)

  -- words that have a bit in common
  pub disjoint_at : (n k : ℕ) → k < n → (common k ≡ 0 → ⊥) → disjoint_of w first v second n ≡ false
  disjoint_at n k l some = go (disjoint_of w first v second n) refl
    where
      go : (p : Bool) → disjoint_of w first v second n ≡ p → p ≡ false
      go true e = absurd (some (disjoint_word n k e l))
      go false e = refl

  word_disjoint : (n : ℕ) → ((k : ℕ) → k < n → common k ≡ 0) → disjoint_of w first v second n ≡ true
  unfolding disjoint_of
  word_disjoint zero h = refl
  word_disjoint (suc m) h = rw (h m (omega arith)) (word_disjoint m (λ k l. h k (omega arith)))

  pub disjoint_none : (n : ℕ) → disjoint_of w first v second n ≡ true → (u : ℕ) → (member w first n u && member v second n u) ≡ false
  unfolding member
  disjoint_none n e u = go (holds n u) refl
    where
      x : ℕ
      x = get_or w (first + (u - 1) / 64) 0

      y : ℕ
      y = get_or v (second + (u - 1) / 64) 0

      go : (p : Bool) → holds n u ≡ p → (cond p (bit_at x ((u - 1) % 64)) false && cond p (bit_at y ((u - 1) % 64)) false) ≡ false
      go true d =
          sym (bit_and_lem x y ((u - 1) % 64))
          ∙ ap (λ (z : ℕ). bit_at z ((u - 1) % 64)) (disjoint_word n ((u - 1) / 64) e (held n u d).1)
          ∙ bit_none ((u - 1) % 64)
      go false d = refl

  -- words are below 2 ^ 64: a higher bit is no member's
  pub none_disjoint : (n : ℕ) → ((k : ℕ) → get_or w (first + k) 0 < 2 ^ 64) → ((u : ℕ) → (member w first n u && member v second n u) ≡ false)
      → disjoint_of w first v second n ≡ true
  none_disjoint n words none =
      word_disjoint n (λ k h. bits_same 64 (common k) 0
      (let l : common k ≤ get_or w (first + k) 0 = and_le_l (get_or w (first + k) 0) (get_or v (second + k) 0) in omega (arith, words k))
      (omega arith)
      (λ j l.
      bit_and_lem (get_or w (first + k) 0) (get_or v (second + k) 0) j
      ∙ rw (← member_bit w first n k j h l, ← member_bit v second n k j h l) (none (64 * k + 1 + j))
      ∙ sym (bit_none j)))
