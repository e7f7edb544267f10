-- Sets as words, and the area of all free sets as a list.
--     bits_lt, bits_at    the number whose bits are a set's: below 2 ^ n, and its bit k says whether v + k is in the set
--     area_is             words that hold all free sets, with zeros after them, are `free_area`
--     area_set_word       a word of a term's set in `free_area`
--     area_member         a member of a term's set in `free_area` is a free variable
--     area_word           a word of `free_area` is below 2 ^ 64
--     area_rest           a word after the sets is zero
use mathlib.Core.Path.{◌≡◌, refl, sym, ap, ◌∙◌}
use mathlib.Core.Logic.{inl}
use mathlib.Core.Bool.{Bool, true, false, cond}
use mathlib.Core.List.{List}
use Prim.Native.Nat.{ℕ, zero, suc, ◌+◌, ◌*◌, ◌-◌, ◌/◌, ◌%◌, ◌^◌, ◌≤◌, ◌<◌}
use native.Mathlib.Nat.{mod-lt, mod-eq_of_lt, div-eq_of_lt, div-one, div-add-mod, mul-add-div, mul-add-mod_self_left, mul_comm, pow-succ'}
use native.Mathlib.Omega.{arith}
use native.Mathlib.Decide.{dec_lt}
use lib.ListN.{length, get_or}
use lib.Seq.{ext_get_or}
use lib.Dec.{ltb}
use borrow.Author.Tests.{ltb-true, ltb-false, lt-ltb, le-ltb}
use Rattle.std.proofs.lemmas.Nat.{div_below}
use Rattle.bundle.specs.Bundle.{Bundle}
use Rattle.bundle.specs.File.{tab}
use Rattle.bundle.proofs.Tab.{tab_length, tab_at, tab_none}
use Rattle.bundle.proofs.Fields.{record_within}
use Rattle.sets.specs.Sets.{bit_at, holds, member, cleared}
use Rattle.sets.proofs.Digits.{bit_half, bits_same}
use Rattle.sets.proofs.Members.{held, member_bit, member_same, filled_length, filled_in, filled_out}
use Rattle.logic.specs.Free.{free_at, bits_from, set_word, free_area}
use Rattle.unions.proofs.ByKind.{SoFar}

-- ---- one word

pub bits_lt : (s : ℕ → Bool) (n v : ℕ) → bits_from s v n < 2 ^ n
unfolding bits_from
bits_lt s zero v = omega arith
bits_lt s (suc n) v = go (s v) (bits_lt s n (suc v))
  where
    go : (p : Bool) → bits_from s (suc v) n < 2 ^ n → cond p 1 0 + 2 * bits_from s (suc v) n < 2 ^ suc n
    go true l = rw (pow-succ' 2 n) (omega arith)
    go false l = rw (pow-succ' 2 n) (omega arith)

pub bits_at : (s : ℕ → Bool) (n v k : ℕ) → k < n → bit_at (bits_from s v n) k ≡ s (v + k)
unfolding bits_from
bits_at s zero v k h = absurd (omega arith)
bits_at s (suc n) v zero h = go (s v) ∙ ap s (omega arith)
  where
    go : (p : Bool) → bit_at (cond p 1 0 + 2 * bits_from s (suc v) n) 0 ≡ p
    go true = let e : (1 + 2 * bits_from s (suc v) n) % 2 ≡ 1 = omega arith in rw (div-one (1 + 2 * bits_from s (suc v) n), e)
    go false = let e : (0 + 2 * bits_from s (suc v) n) % 2 ≡ 0 = omega arith in rw (div-one (0 + 2 * bits_from s (suc v) n), e)
bits_at s (suc n) v (suc k) h =
    sym (bit_half (cond (s v) 1 0 + 2 * bits_from s (suc v) n) k)
    ∙ ap (λ (x : ℕ). bit_at x k) (go (s v))
    ∙ bits_at s n (suc v) k (omega arith)
    ∙ ap s (omega arith)
  where
    go : (p : Bool) → (cond p 1 0 + 2 * bits_from s (suc v) n) / 2 ≡ bits_from s (suc v) n
    go true = omega arith
    go false = omega arith

-- a word below 2 ^ 64 is that of a set if its bits are the set's members
word_is : (s : ℕ → Bool) (k x : ℕ) → x < 2 ^ 64 → ((j : ℕ) → j < 64 → bit_at x j ≡ s (64 * k + 1 + j)) → x ≡ set_word s k
word_is s k x small same =
    bits_same 64 x (set_word s k) small (bits_lt s 64 (64 * k + 1)) (λ j h. same j h ∙ sym (bits_at s 64 (64 * k + 1) j h))

-- ---- the whole area

module _ (b : Bundle) (n m : ℕ) (one : 1 ≤ n) where
  abbrev word_of : ℕ → ℕ
  word_of j = cond (ltb j (n * length b.terms)) (set_word (free_at b (suc (j / n))) (j % n)) 0

  pub area_is : (w v : List ℕ) (terms : ℕ) → length b.terms ≡ terms → length w ≡ m → n * terms ≤ length w → SoFar w n (terms + 1) b
      → v ≡ cleared w (n * terms) (length w - n * terms) → ((j : ℕ) → get_or v j 0 < 2 ^ 64) → v ≡ free_area b n m
  unfolding free_area
  area_is w v terms count long room so clear words =
      ext_get_or 0 v (tab word_of m) (same_long ∙ sym (tab_length word_of m))
      (λ j h. word j (omega (arith, same_long)) (ltb j (n * length b.terms)) refl ∙ sym (tab_at word_of m j 0 (omega (arith, same_long))))
    where
      same_long : length v ≡ m
      same_long = rw clear (filled_length (λ k. 0) w (n * terms) (length w - n * terms) ∙ long)

      -- the sets of terms are kept
      kept : (q : ℕ) → q < terms → (k : ℕ) → k < n → get_or v (n * q + k) 0 ≡ get_or w (n * q + k) 0
      kept q h k l =
          let p : suc q - 1 ≡ q = omega arith in
          let fits : n * q + n ≤ n * terms = rw p at (record_within n terms (suc q) (λ z. omega arith) h) in
          rw clear (filled_out (λ k. 0) w (n * terms) (length w - n * terms) (n * q + k) (inl (omega arith)))

      set_at : (q x : ℕ) → q < terms → member v (n * q) n x ≡ free_at b (suc q) x
      set_at q x h =
          let p : suc q - 1 ≡ q = omega arith in
          member_same v w (n * q) n (kept q h) x ∙ (rw p at (so (suc q) x (omega arith) (omega arith)))

      word : (j : ℕ) → j < length w → (p : Bool) → ltb j (n * length b.terms) ≡ p → get_or v j 0 ≡ cond p (set_word (free_at b (suc (j / n))) (j % n)) 0
      word j h true e =
          let low : j / n < terms = rw count at (div_below j n (length b.terms) one (rw mul_comm (ltb-true j (n * length b.terms) e))) in
          word_is (free_at b (suc (j / n))) (j % n) (get_or v j 0) (words j) (λ i l.
          ap (λ (x : ℕ). bit_at (get_or v x 0) i) (sym (div-add-mod j n))
          ∙ sym (member_bit v (n * (j / n)) n (j % n) i (mod-lt j one) l)
          ∙ set_at (j / n) (64 * (j % n) + 1 + i) low)
      word j h false e =
          let past : n * terms ≤ j = rw count at (ltb-false j (n * length b.terms) e) in
          let place : n * terms + (j - n * terms) ≡ j = omega arith in
          rw clear (rw place at (filled_in (λ k. 0) w (n * terms) (length w - n * terms) (j - n * terms) (omega arith) (omega arith)))

  -- word k of the set of term t
  word_of_lem : (t k : ℕ) → 1 ≤ t → k < n → n * (t - 1) + k < n * length b.terms → word_of (n * (t - 1) + k) ≡ set_word (free_at b t) k
  word_of_lem t k first low place =
      let term : suc ((n * (t - 1) + k) / n) ≡ t = omega (arith, mul-add-div one (t - 1) k, div-eq_of_lt low) in
      let word : (n * (t - 1) + k) % n ≡ k = mul-add-mod_self_left n (t - 1) k ∙ mod-eq_of_lt low in
      rw (lt-ltb (n * (t - 1) + k) (n * length b.terms) place, term, word)

  -- word k of the set of term q + 1, where there is room for all sets
  pub area_set_word : (q k : ℕ) → q < length b.terms → k < n → n * length b.terms ≤ m
      → get_or (free_area b n m) (n * q + k) 0 ≡ set_word (free_at b (suc q)) k
  unfolding free_area
  area_set_word q k few low room =
      let p : suc q - 1 ≡ q = omega arith in
      let fits : n * (suc q - 1) + n ≤ n * length b.terms = record_within n (length b.terms) (suc q) (λ z. omega arith) few in
      let place : n * (suc q - 1) + k < n * length b.terms = omega arith in
      rw p at (tab_at word_of m (n * (suc q - 1) + k) 0 (omega arith) ∙ word_of_lem (suc q) k (omega arith) low place)

  -- the set of term t, of the numbers that have a bit
  pub area_member : (t x : ℕ) → 1 ≤ t → t ≤ length b.terms → n * length b.terms ≤ m → holds n x ≡ true
      → member (free_area b n m) (n * (t - 1)) n x ≡ free_at b t x
  unfolding free_area
  area_member t x first few room has =
      let k : ℕ = (x - 1) / 64 in
      let j : ℕ = (x - 1) % 64 in
      let h : (0 < x) × (k < n) = held n x has in
      let x-is : 64 * k + 1 + j ≡ x = omega (arith, h.0) in
      let place : n * (t - 1) + k < n * length b.terms = omega (arith, h.1, record_within n (length b.terms) t (λ z. omega arith) few) in
      ap (member (tab word_of m) (n * (t - 1)) n) (sym x-is)
      ∙ member_bit (tab word_of m) (n * (t - 1)) n k j h.1 (mod-lt (x - 1) (omega arith))
      ∙ ap (λ (y : ℕ). bit_at y j) (tab_at word_of m (n * (t - 1) + k) 0 (omega arith) ∙ word_of_lem t k first h.1 place)
      ∙ bits_at (free_at b t) 64 (64 * k + 1) j (mod-lt (x - 1) (omega arith))
      ∙ ap (free_at b t) x-is

  -- word j of the area is `word_of j`, or 0 past the end
  area_at : (P : ℕ → Type 0) (j : ℕ) → P (word_of j) → P 0 → P (get_or (free_area b n m) j 0)
  unfolding free_area
  area_at P j here past = go (dec_lt j m)
    where
      go : Dec (j < m) → P (get_or (tab word_of m) j 0)
      go (yes h) = rw (tab_at word_of m j 0 h) here
      go (no h) = rw (tab_none 0 word_of m (suc j) (omega arith)) past

  pub area_word : (j : ℕ) → get_or (free_area b n m) j 0 < 2 ^ 64
  area_word j = area_at (λ x. x < 2 ^ 64) j (go (ltb j (n * length b.terms))) (omega arith)
    where
      go : (p : Bool) → cond p (set_word (free_at b (suc (j / n))) (j % n)) 0 < 2 ^ 64
      go true = bits_lt (free_at b (suc (j / n))) 64 (64 * (j % n) + 1)
      go false = omega arith

  pub area_rest : (j : ℕ) → n * length b.terms ≤ j → get_or (free_area b n m) j 0 ≡ 0
  area_rest j past = area_at (λ x. x ≡ 0) j (rw (le-ltb j (n * length b.terms) past)) refl
