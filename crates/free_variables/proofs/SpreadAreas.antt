-- An area of sets of few words, spread out, is the area of sets of as many words as a term has.
--     area_spread     THE LAW
use Prim.Native.Nat.{ℕ, zero, suc, ◌+◌, ◌*◌, ◌/◌, ◌%◌, ◌≤◌, ◌<◌}
use mathlib.Core.Path.{◌≡◌, refl, sym, ap, ◌∙◌}
use mathlib.Core.Bool.{Bool, true, false}
use mathlib.Core.List.{List}
use native.Mathlib.Omega.{arith}
use native.Mathlib.Nat.{mod-lt, div-add-mod, mul-le-mul_right, mul_comm}
use native.Mathlib.Decide.{dec_lt}
use lib.ListN.{length, get_or}
use lib.Seq.{ext_get_or}
use Rattle.std.proofs.lemmas.Nat.{div_below}
use Rattle.bundle.specs.Bundle.{Bundle}
use Rattle.bundle.proofs.Tab.{tab_length}
use Rattle.logic.specs.Free.{free_at, bits_from, set_word, free_area}
use Rattle.logic.proofs.Tests.{numbers_of_lem}
use Rattle.logic.proofs.Trees.{free_known}
use Rattle.free_variables.specs.Spread.{Spread}
use Rattle.free_variables.proofs.SetWords.{area_set_word, area_rest}

-- a word of a set that has none of its numbers is zero
bits_none : (s : ℕ → Bool) (n v : ℕ) → ((x : ℕ) → v ≤ x → s x ≡ false) → bits_from s v n ≡ 0
unfolding bits_from
bits_none s zero v none = refl
bits_none s (suc n) v none = rw (none v (omega arith), bits_none s n (suc v) (λ x h. none x (omega arith)))

-- a number past the variables is free nowhere
past_free : (b : Bundle) (t x : ℕ) → length b.variables < x → free_at b t x ≡ false
past_free b t x past = go (free_at b t x) refl
  where
    go : (p : Bool) → free_at b t x ≡ p → p ≡ false
    go true e = absurd (omega (arith, (numbers_of_lem (length b.variables) x (free_known b t x e)).1))
    go false e = refl

module _ (b : Bundle) (n m size : ℕ) (w v : List ℕ) (one : 1 ≤ n) (words-fit : n ≤ m) (bits : length b.variables ≤ 64 * n)
    (room : m * length b.terms ≤ size) (area : w ≡ free_area b n size) (moved : Spread w v n m (length b.terms)) where
  abbrev terms : ℕ
  terms = length b.terms

  few : n * terms ≤ m * terms
  few = mul-le-mul_right terms words-fit

  long : length v ≡ length (free_area b m size)
  unfolding free_area
  long = moved.long ∙ ap length area ∙ tab_length _ size ∙ sym (tab_length _ size)

  -- word k of the set of term q + 1
  word : (q k : ℕ) → q < terms → k < m → Dec (k < n) → get_or v (m * q + k) 0 ≡ set_word (free_at b (suc q)) k
  word q k low here (yes l) =
      (moved.moved q low).words k l
      ∙ ap (λ (u : List ℕ). get_or u (n * q + k) 0) area
      ∙ area_set_word b n size one q k low l (omega (arith, few))
  word q k low here (no l) =
      (moved.moved q low).zeros k (omega arith) here
      ∙ sym (bits_none (free_at b (suc q)) 64 (64 * k + 1) (λ x h. past_free b (suc q) x (omega arith)))

  pub area_spread : v ≡ free_area b m size
  area_spread = ext_get_or 0 v (free_area b m size) long (λ j h. go j (dec_lt j (m * terms)))
    where
      go : (j : ℕ) → Dec (j < m * terms) → get_or v j 0 ≡ get_or (free_area b m size) j 0
      go j (yes l) =
          let q : ℕ = j / m in
          let k : ℕ = j % m in
          let at : m * q + k ≡ j = div-add-mod j m in
          let low : q < terms = div_below j m terms (omega arith) (rw mul_comm l) in
          let here : k < m = mod-lt j (omega arith) in
          rw (← at) (word q k low here (dec_lt k n) ∙ sym (area_set_word b m size (omega arith) q k low here room))
      go j (no l) =
          moved.rest j (omega arith)
          ∙ ap (λ (u : List ℕ). get_or u j 0) area
          ∙ area_rest b n size one j (omega (arith, few))
          ∙ sym (area_rest b m size (omega arith) j (omega arith))
