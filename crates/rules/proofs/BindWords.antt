-- BIND's side over a set of any number of words: word by word.
--     apart           the side for one variable
--     words_on        one word more
--     words_end       all words are gone over, or all variables
--     words_fail      one variable is hit
--     set_word        a word of the set, in the part of the words where it stands
--     apart_none      a number that is no term's has no free variables
use native.Mathlib.Omega.{arith}
use native.Mathlib.Decide.{dec_le}
use Prim.Native.Nat.{ℕ, ◌+◌, ◌*◌, ◌-◌, ◌/◌, ◌%◌, ◌≤◌, ◌<◌}
use mathlib.Core.Path.{◌≡◌, refl, sym, ◌∙◌}
use mathlib.Core.Bool.{Bool, true, false, cond, not, ◌||◌, false≢true}
use mathlib.Core.List.{List}
use lib.ListN.{length, get_or, take, drop}
use lib.Seq.{get_or-take, get_or-drop}
use Rattle.sets.specs.Sets.{bit_at, holds, member}
use Rattle.sets.proofs.Members.{held, member_bit}
use Rattle.logic.specs.Tests.{up_to}
use Rattle.logic.proofs.Tests.{up_to_lem, up_to_all}
use Rattle.free_variables.specs.TermSets.{TermSets, free_in}
use Rattle.free_variables.proofs.FreeWords.{free_some}
use Rattle.rules.specs.WordSides.{WordApart, WordHit}

-- y is not free in the image of z, if z is free in the left side
abbrev pub apart : (ℕ → Bool) → (ℕ → Bool) → ℕ → Bool
apart free hit z = not (free z) || not (hit z)

pub apart_none : (free hit : ℕ → Bool) (last : ℕ) → ((x : ℕ) → free x ≡ false) → up_to last (apart free hit) ≡ true
apart_none free hit last none = up_to_all last (apart free hit) (λ x one few. rw (none x))

pub set_word : (w : List ℕ) (at m k : ℕ) → k < m → get_or (take (at + m - at) (drop at w)) k 0 ≡ get_or w (at + k) 0
set_word w at m k low = get_or-take (at + m - at) (drop at w) k 0 (omega arith) ∙ get_or-drop at w k 0

-- a number that no word of the set has a bit for
not_member : (w : List ℕ) (at n x : ℕ) → 64 * n < x → member w at n x ≡ false
unfolding member
not_member w at n x past = go (holds n x) refl
  where
    go : (p : Bool) → holds n x ≡ p → cond p (bit_at (get_or w (at + (x - 1) / 64) 0) ((x - 1) % 64)) false ≡ false
    go true e = absurd (omega (arith, (held n x e).1))
    go false e = refl

module _ (sets : TermSets) (left last : ℕ) (hit : ℕ → Bool) (some : left ≡ 0 → ⊥) (few : left ≤ length sets.bundle.terms) where
  abbrev w : List ℕ
  w = sets.words

  abbrev n : ℕ
  n = sets.n

  abbrev free : ℕ → Bool
  free = free_in sets left

  -- the variables up to m are apart
  abbrev pub Apart : ℕ → Type 0
  Apart m = (x : ℕ) → 1 ≤ x → x ≤ m → x ≤ last → apart free hit x ≡ true

  free_bit : (k i : ℕ) → k < n → i < 64 → free (64 * k + 1 + i) ≡ bit_at (get_or w (n * (left - 1) + k) 0) i
  free_bit k i low bit = free_some sets left (64 * k + 1 + i) some few ∙ member_bit w (n * (left - 1)) n k i low bit

  pub words_on : (k : ℕ) → k < n → Apart (64 * k) → WordApart (get_or w (n * (left - 1) + k) 0) (64 * k) last hit → Apart (64 * k + 64)
  words_on k low done word x one up most = go (dec_le x (64 * k))
    where
      both : (p q : Bool) → (p ≡ true → q ≡ false) → (not p || not q) ≡ true
      both true q f = rw (f refl)
      both false q f = refl

      go : Dec (x ≤ 64 * k) → apart free hit x ≡ true
      go (yes l) = done x one l most
      go (no l) =
          let i : ℕ = x - 64 * k - 1 in
          let e : 64 * k + 1 + i ≡ x = omega arith in
          let bit : i < 64 = omega arith in
          rw e at
          (both (free (64 * k + 1 + i)) (hit (64 * k + 1 + i)) (λ m. word i bit (omega arith) (sym (free_bit k i low bit) ∙ m)))

  pub words_end : (k : ℕ) → (k < n → last ≤ 64 * k) → Apart (64 * k) → up_to last (apart free hit) ≡ true
  words_end k over done = up_to_all last (apart free hit) (λ x one most. go x one most (dec_le x (64 * k)))
    where
      go : (x : ℕ) → 1 ≤ x → x ≤ last → Dec (x ≤ 64 * k) → apart free hit x ≡ true
      go x one most (yes l) = done x one l most
      go x one most (no l) =
          let past : k < n → ⊥ = λ low. omega (arith, over low) in
          rw (free_some sets left x some few, not_member w (n * (left - 1)) n x (omega (arith, past)))

  pub words_fail : (k : ℕ) → k < n → WordHit (get_or w (n * (left - 1) + k) 0) (64 * k) last hit → up_to last (apart free hit) ≡ false
  words_fail k low word = go (up_to last (apart free hit)) refl
    where
      fails : apart free hit (64 * k + 1 + word.j) ≡ false
      fails = rw (free_bit k word.j low word.low, word.member, word.here)

      go : (t : Bool) → up_to last (apart free hit) ≡ t → t ≡ false
      go true h = absurd (false≢true (sym fails ∙ up_to_lem last (apart free hit) h (64 * k + 1 + word.j) (omega arith) word.few))
      go false h = refl
