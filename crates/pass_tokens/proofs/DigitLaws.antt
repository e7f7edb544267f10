-- Laws of digits, one by one, as `words::numeral` reads them.
--     Digiting, digits_on     digits so far
use Prim.Native.Nat.{ℕ, suc, ◌+◌, ◌-◌, ◌*◌, ◌≤◌, ◌<◌}
use native.Mathlib.Omega.{arith}
use native.Mathlib.Numerals.{add-one}
use mathlib.Core.Path.{◌≡◌, refl, ap, ◌∙◌}
use mathlib.Core.Bool.{Bool, true, false, not, false≢true}
use mathlib.Core.List.{List, [], ◌∷◌, ◌++◌}
use lib.ListN.{length, get_or, take, drop}
use lib.Dec.{eqb}
use borrow.Author.Tests.{eqb-true, eqb-false, ne_eqb, le-leb}
use Rattle.std.proofs.lemmas.Bool.{and_from}
use Rattle.bundle.specs.Lists.{each}
use Rattle.logic.proofs.Tests.{and_left, and_right}
use Rattle.reading.specs.Called.{decimal, is_digit, is_numeral}
use Rattle.lexing.specs.Lexes.{part}
use Rattle.lexing.proofs.SkipLaws.{part_more}

-- ---- a digit more

decimal_more : (a : ℕ) (w : List ℕ) (c : ℕ) → decimal a (w ++ (c ∷ [])) ≡ 10 * decimal a w + (c - 48)
unfolding decimal
decimal_more a [] c = refl
decimal_more a (d ∷ w) c = decimal_more (10 * a + (d - 48)) w c

decimal_one : (c n : ℕ) → n ≡ 0 → decimal 0 (c ∷ []) ≡ 10 * n + (c - 48)
unfolding decimal
decimal_one c n z = rw z

each_more : (p : ℕ → Bool) (w : List ℕ) (c : ℕ) → each p w ≡ true → p c ≡ true → each p (w ++ (c ∷ [])) ≡ true
unfolding each
each_more p [] c h e = rw e
each_more p (d ∷ w) c h e = and_from (p d) (each p (w ++ (c ∷ []))) (and_left (p d) (each p w) h) (each_more p w c (and_right (p d) (each p w) h) e)

numeral_more : (w : List ℕ) (c : ℕ) → is_numeral w ≡ true → is_digit c ≡ true → is_numeral (w ++ (c ∷ [])) ≡ true
unfolding is_numeral
numeral_more [] c h e = absurd (false≢true h)
numeral_more (d ∷ w) c h e =
    and_from (not (eqb d 48)) (each is_digit (d ∷ w ++ (c ∷ []))) (and_left (not (eqb d 48)) (each is_digit (d ∷ w)) h)
    (each_more is_digit (d ∷ w) c (and_right (not (eqb d 48)) (each is_digit (d ∷ w)) h) e)

numeral_one : (c : ℕ) → (c ≡ 48 → ⊥) → is_digit c ≡ true → is_numeral (c ∷ []) ≡ true
unfolding is_numeral each
numeral_one c ne e = rw (ne_eqb c 48 ne, e)

-- ---- digits of a text

-- the digits from `from` up to j have the value n; no zero is first
pub record Digiting (text : List ℕ) (from high n j : ℕ) : Type 0 where
  pub after : from ≤ j
  pub inside : j ≤ length text
  pub most : n ≤ high
  pub none : n ≡ 0 → j ≡ from
  pub value : (n ≡ 0 → ⊥) → (from < j) × (is_numeral (part text from j) ≡ true) × (decimal 0 (part text from j) ≡ n)

module _ (text : List ℕ) (from high : ℕ) where
  module _ (n j : ℕ) (h : Digiting text from high n j) where
    pub digits_on : j < length text → (c : ℕ) → c ≡ get_or text j 0 → 48 ≤ c → c ≤ 57 → 10 * n + (c - 48) ≤ high → (10 * n + (c - 48) ≡ 0 → ⊥)
        → Digiting text from high (10 * n + (c - 48)) (j + 1)
    digits_on l c same low top most some =
        rw (add-one j) (record {
          after = omega (arith, h.after);
          inside = l;
          most = most;
          none = λ x. absurd (some x);
          value = λ x. go (eqb n 0) refl;
        })
      where
        digit : is_digit c ≡ true
        digit = rw (le-leb 48 c low, le-leb c 57 top)

        grown : part text from (suc j) ≡ part text from j ++ (c ∷ [])
        grown = rw same (part_more text from j h.after l)

        go : (b : Bool) → eqb n 0 ≡ b
            → (from < suc j) × (is_numeral (part text from (suc j)) ≡ true) × (decimal 0 (part text from (suc j)) ≡ 10 * n + (c - 48))
        go true e =
            let z : n ≡ 0 = eqb-true n 0 e in
            let q : j - from ≡ 0 = omega (arith, h.none z) in
            let p : part text from (suc j) ≡ c ∷ [] = grown ∙ ap (λ k. take k (drop from text) ++ (c ∷ [])) q in
            (omega (arith, h.after), rw p (numeral_one c (λ f. some (omega arith)) digit), rw p (decimal_one c n z))
        go false e =
            let v = h.value (eqb-false n 0 e) in (
              omega (arith, h.after),
              rw grown (numeral_more (part text from j) c v.1 digit),
              rw grown (decimal_more 0 (part text from j) c ∙ ap (λ k. 10 * k + (c - 48)) v.2),
            )
