-- What the table keeps, by computation.
--     word_keeps, opens_keeps, closes_to, behind_low     brackets nest
--     plain_same, nested_plain                           where a second scan cannot be wrong
use Prim.Native.Nat.{ℕ, suc, ◌+◌, ◌-◌, ◌≤◌, ◌<◌}
use native.Mathlib.Omega.{arith}
use mathlib.Core.Path.{◌≡◌, refl, sym, ap, ◌∙◌}
use mathlib.Core.Bool.{Bool, true, false, cond, not, ◌&&◌, ◌||◌, true≢false, false≢true}
use mathlib.Core.List.{List, [], ◌∷◌}
use mathlib.Core.Logic.{◌⊎◌, inl, inr}
use lib.ListN.{length}
use lib.Dec.{eqb, ltb}
use borrow.Author.Tests.{lt-ltb, le-ltb, ne_eqb, eqb-true, ltb-true, not-true}
use Rattle.std.proofs.lemmas.Bool.{or_cases}
use Rattle.bundle.specs.Lists.{has, each, same_list}
use Rattle.logic.specs.Tests.{up_to}
use Rattle.logic.proofs.Tests.{up_to_lem, and_left, and_right, same_list_lem, each_has}
use Rattle.spots.specs.Spots.{cell, behind, Nested, taken_for, alike}
use Rattle.spots.specs.Levels.{level}

implies : Bool → Bool → Bool
implies p q = not p || q

implied : (p q : Bool) → implies p q ≡ true → p ≡ true → q ≡ true
unfolding implies
implied true q h e = h
implied false q h e = absurd (false≢true e)

-- of each spot below n
each_spot : (n : ℕ) (p : ℕ → Bool) → up_to n (λ s. p (s - 1)) ≡ true → (s : ℕ) → s < n → p s ≡ true
each_spot n p h s l =
    let q : suc s - 1 ≡ s = omega arith in
    rw q at (up_to_lem n (λ s. p (s - 1)) h (suc s) (omega arith) (omega arith))

-- ---- brackets nest

word_fact : ℕ → ℕ → Bool
word_fact s j = implies (ltb (cell s j) 20) (same_list (behind (cell s j)) (behind s) && implies (ltb s 2) (ltb (cell s j) 2))

word_facts : up_to 20 (λ s. up_to 7 (λ j. word_fact (s - 1) (j - 1 + 3))) ≡ true
unfolding up_to word_fact implies same_list behind
word_facts = refl

nested_as : (s n : ℕ) (held : List ℕ) → behind n ≡ behind s → (s < 2 → n < 2) → Nested s held → Nested n held
nested_as s n [] e f h = f h
nested_as s n (u ∷ held) e f h = (ap (has u) e ∙ h.0, h.1)

pub word_keeps : (s j : ℕ) (held : List ℕ) → s < 20 → 3 ≤ j → j < 10 → cell s j < 20 → Nested s held → Nested (cell s j) held
unfolding word_fact
word_keeps s j held l a b c h =
    let k = j - 3 in
    let e : j ≡ k + 3 = omega arith in
    let f = each_spot 7 (λ j. word_fact s (j + 3)) (each_spot 20 (λ s. up_to 7 (λ j. word_fact s (j - 1 + 3))) word_facts s l) k (omega arith) in
    let g : word_fact s j ≡ true = ap (word_fact s) e ∙ f in
    let both = implied (ltb (cell s j) 20) _ g (lt-ltb (cell s j) 20 c) in
    let p = same_list (behind (cell s j)) (behind s) in
    let q = implies (ltb s 2) (ltb (cell s j) 2) in
    nested_as s (cell s j) held (same_list_lem (behind (cell s j)) (behind s) (and_left p q both))
    (λ z. ltb-true (cell s j) 2 (implied (ltb s 2) (ltb (cell s j) 2) (and_right p q both) (lt-ltb s 2 z))) h

opens_fact : ℕ → Bool
opens_fact s =
    implies (ltb (cell s 0) 20)
    (has (cell s 10) (behind (cell s 0)) && (same_list (behind (cell s 10)) (behind s) && implies (ltb s 2) (ltb (cell s 10) 2)))

opens_facts : up_to 20 (λ s. opens_fact (s - 1)) ≡ true
unfolding up_to opens_fact implies same_list behind has
opens_facts = refl

pub opens_keeps : (s : ℕ) (held : List ℕ) → s < 20 → cell s 0 < 20 → Nested s held → Nested (cell s 0) (cell s 10 ∷ held)
unfolding opens_fact
opens_keeps s held l c h =
    let p = has (cell s 10) (behind (cell s 0)) in
    let q = same_list (behind (cell s 10)) (behind s) in
    let r = implies (ltb s 2) (ltb (cell s 10) 2) in
    let all = implied (ltb (cell s 0) 20) _ (each_spot 20 opens_fact opens_facts s l) (lt-ltb (cell s 0) 20 c) in
    let two = and_right p (q && r) all in (
      and_left p (q && r) all,
      nested_as s (cell s 10) held (same_list_lem (behind (cell s 10)) (behind s) (and_left q r two))
          (λ z. ltb-true (cell s 10) 2 (implied (ltb s 2) (ltb (cell s 10) 2) (and_right q r two) (lt-ltb s 2 z))) h,
    )

behind_fact : ℕ → Bool
behind_fact s = each (λ u. ltb u 20) (behind s)

behind_facts : up_to 20 (λ s. behind_fact (s - 1)) ≡ true
unfolding up_to behind_fact each behind
behind_facts = refl

pub behind_low : (s u : ℕ) → s < 20 → has u (behind s) ≡ true → u < 20
unfolding behind_fact
behind_low s u l h = ltb-true u 20 (each_has (λ u. ltb u 20) (behind s) (each_spot 20 behind_fact behind_facts s l) u h)

-- ---- closing brackets: where the table has a spot, that one is held; else only plain ones are

abbrev plain_spots : List ℕ
plain_spots = 0 ∷ 4 ∷ 6 ∷ 7 ∷ 18 ∷ 19 ∷ []

pub plain : ℕ → Bool
unfolding has
plain u = has u plain_spots

closes_fact : ℕ → Bool
closes_fact s =
    implies (not (eqb (cell s 1) 99)) (ltb 1 s && (implies (ltb (cell s 1) 20) (same_list (behind s) (cell s 1 ∷ [])) && implies (not (ltb (cell s 1) 20))
    (each plain (behind s))))

closes_facts : up_to 20 (λ s. closes_fact (s - 1)) ≡ true
unfolding up_to closes_fact implies same_list behind each plain
closes_facts = refl

module _ (s : ℕ) (l : s < 20) (c : cell s 1 ≡ 99 → ⊥) where
  all_of : (ltb 1 s && (implies (ltb (cell s 1) 20) (same_list (behind s) (cell s 1 ∷ [])) && implies (not (ltb (cell s 1) 20)) (each plain (behind s)))) ≡ true
  unfolding closes_fact
  all_of = implied (not (eqb (cell s 1) 99)) _ (each_spot 20 closes_fact closes_facts s l) (rw (ne_eqb (cell s 1) 99 c))

  rest_of : (implies (ltb (cell s 1) 20) (same_list (behind s) (cell s 1 ∷ [])) && implies (not (ltb (cell s 1) 20)) (each plain (behind s))) ≡ true
  rest_of = and_right (ltb 1 s) _ all_of

  -- something is held
  pub closes_some : (held : List ℕ) → Nested s held → (u : ℕ) × (rest : List ℕ) × (held ≡ u ∷ rest)
  closes_some [] h = absurd (off h (ltb-true 1 s (and_left (ltb 1 s) _ all_of)))
    where
      off : s < 2 → 1 < s → ⊥
      off x y = omega arith
  closes_some (u ∷ rest) h = (u, rest, refl)

  pub closes_to : cell s 1 < 20 → (u : ℕ) → has u (behind s) ≡ true → u ≡ cell s 1
  unfolding has
  closes_to k u h =
      let e = same_list_lem (behind s) (cell s 1 ∷ []) (implied (ltb (cell s 1) 20) _
      (and_left (implies (ltb (cell s 1) 20) (same_list (behind s) (cell s 1 ∷ []))) _ rest_of) (lt-ltb (cell s 1) 20 k)) in
      one (or_cases (eqb u (cell s 1)) false (ap (λ v. has u v) (sym e) ∙ h))
    where
      one : (eqb u (cell s 1) ≡ true) ⊎ (false ≡ true) → u ≡ cell s 1
      one (inl x) = eqb-true u (cell s 1) x
      one (inr x) = absurd (false≢true x)

  pub closes_plain : 20 ≤ cell s 1 → each plain (behind s) ≡ true
  closes_plain k =
      implied (not (ltb (cell s 1) 20)) (each plain (behind s))
      (and_right (implies (ltb (cell s 1) 20) (same_list (behind s) (cell s 1 ∷ []))) (implies (not (ltb (cell s 1) 20)) (each plain (behind s))) rest_of)
      (rw (le-ltb (cell s 1) 20 k))

most_fact : ℕ → Bool
most_fact s = implies (ltb 98 (cell s 1)) (eqb (cell s 1) 99)

most_facts : up_to 20 (λ s. most_fact (s - 1)) ≡ true
unfolding up_to most_fact implies
most_facts = refl

pub closes_most : (s : ℕ) → s < 20 → 99 ≤ cell s 1 → cell s 1 ≡ 99
unfolding most_fact
closes_most s l h = eqb-true (cell s 1) 99 (implied (ltb 98 (cell s 1)) (eqb (cell s 1) 99) (each_spot 20 most_fact most_facts s l) (lt-ltb 98 (cell s 1) h))

-- ---- plain spots: all that is held under one is plain, and a second scan takes each for itself

plain_facts : each (λ u. each plain (behind u)) plain_spots ≡ true
unfolding each plain behind
plain_facts = refl

pub nested_plain : (s : ℕ) (held : List ℕ) → Nested s held → each plain (behind s) ≡ true → (j : ℕ) → j < length held → plain (level held j) ≡ true
unfolding has plain level
nested_plain s [] h e j l = absurd (omega (arith, l))
nested_plain s (u ∷ held) h e j l = go (eqb j (length held)) refl (nested_plain u held h.1 (under u (each_has plain (behind s) e u h.0)) j)
  where
    under : (u : ℕ) → plain u ≡ true → each plain (behind u) ≡ true
    under u p = each_has (λ u. each plain (behind u)) plain_spots plain_facts u p

    go : (b : Bool) → eqb j (length held) ≡ b → (j < length held → plain (level held j) ≡ true) → plain (cond b u (level held j)) ≡ true
    go true q f = each_has plain (behind s) e u h.0
    go false q f = f (omega (arith, borrow.Author.Tests.eqb-false j (length held) q))

pub plain_same : (u g : ℕ) → plain u ≡ true → alike u g ≡ true → u ≡ g
unfolding alike taken_for each plain
plain_same u g p h = go (or_cases (eqb u g) (has u (taken_for g)) h)
  where
    cases : (a b c d e : Bool) → each (λ u. not (plain u)) (cond a (10 ∷ [])
        (cond b (11 ∷ []) (cond c (12 ∷ []) (cond d (13 ∷ []) (cond e (2 ∷ 9 ∷ 10 ∷ 15 ∷ 16 ∷ []) []))))) ≡ true
    cases true b c d e = refl
    cases false true c d e = refl
    cases false false true d e = refl
    cases false false false true e = refl
    cases false false false false true = refl
    cases false false false false false = refl

    go : (eqb u g ≡ true) ⊎ (has u (taken_for g) ≡ true) → u ≡ g
    go (inl x) = eqb-true u g x
    go (inr x) =
        let n = each_has (λ u. not (plain u)) (taken_for g) (cases (eqb g 16) (eqb g 17) (eqb g 18) (eqb g 19) (eqb g 20)) u x in
        absurd (true≢false (sym p ∙ not-true (plain u) n))

-- ---- what a second scan takes a spot for

pub alike_low : (s g : ℕ) → s < 20 → alike s g ≡ true → g < 21
unfolding alike taken_for has
alike_low s g l h = ltb-true g 21 (go (ltb g 21) refl)
  where
    far : 21 ≤ g → alike s g ≡ false
    far k =
        rw (
          ne_eqb s g (λ e. omega arith),
          ne_eqb g 16 (λ e. omega arith),
          ne_eqb g 17 (λ e. omega arith),
          ne_eqb g 18 (λ e. omega arith),
          ne_eqb g 19
              (λ e. omega arith),
          ne_eqb g 20 (λ e. omega arith),
        )

    go : (b : Bool) → ltb g 21 ≡ b → b ≡ true
    go true e = refl
    go false e = absurd (true≢false (sym h ∙ far (borrow.Author.Tests.ltb-false g 21 e)))

-- a fact of each pair of alike spots
each_pair : (p : ℕ → ℕ → Bool) → up_to 20 (λ s. up_to 21 (λ g. implies (alike (s - 1) (g - 1)) (p (s - 1) (g - 1)))) ≡ true
    → (s g : ℕ) → s < 20 → alike s g ≡ true → p s g ≡ true
each_pair p h s g l a =
    implied (alike s g) (p s g) (each_spot 21 (λ g. implies (alike s g) (p s g))
    (each_spot 20 (λ s. up_to 21 (λ g. implies (alike s (g - 1)) (p s (g - 1)))) h s l) g (alike_low s g l a)) a

plain_word_fact : ℕ → ℕ → ℕ → Bool
plain_word_fact j s g = implies (ltb (cell s j) 20) (alike (cell s j) (cell g j))

plain_words : up_to 5 (λ j. up_to 20 (λ s. up_to 21 (λ g. implies (alike (s - 1) (g - 1)) (plain_word_fact (j - 1 + 3) (s - 1) (g - 1))))) ≡ true
unfolding up_to plain_word_fact implies alike
plain_words = refl

pub guess_word : (s g j : ℕ) → s < 20 → alike s g ≡ true → 3 ≤ j → j < 8 → cell s j < 20 → alike (cell s j) (cell g j) ≡ true
unfolding plain_word_fact
guess_word s g j l a x y c =
    let e : j ≡ j - 3 + 3 = omega arith in
    let f = each_spot 5 (λ j. up_to 20 (λ s. up_to 21 (λ g. implies (alike (s - 1) (g - 1)) (plain_word_fact (j + 3) (s - 1) (g - 1))))) plain_words (j - 3)
    (omega arith) in
    let h : plain_word_fact j s g ≡ true = ap (λ k. plain_word_fact k s g) e ∙ each_pair (plain_word_fact (j - 3 + 3)) f s g l a in
    implied (ltb (cell s j) 20) (alike (cell s j) (cell g j)) h (lt-ltb (cell s j) 20 c)

sort_fact : ℕ → ℕ → Bool
sort_fact s g = implies (ltb (cell s 8) 20) (alike (cell s 8) (cell g 13))

sort_facts : up_to 20 (λ s. up_to 21 (λ g. implies (alike (s - 1) (g - 1)) (sort_fact (s - 1) (g - 1)))) ≡ true
unfolding up_to sort_fact implies alike
sort_facts = refl

pub guess_sort : (s g : ℕ) → s < 20 → alike s g ≡ true → cell s 8 < 20 → alike (cell s 8) (cell g 13) ≡ true
unfolding sort_fact
guess_sort s g l a c = implied (ltb (cell s 8) 20) (alike (cell s 8) (cell g 13)) (each_pair sort_fact sort_facts s g l a) (lt-ltb (cell s 8) 20 c)

-- after a name that may not be of kind n
name_fact : (n k s g : ℕ) → Bool
name_fact n k s g = implies (ltb (cell s 9) 20) (implies (not (eqb (cell s 12) n)) (alike (cell s 9) (cell g k)))

name_facts : ℕ → ℕ → Bool
name_facts n k = up_to 20 (λ s. up_to 21 (λ g. implies (alike (s - 1) (g - 1)) (name_fact n k (s - 1) (g - 1))))

guess_name : (n k : ℕ) → name_facts n k ≡ true → (s g : ℕ) → s < 20 → alike s g ≡ true → cell s 9 < 20 → (cell s 12 ≡ n → ⊥)
    → alike (cell s 9) (cell g k) ≡ true
unfolding name_fact name_facts
guess_name n k f s g l a c ne =
    implied (not (eqb (cell s 12) n)) (alike (cell s 9) (cell g k))
    (implied (ltb (cell s 9) 20) _ (each_pair (name_fact n k) f s g l a) (lt-ltb (cell s 9) 20 c)) (rw (ne_eqb (cell s 12) n ne))

pub guess_symbol : (s g : ℕ) → s < 20 → alike s g ≡ true → cell s 9 < 20 → (cell s 12 ≡ 2 → ⊥) → alike (cell s 9) (cell g 9) ≡ true
unfolding up_to name_fact name_facts implies alike
guess_symbol = guess_name 2 9 refl

pub guess_variable : (s g : ℕ) → s < 20 → alike s g ≡ true → cell s 9 < 20 → (cell s 12 ≡ 1 → ⊥) → alike (cell s 9) (cell g 13) ≡ true
unfolding up_to name_fact name_facts implies alike
guess_variable = guess_name 1 13 refl

open_fact : ℕ → ℕ → Bool
open_fact s g = implies (ltb (cell s 0) 20) (alike (cell s 0) (cell g 0) && alike (cell s 10) (cell g 10))

open_facts : up_to 20 (λ s. up_to 21 (λ g. implies (alike (s - 1) (g - 1)) (open_fact (s - 1) (g - 1)))) ≡ true
unfolding up_to open_fact implies alike
open_facts = refl

pub guess_open : (s g : ℕ) → s < 20 → alike s g ≡ true → cell s 0 < 20 → (alike (cell s 0) (cell g 0) ≡ true) × (alike (cell s 10) (cell g 10) ≡ true)
unfolding open_fact
guess_open s g l a c =
    let both = implied (ltb (cell s 0) 20) _ (each_pair open_fact open_facts s g l a) (lt-ltb (cell s 0) 20 c) in
    (and_left (alike (cell s 0) (cell g 0)) (alike (cell s 10) (cell g 10)) both, and_right (alike (cell s 0) (cell g 0)) (alike (cell s 10) (cell g 10)) both)

enter_fact : ℕ → Bool
enter_fact s = implies (ltb (cell s 0) 20) (alike (cell s 0) 20)

enter_facts : up_to 20 (λ s. enter_fact (s - 1)) ≡ true
unfolding up_to enter_fact implies alike
enter_facts = refl

pub guess_enter : (s : ℕ) → s < 20 → cell s 0 < 20 → alike (cell s 0) 20 ≡ true
unfolding enter_fact
guess_enter s l c = implied (ltb (cell s 0) 20) (alike (cell s 0) 20) (each_spot 20 enter_fact enter_facts s l) (lt-ltb (cell s 0) 20 c)
