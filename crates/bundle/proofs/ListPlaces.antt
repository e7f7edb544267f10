-- Places of a list, by links. A number that is no link's reads zeros, and starts the empty list.
--     first_is                 the first item is the value of the link where the list starts
--     second_is, single_is     the second item, and a list of one item, by the link that follows the first
--     none_is, pair_is         no item, and two items, by the first links; single_length: one item, by the length
--     last_start               a 0 in front of a list does not change its last item: so a walk may start from 0
use mathlib.Core.Path.{◌≡◌, refl, sym, ap, ◌∙◌}
use mathlib.Core.Bool.{not, ◌&&◌}
use mathlib.Core.List.{List, [], ◌∷◌}
use Prim.Native.Nat.{ℕ, zero, suc, ◌≤◌, ◌<◌}
use native.Mathlib.Omega.{arith}
use native.Mathlib.Decide.{dec_lt}
use lib.ListN.{length}
use lib.Dec.{eqb, eqb-suc-zero, eqb-suc-suc}
use Rattle.bundle.specs.Lists.{first_of, second_of, single, last_of}
use Rattle.bundle.specs.Bundle.{Bundle, Link, no_link, link_of}
use Rattle.bundle.specs.Links.{items, follows, next_of}
use Rattle.bundle.proofs.Tab.{at_none}
use Rattle.bundle.proofs.Walks.{walk_nil, walk_past, walk_some, walk_le}

pub last_start : (xs : List ℕ) → last_of (0 ∷ xs) ≡ last_of xs
unfolding last_of
last_start [] = refl
last_start (x ∷ xs) = refl

pub single_length : (xs : List ℕ) → single xs ≡ eqb (length xs) 1
unfolding single
single_length [] = refl
single_length (x ∷ []) = refl
single_length (x ∷ y ∷ ys) = sym (eqb-suc-suc (suc (length ys)) 0 ∙ eqb-suc-zero (length ys))

module _ (b : Bundle) where
  pub first_is : (s : ℕ) → (link_of b s).value ≡ first_of (items b s)
  first_is zero = rw (walk_nil b 0 refl)
  first_is (suc i) = go (dec_lt i (length b.links))
    where
      go : Dec (i < length b.links) → (link_of b (suc i)).value ≡ first_of (items b (suc i))
      go (yes h) = rw (walk_some b (suc i) (λ z. omega arith) h)
      go (no h) =
          let past : length b.links < suc i = omega arith in
          ap (λ (l : Link). l.value) (at_none no_link b.links (suc i) past)
          ∙ sym (ap first_of (walk_past b (suc i) (omega arith)))

  pub second_is : (i : ℕ) → i ≤ length b.links → (link_of b (next_of b.links i)).value ≡ second_of (items b i)
  unfolding follows
  second_is zero h = rw (walk_nil b 0 refl)
  second_is (suc i) h = rw (walk_some b (suc i) (λ z. omega arith) h) (first_is (next_of b.links (suc i)))

  -- an item, and what follows it
  single_cons : (v r : ℕ) → r ≤ length b.links → single (v ∷ items b r) ≡ eqb r 0
  unfolding single
  single_cons v zero h = rw (walk_nil b 0 refl)
  single_cons v (suc r) h = rw (walk_some b (suc r) (λ z. omega arith) h, eqb-suc-zero r)

  pub single_is : (i : ℕ) → i ≤ length b.links → (not (eqb i 0) && eqb (next_of b.links i) 0) ≡ single (items b i)
  unfolding single
  single_is zero h = rw (walk_nil b 0 refl)
  single_is (suc i) h =
      let r = next_of b.links (suc i) in
      rw (eqb-suc-zero i, walk_some b (suc i) (λ z. omega arith) h) (sym (single_cons (link_of b (suc i)).value r (walk_le b (suc i) r refl)))

  pub none_is : (i : ℕ) → i ≤ length b.links → eqb i 0 ≡ eqb (length (items b i)) 0
  none_is zero h = rw (walk_nil b 0 refl)
  none_is (suc i) h =
      rw (walk_some b (suc i) (λ z. omega arith) h, eqb-suc-zero i, eqb-suc-zero (length (items b (next_of b.links (suc i)))))

  pub pair_is : (i : ℕ) → i ≤ length b.links
      → (not (eqb (next_of b.links i) 0) && eqb (next_of b.links (next_of b.links i)) 0) ≡ eqb
      (length (items b i)) 2
  unfolding follows
  pair_is zero h = rw (walk_nil b 0 refl)
  pair_is (suc i) h =
      let r = next_of b.links (suc i) in
      let n = length (items b r) in
      single_is r (walk_le b (suc i) r refl)
      ∙ single_length (items b r)
      ∙ sym (eqb-suc-suc n 1)
      ∙ sym (ap (λ (xs : List ℕ). eqb (length xs) 2) (walk_some b (suc i) (λ z. omega arith) h))
