-- The results, or the steps, of a part of the stack.
--     halves_none, halves_more, halves_last     of no pair; the first pair, and then the others; the others, and then the last pair
--     rest_none, rest_more                      of the pairs from a place on: none are left; the first of them, and then the others
--     halves_same                               of two stacks that agree there
--     halves_push                               with a pair stored on top of the stack
use mathlib.Core.Path.{◌≡◌, sym, ap, ◌∙◌}
use mathlib.Core.Bool.{Bool}
use mathlib.Core.List.{List, [], ◌∷◌, ◌++◌, map, map-append}
use Prim.Native.Nat.{ℕ, suc, ◌+◌, ◌-◌, ◌≤◌, ◌<◌}
use native.Mathlib.Numerals.{add-one}
use native.Mathlib.Omega.{arith}
use lib.ListN.{length, get_or, take, drop, set, length-drop, length-set, drop_of_length-le}
use lib.Seq.{drop-cons, take-suc, get_or-take, get_or-drop, get_or-set_same, get_or-set_other, length-take-le, ext_get_or}
use Rattle.scratch.specs.Stack.{half_of, halves_of, halves}

pub halves_none : (u : Bool) (s : List ℕ) (from to : ℕ) → to ≤ from → halves u s from to ≡ []
halves_none u s from to h = let e : to - from ≡ 0 = omega arith in rw e

-- the pairs from place i on
pub rest_none : (u : Bool) (s : List ℕ) (i : ℕ) → length s ≤ i → halves_of u (drop i s) ≡ []
rest_none u s i h = rw (drop_of_length-le s h)

pub rest_more : (u : Bool) (s : List ℕ) (i : ℕ) → i < length s → halves_of u (drop i s) ≡ half_of u (get_or s i 0) ∷ halves_of u (drop (i + 1) s)
rest_more u s i h = rw (drop-cons s i 0 h, add-one i)

module _ (u : Bool) (s : List ℕ) (from to : ℕ) where
  pub halves_more : from < to → to ≤ length s → halves u s from to ≡ half_of u (get_or s from 0) ∷ halves u s (from + 1) to
  halves_more h k =
      let e : to - from ≡ suc (to - (from + 1)) = omega arith in
      let l : from < length s = omega arith in
      rw (e, drop-cons s from 0 l, add-one from)

  pub halves_last : from ≤ to → to < length s → halves u s from (to + 1) ≡ halves u s from to ++ (half_of u (get_or s to 0) ∷ [])
  halves_last h k =
      let e : to + 1 - from ≡ suc (to - from) = omega arith in
      let l : to - from < length (drop from s) = simp length-drop (omega arith) in
      let g : get_or (drop from s) (to - from) 0 ≡ get_or s to 0 = get_or-drop from s (to - from) 0 ∙ ap (λ (i : ℕ). get_or s i 0) (omega arith) in
      rw e
      (ap (map (half_of u)) (take-suc (drop from s) (to - from) 0 l)
      ∙ map-append (half_of u) (take (to - from) (drop from s)) (get_or (drop from s) (to - from) 0 ∷ [])
      ∙ ap (λ (x : ℕ). halves u s from to ++ (half_of u x ∷ [])) g)

  pub halves_same : (s' : List ℕ) → length s' ≡ length s → to ≤ length s → ((i : ℕ) → from ≤ i → i < to → get_or s' i 0 ≡ get_or s i 0)
      → halves u s' from to ≡ halves u s from to
  halves_same s' e k same =
      let l : to - from ≤ length (drop from s) = simp length-drop (omega arith) in
      let l' : to - from ≤ length (drop from s') = simp length-drop (omega arith) in
      let h : length (take (to - from) (drop from s')) ≡ to - from = length-take-le (to - from) (drop from s') l' in
      ap (map (half_of u))
      (ext_get_or 0 (take (to - from) (drop from s')) (take (to - from) (drop from s)) (h ∙ sym (length-take-le (to - from) (drop from s) l))
      (λ i j.
      let b : i < to - from = omega (arith, h) in
      get_or-take (to - from) (drop from s') i 0 b ∙ get_or-drop from s' i 0
      ∙ same (from + i) (omega arith) (omega arith)
      ∙ sym (get_or-take (to - from) (drop from s) i 0 b ∙ get_or-drop from s i 0)))

-- a pair stored on top of the stack
module _ (u : Bool) (s : List ℕ) (from to x : ℕ) where
  pub halves_push : from ≤ to → to < length s → halves u (set s to x) from (to + 1) ≡ halves u s from to ++ (half_of u x ∷ [])
  halves_push h k =
      let e : length (set s to x) ≡ length s = length-set s to x in
      halves_last u (set s to x) from to h (omega arith)
      ∙ rw (get_or-set_same s to x 0 k, halves_same u s from to (set s to x) e (omega arith) (λ i a b. get_or-set_other s to i x 0 (omega arith)))
