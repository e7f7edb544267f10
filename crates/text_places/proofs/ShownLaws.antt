-- Laws of what is shown, byte by byte.
use Prim.Native.Nat.{ℕ, suc, ◌+◌, ◌≤◌, suc-le-suc, ◌<◌}
use native.Mathlib.Omega.{arith}
use native.Mathlib.Numerals.{add-one}
use mathlib.Core.Path.{◌≡◌, refl, sym, ap, ap₂, ◌∙◌}
use mathlib.Core.Bool.{Bool, true, false, cond}
use mathlib.Core.List.{List, [], ◌∷◌, ◌++◌, map, append-nil}
use lib.ListN.{length, get_or, take, set, length-set}
use lib.Seq.{take-suc, take-suc-set}
use Rattle.text_places.specs.Shown.{shown_byte, goes_on, under_byte, under, UnderAsMany}

-- ---- lists

under_more : (xs : List ℕ) (c : ℕ) → under (xs ++ (c ∷ [])) ≡ under xs ++ cond (goes_on c) [] (under_byte c ∷ [])
unfolding under
under_more [] c = refl
under_more (x ∷ xs) c = go (goes_on x) (under_more xs c)
  where
    go : (b : Bool) → under (xs ++ (c ∷ [])) ≡ under xs ++ cond (goes_on c) [] (under_byte c ∷ [])
        → cond b (under (xs ++ (c ∷ []))) (under_byte x ∷ under (xs ++ (c ∷ [])))
        ≡ cond b (under xs) (under_byte x ∷ under xs) ++ cond (goes_on c) [] (under_byte c ∷ [])
    go true h = h
    go false h = ap (λ r. under_byte x ∷ r) h

-- ---- the line: the bytes before the next are in the area, as they are shown

pub record Showing (part : List ℕ) (area : List ℕ) (n : ℕ) : Type 0 where
  pub inside : n ≤ length part
  pub room : length area ≡ 128
  pub bytes : take n area ≡ map shown_byte (take n part)

-- ---- the mark: what stands under the first j bytes of the part is in the area

pub record Marking (part : List ℕ) (area : List ℕ) (n j : ℕ) : Type 0 where
  pub inside : j ≤ length part
  pub few : n ≤ j
  pub room : length area ≡ 128
  pub bytes : take n area ≡ under (take j part)

module _ (part area : List ℕ) (n j : ℕ) (h : Marking part area n j) (few : length part ≤ 60) where
  module _ (l : j < length part) (b : Bool) (e : b ≡ goes_on (get_or part j 0)) where
    next : under (take (j + 1) part) ≡ under (take j part) ++ cond b [] (under_byte (get_or part j 0) ∷ [])
    next = ap under (rw (add-one j) (take-suc part j 0 l)) ∙ under_more (take j part) (get_or part j 0)
        ∙ ap (λ x. under (take j part) ++ cond x [] (under_byte (get_or part j 0) ∷ [])) (sym e)

    pub marking_more : (v : ℕ) → b ≡ false → v ≡ under_byte (get_or part j 0) → Marking part (set area n v) (n + 1) (j + 1)
    marking_more v f g = record {
      inside = omega arith;
      few = omega (arith, h.few);
      room = length-set area n v ∙ h.room;
      bytes =
          rw (add-one n) (take-suc-set area n v (omega (arith, h.room, h.few)))
          ∙ ap₂ (λ x y. x ++ (y ∷ [])) h.bytes g
          ∙ sym (next ∙ ap (λ x. under (take j part) ++ cond x [] (under_byte (get_or part j 0) ∷ [])) f);
    }

    pub marking_on : b ≡ true → Marking part area n (j + 1)
    marking_on t = record {
      inside = omega arith;
      few = omega (arith, h.few);
      room = h.room;
      bytes =
          h.bytes
          ∙ sym (append-nil (under (take j part)))
          ∙ sym (next ∙ ap (λ x. under (take j part) ++ cond x [] (under_byte (get_or part j 0) ∷ [])) t);
    }

-- ---- THE LAW

pub under_as_many : UnderAsMany
unfolding under
under_as_many [] h = refl
under_as_many (c ∷ cs) h = rw (h 0 (omega arith)) (ap suc (under_as_many cs (λ k l. h (suc k) (suc-le-suc l))))
