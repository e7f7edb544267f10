-- Tests and what they say, put together: a test that holds exactly where a proposition does.
--     le_exactly                  of numbers
--     imply_exactly     of truth values
--     number_exactly                                      a record's number
--     has_exactly, each_exactly, different_exactly, same_list_exactly     of lists
use mathlib.Core.Path.{◌≡◌, refl}
use Prim.Native.Nat.{ℕ, ◌≤◌}
use mathlib.Core.Bool.{Bool, true, false, not, ◌||◌, false≢true}
use mathlib.Core.Logic.{◌⊎◌, inl, inr, ◌↔◌}
use mathlib.Core.List.{List, [], ◌∷◌}
use lib.Dec.{eqb, leb}
use borrow.Author.Tests.{leb-true, le-leb}
use Rattle.std.proofs.lemmas.Bool.{or_cases}
use Rattle.std.proofs.lemmas.Bool.Decides.{Decides-and, Decides-or, Decides-not, Decides-eqb}
use Rattle.bundle.specs.Lists.{same_list, numbers, each, has, different}
use Rattle.logic.specs.Lists.{Among, All, Different, Number}
use Rattle.logic.proofs.Tests.{not_in, numbers_of_lem, numbers_in, same_list_lem, list_same}

-- ---- numbers

pub le_exactly : (x y : ℕ) → (leb x y ≡ true) ↔ (x ≤ y)
le_exactly x y = (leb-true x y, le-leb x y)

pub number_exactly : (n x : ℕ) → (numbers n x ≡ true) ↔ Number n x
number_exactly n x = (numbers_of_lem n x, λ h. numbers_in n x h.0 h.1)

-- ---- truth values

module _ {A B : Type 0} (p : Bool) (f : (p ≡ true) ↔ A) (q : Bool) (g : (q ≡ true) ↔ B) where
  pub imply_exactly : ((not p || q) ≡ true) ↔ (A → B)
  imply_exactly = (λ e a. there (or_cases (not p) q e) a, λ h. back p refl h)
    where
      there : (not p ≡ true) ⊎ (q ≡ true) → A → B
      there (inl n) a = not_in p n (f.1 a)
      there (inr h) a = g.0 h

      back : (o : Bool) → p ≡ o → (A → B) → (not o || q) ≡ true
      back true e h = g.1 (h (f.0 e))
      back false e h = refl

-- ---- lists

pub has_exactly : (x : ℕ) (xs : List ℕ) → (has x xs ≡ true) ↔ Among x xs
unfolding has
has_exactly x [] = (false≢true, λ h. absurd h)
has_exactly x (y ∷ ys) = Decides-or (eqb x y) (has x ys) (Decides-eqb x y) (has_exactly x ys)

pub each_exactly : (p : ℕ → Bool) (P : ℕ → Type 0) → ((x : ℕ) → (p x ≡ true) ↔ P x) → (xs : List ℕ) → (each p xs ≡ true) ↔ All P xs
unfolding each
each_exactly p P h [] = (λ e. tt, λ u. refl)
each_exactly p P h (x ∷ xs) = Decides-and (p x) (each p xs) (h x) (each_exactly p P h xs)

pub different_exactly : (xs : List ℕ) → (different xs ≡ true) ↔ Different xs
unfolding different
different_exactly [] = (λ e. tt, λ u. refl)
different_exactly (x ∷ xs) = Decides-and (not (has x xs)) (different xs) (Decides-not (has x xs) (has_exactly x xs)) (different_exactly xs)

pub same_list_exactly : (xs ys : List ℕ) → (same_list xs ys ≡ true) ↔ (xs ≡ ys)
same_list_exactly xs ys = (same_list_lem xs ys, list_same xs ys)
