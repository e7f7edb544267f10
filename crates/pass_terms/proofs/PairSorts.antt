-- A list compared with the lower halves of pairs.
--     uneven          lists of different lengths are not the same
--     none_left       no pair has the sorts of an empty list
use mathlib.Core.Path.{◌≡◌, refl, ap}
use mathlib.Core.Bool.{false, and-false}
use mathlib.Core.List.{List, [], ◌∷◌}
use Prim.Native.Nat.{ℕ, suc}
use lib.ListN.{length}
use lib.Dec.{eqb, eqb-suc-zero}
use Rattle.bundle.specs.Lists.{same_list}
use Rattle.scratch.specs.Stack.{halves_of}

pub uneven : (xs ys : List ℕ) → (length xs ≡ length ys → ⊥) → same_list xs ys ≡ false
unfolding same_list
uneven [] [] d = absurd (d refl)
uneven [] (y ∷ ys) d = refl
uneven (x ∷ xs) [] d = refl
uneven (x ∷ xs) (y ∷ ys) d = rw (uneven xs ys (λ e. d (ap suc e)), and-false (eqb x y))

pub none_left : (ps : List ℕ) → eqb (length ps) 0 ≡ same_list [] (halves_of false ps)
unfolding same_list
none_left [] = refl
none_left (p ∷ ps) = eqb-suc-zero (length ps)
