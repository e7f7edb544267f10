-- Tests on lists of numbers, and items by their place.
use Rattle.std.specs.Prelude.{ℕ, List, [], ◌∷◌, Bool, true, false, not, ◌&&◌, ◌||◌, get_or, eqb, ltb, leb}

-- two lists are the same, item by item
unfoldable pub same_list : List ℕ → List ℕ → Bool
same_list [] [] = true
same_list [] (y ∷ ys) = false
same_list (x ∷ xs) [] = false
same_list (x ∷ xs) (y ∷ ys) = eqb x y && same_list xs ys

-- x is a record's number in a section of n: 1 to n
abbrev pub numbers : ℕ → ℕ → Bool
numbers n x = ltb 0 x && leb x n

-- a test of every item
unfoldable pub each : (ℕ → Bool) → List ℕ → Bool
each p [] = true
each p (x ∷ xs) = p x && each p xs

-- x is in the list
unfoldable pub has : ℕ → List ℕ → Bool
has x [] = false
has x (y ∷ ys) = eqb x y || has x ys

-- no item is in the list twice
unfoldable pub different : List ℕ → Bool
unfolding has
different [] = true
different (x ∷ xs) = not (has x xs) && different xs

-- the first and the second number of a list, and the last; 0 where there is none
abbrev pub first_of : List ℕ → ℕ
first_of xs = get_or xs 0 0

abbrev pub second_of : List ℕ → ℕ
second_of xs = get_or xs 1 0

-- a list of one number
unfoldable pub single : List ℕ → Bool
single [] = false
single (x ∷ []) = true
single (x ∷ y ∷ ys) = false

unfoldable pub last_of : List ℕ → ℕ
last_of [] = 0
last_of (x ∷ []) = x
last_of (x ∷ y ∷ ys) = last_of (y ∷ ys)
