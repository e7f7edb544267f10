-- What is said of lists, in propositions.
use Rattle.std.specs.Prelude.{ℕ, ◌≤◌, ◌≡◌, ◌⊎◌, List, [], ◌∷◌}

-- x is one of a list
abbrev pub Among : {A : Type 0} → A → List A → Type 0
Among x [] = ⊥
Among x (y ∷ ys) = (x ≡ y) ⊎ Among x ys

-- P holds of every item
abbrev pub All : {A : Type 0} → (A → Type 0) → List A → Type 0
All P [] = Unit {0}
All P (x ∷ xs) = P x × All P xs

-- no item is in the list twice
abbrev pub Different : List ℕ → Type 0
Different [] = Unit {0}
Different (x ∷ xs) = (Among x xs → ⊥) × Different xs

-- x is a record's number in a section of n: records count from 1
abbrev pub Number : ℕ → ℕ → Type 0
Number n x = (1 ≤ x) × (x ≤ n)
