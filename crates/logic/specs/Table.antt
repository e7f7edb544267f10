-- Tables that grow: record by record, each new cell built from the cells before it. A record that reads a number which is not lower than its
-- own reads the default: so every table is total, and a walk in code that stops at such a number computes the same.
use Rattle.std.specs.Prelude.{ℕ, cond, ltb}
use mathlib.Core.List.{List, [], ◌∷◌, ◌++◌}
use Rattle.bundle.specs.Bundle.{at}

-- Records R build cells A: a record is handed the cells before it, as a function of their numbers.
module _ {A R : Type 0} (build : (ℕ → A) → R → A) (d : A) where
  unfoldable pub grow : List A → List R → List A
  grow acc [] = acc
  grow acc (r ∷ rs) = grow (acc ++ (build (at d acc) r ∷ [])) rs

  unfoldable pub table : List R → ℕ → A
  unfolding grow
  table rs t = at d (grow [] rs) t

-- the cells below t, and the default for all others
abbrev pub below {ℓ} : {A : Type ℓ} → A → ℕ → (ℕ → A) → ℕ → A
below d t f i = cond (ltb i t) (f i) d
