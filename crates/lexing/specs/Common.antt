-- Runs of symbol characters, as code compares them with words.
use Rattle.std.specs.Prelude.{ℕ, suc, cond, List, [], ◌∷◌, eqb}

-- how many bytes two lists have in common at their start
unfoldable pub common : List ℕ → List ℕ → ℕ
common [] v = 0
common (x ∷ u) [] = 0
common (x ∷ u) (y ∷ v) = cond (eqb x y) (suc (common u v)) 0
