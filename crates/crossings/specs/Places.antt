-- What the walk of whole-term REFL knows of the binders that it has crossed, in two arrays: the places of the variables among them, so that a crossed
-- variable is looked up by one load, and the set of the variables that are bound on the right.
use Rattle.std.specs.Prelude.{ℕ, suc, ◌+◌, ◌-◌, ◌≤◌, ◌≡◌, cond, List, [], ◌∷◌, length, get_or, eqb}
use Rattle.bundle.specs.Lists.{has}
use Rattle.sets.specs.Sets.{member}
use Rattle.free_variables.specs.TermSets.{TermSets}
use Rattle.logic.specs.Lists.{All, Number}
use Rattle.logic.specs.ReflWalk.{Crossed, lefts, rights}

-- The place of x among variables of which the nearest comes first, counted from the last, which has 1. Where x stands more than once the nearest
-- counts; 0 where it is none of them.
unfoldable pub stamp : List ℕ → ℕ → ℕ
stamp [] x = 0
stamp (y ∷ ys) x = cond (eqb x y) (suc (length ys)) (stamp ys x)

-- One side's half of the places: w has those of the variables bound on that side, ys, the nearest first.
pub record Half (w ys : List ℕ) : Type 0 where
  pub place : (x : ℕ) → 1 ≤ x → x ≤ length w → get_or w (x - 1) 0 ≡ stamp ys x
  pub known : All (Number (length w)) ys

-- The arrays have the binders crossed: w the place of each of the file's variables on the left, then on the right; m, n words of it, the set of those
-- bound on the right, and nothing else.
pub record Places (variables n : ℕ) (w m : List ℕ) (ps : Crossed) : Type 0 where
  pub long : variables + variables ≤ length w
  pub words : n ≤ length m
  pub left : (x : ℕ) → 1 ≤ x → x ≤ variables → get_or w (x - 1) 0 ≡ stamp (lefts ps) x
  pub right : (y : ℕ) → 1 ≤ y → y ≤ variables → get_or w (variables + (y - 1)) 0 ≡ stamp (rights ps) y
  pub bound : (y : ℕ) → member m 0 n y ≡ has y (rights ps)
  pub lefts_known : All (Number variables) (lefts ps)
  pub rights_known : All (Number variables) (rights ps)

-- ---- the arrays, with the sets of the file's terms

pub record Binders : Type 0 where
  pub sets : TermSets
  pub places : List ℕ
  pub bound : List ℕ

-- there is room for each variable, in the sets too
pub record BindersFit (sets : TermSets) (w m : List ℕ) : Type 0 where
  pub long : length sets.bundle.variables + length sets.bundle.variables ≤ length w
  pub words : sets.n ≤ length m

abbrev pub HaveCrossed : Binders → Crossed → Type 0
HaveCrossed b ps = Places (length b.sets.bundle.variables) b.sets.n b.places b.bound ps
