-- `spread` meets its contract. The invariant: the sets from t on are moved, the words below them are as they were.
use Prim.Native.Nat.{ℕ, ◌*◌, ◌≤◌, ◌<◌}
use mathlib.Core.Path.{◌≡◌}
use mathlib.Core.List.{List}
use lib.ListN.{length, get_or}
use Rattle.bundle.specs.Limits.{set_words}
use Rattle.free_variables.specs.Spread.{Moved}
use Rattle.free_variables.proofs.spread.spread.Given as goal

-- the sets from t on are moved
pub record Partly (w v : List ℕ) (n terms t : ℕ) : Type 0 where
  pub few : t ≤ terms
  pub long : length v ≡ length w
  pub moved : (q : ℕ) → t ≤ q → q < terms → Moved w v n set_words q
  pub lower : (j : ℕ) → j < set_words * t → get_or v j 0 ≡ get_or w j 0
  pub rest : (j : ℕ) → set_words * terms ≤ j → get_or v j 0 ≡ get_or w j 0

abbrev pub invariant-loop-t : goal.invariant-loop-t
invariant-loop-t l = Partly l.initial.area l.area l.n l.terms l.t
