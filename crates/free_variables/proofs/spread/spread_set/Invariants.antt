-- `spread_set` meets its contract. The invariant: the words from k on are moved, those below are as they were.
use Prim.Native.Nat.{ℕ, ◌+◌, ◌*◌, ◌≤◌, ◌<◌}
use mathlib.Core.Path.{◌≡◌}
use mathlib.Core.List.{List}
use lib.ListN.{length, get_or}
use Rattle.bundle.specs.Limits.{set_words}
use Rattle.free_variables.proofs.spread.spread_set.Given as goal

-- the words of the set from k on are moved
pub record Partly (w v : List ℕ) (n t k : ℕ) : Type 0 where
  pub few : k ≤ set_words
  pub long : length v ≡ length w
  pub words : (i : ℕ) → k ≤ i → i < n → get_or v (set_words * t + i) 0 ≡ get_or w (n * t + i) 0
  pub zeros : (i : ℕ) → k ≤ i → n ≤ i → i < set_words → get_or v (set_words * t + i) 0 ≡ 0
  pub lower : (j : ℕ) → j < set_words * t + k → get_or v j 0 ≡ get_or w j 0
  pub upper : (j : ℕ) → set_words * t + set_words ≤ j → get_or v j 0 ≡ get_or w j 0

abbrev pub invariant-loop-k : goal.invariant-loop-k
invariant-loop-k l = Partly l.initial.area l.area l.n l.t l.k
