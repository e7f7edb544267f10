-- Sets of n words each, one after another, moved to places of m words each; sets are counted from 0 here.
use Rattle.std.specs.Prelude.{ℕ, ◌+◌, ◌*◌, ◌≤◌, ◌<◌, ◌≡◌, List, length, get_or}

-- set t of v is set t of w, with zeros after its words
pub record Moved (w v : List ℕ) (n m t : ℕ) : Type 0 where
  pub words : (k : ℕ) → k < n → get_or v (m * t + k) 0 ≡ get_or w (n * t + k) 0
  pub zeros : (k : ℕ) → n ≤ k → k < m → get_or v (m * t + k) 0 ≡ 0

-- set t alone: the words before and after its wide place are as they were
pub record SpreadOne (w v : List ℕ) (n m t : ℕ) : Type 0 where
  pub long : length v ≡ length w
  pub moved : Moved w v n m t
  pub lower : (j : ℕ) → j < m * t → get_or v j 0 ≡ get_or w j 0
  pub upper : (j : ℕ) → m * t + m ≤ j → get_or v j 0 ≡ get_or w j 0

-- all of them; the words after them are as they were
pub record Spread (w v : List ℕ) (n m terms : ℕ) : Type 0 where
  pub long : length v ≡ length w
  pub moved : (t : ℕ) → t < terms → Moved w v n m t
  pub rest : (j : ℕ) → m * terms ≤ j → get_or v j 0 ≡ get_or w j 0
