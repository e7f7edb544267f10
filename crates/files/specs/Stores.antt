-- Words stored as bytes.
use Rattle.std.specs.Prelude.{ℕ, ◌*◌, ◌≡◌, List, ◌++◌, length, take}
use Rattle.bundle.specs.Words.{encode}

-- the words ws were stored in the output o from word p on, and end before word q, which gave o': as long as o, and up to word p the same
pub record WordsStored (o : List ℕ) (p q : ℕ) (ws : List ℕ) (o' : List ℕ) : Type 0 where
  pub long : length o' ≡ length o
  pub bytes : take (4 * q) o' ≡ take (4 * p) o ++ encode ws
