-- The free sets of all terms, in lent words.
use Rattle.std.specs.Prelude.{ℕ, ◌*◌, ◌-◌, ◌≤◌, ◌≡◌, length}
use Rattle.sets.specs.Sets.{member}
use Rattle.logic.specs.Free.{free_at}
use Rattle.free_variables.specs.TermSets.{TermSets}

-- The words hold the free sets of all terms, n words each: that of term t starts at word n * (t - 1).
pub record FreeSets (s : TermSets) : Type 0 where
  pub long : s.n * length s.bundle.terms ≤ length s.words
  pub same : (t v : ℕ) → 1 ≤ t → t ≤ length s.bundle.terms → member s.words (s.n * (t - 1)) s.n v ≡ free_at s.bundle t v
