-- A side of BIND, for the variables that one word of a set has: bit j of the word is variable base + 1 + j.
use Rattle.std.specs.Prelude.{ℕ, ◌+◌, ◌≤◌, ◌<◌, ◌≡◌, Bool, true, false}
use Rattle.sets.specs.Sets.{bit_at}
use Rattle.logic.specs.declared.Image.{Image}
use Rattle.logic.specs.Rules.{free_in_image_by}

-- y is free in the image of z
abbrev pub hit_by : (ℕ → ℕ → Bool) → (ℕ → Image) → ℕ → ℕ → Bool
hit_by free image y z = free_in_image_by free (image z) z y

-- no variable of the word, up to `last`, is hit
abbrev pub WordApart : ℕ → ℕ → ℕ → (ℕ → Bool) → Type 0
WordApart word base last hit = (j : ℕ) → j < 64 → base + 1 + j ≤ last → bit_at word j ≡ true → hit (base + 1 + j) ≡ false

-- one is
pub record WordHit (word base last : ℕ) (hit : ℕ → Bool) : Type 0 where
  pub j : ℕ
  pub low : j < 64
  pub few : base + 1 + j ≤ last
  pub member : bit_at word j ≡ true
  pub here : hit (base + 1 + j) ≡ true
