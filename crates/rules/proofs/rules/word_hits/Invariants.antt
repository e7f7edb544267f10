-- `rules::word_hits` meets its contract. The invariant: the variables of the word whose bits were taken out are not hit. The measure is how far the
-- lowest bit that is left is from the last.
use Prim.Native.Nat.{ℕ, ◌+◌, ◌-◌, ◌≤◌, ◌<◌, ◌^◌}
use mathlib.Core.Path.{◌≡◌}
use mathlib.Core.Bool.{Bool, true, false}
use lib.ListN.{length}
use lib.Count.{count_trailing_zeros}
use Rattle.sets.specs.Sets.{bit_at}
use Rattle.images.specs.ContextRows.{image_at}
use Rattle.free_variables.specs.TermSets.{free_in}
use Rattle.rules.specs.WordSides.{hit_by}
use Rattle.rules.proofs.rules.word_hits.Given as goal

-- x is the word without the bits of some variables that are not hit
pub record Left (word base last : ℕ) (hit : ℕ → Bool) (x : ℕ) : Type 0 where
  pub fits : x < 2 ^ 64
  pub part : (i : ℕ) → bit_at x i ≡ true → bit_at word i ≡ true
  pub apart : (i : ℕ) → i < 64 → base + 1 + i ≤ last → bit_at word i ≡ true → bit_at x i ≡ false → hit (base + 1 + i) ≡ false

abbrev pub invariant-loop-left : goal.invariant-loop-left
invariant-loop-left l =
    Left l.word l.base (length l.sets.bundle.variables)
    (hit_by (free_in l.sets) (image_at (length l.sets.bundle.variables) l.images l.context) l.y) l.left

abbrev pub decreases-loop-left : goal.decreases-loop-left
decreases-loop-left l = 64 - count_trailing_zeros 64 l.left
