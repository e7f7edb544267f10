-- The bundle that lent words of 32 bits stand for.
use Rattle.std.specs.Prelude.{ℕ, ◌≤◌, List, length, get_or}
use Rattle.bundle.specs.declared.Counts.{Counts}
use Rattle.bundle.specs.Bundle.{Bundle}
use Rattle.bundle.specs.Limits.{limits, words_of, Within}
use Rattle.bundle.specs.File.{bundle_by}

-- word k of the lent words, counted from 0
abbrev pub word_in : List ℕ → ℕ → ℕ
word_in w k = get_or w k 0

-- THE TIE: the bundle that the words and these counts stand for. Each section has room for its limit, so its place is the one that the limits give.
abbrev pub bundle_in : List ℕ → Counts → Bundle
bundle_in w c = bundle_by (word_in w) limits c

-- there are as many words as the limits ask for, and each count is within its limit: all that a reader of records asks for
pub record Roomy (w : List ℕ) (c : Counts) : Type 0 where
  pub within : Within c
  pub long : words_of limits ≤ length w
