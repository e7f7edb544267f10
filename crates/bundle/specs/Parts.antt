-- The file from each section on, as the code holds it.
use Rattle.std.specs.Prelude.{ℕ, ◌*◌, ◌-◌, ◌≡◌, List, length, take, drop}
use Rattle.bundle.specs.declared.Counts.{Counts}
use Rattle.bundle.specs.Limits.{symbols_at, variables_at, terms_at, links_at, contexts_at, steps_at}
use Rattle.bundle.specs.File.{Whole}

-- a file from word n on
abbrev pub from_word : List ℕ → ℕ → List ℕ
from_word f n = take (length f - 4 * n) (drop (4 * n) f)

-- s, v, t, l, k, p are the file from the symbols on, from the variables on, and so on
pub record Parted (f : List ℕ) (c : Counts) (s v t l k p : List ℕ) : Type 0 where
  pub whole : Whole f c
  pub symbols : s ≡ from_word f (symbols_at c)
  pub variables : v ≡ from_word f (variables_at c)
  pub terms : t ≡ from_word f (terms_at c)
  pub links : l ≡ from_word f (links_at c)
  pub contexts : k ≡ from_word f (contexts_at c)
  pub steps : p ≡ from_word f (steps_at c)
