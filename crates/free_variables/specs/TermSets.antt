-- What lent memory says of the free variables of terms, whatever it holds.
use Rattle.std.specs.Prelude.{ℕ, ◌+◌, ◌*◌, ◌-◌, ◌^◌, ◌<◌, Bool, true, false, cond, List, length, get_or}
use Rattle.bundle.specs.Bundle.{Bundle}
use Rattle.bundle.specs.Lists.{numbers}
use Rattle.sets.specs.Sets.{member, disjoint_of, subset_of}

-- n words for each term of a bundle
pub record TermSets : Type 0 where
  pub bundle : Bundle
  pub words : List ℕ
  pub n : ℕ

-- each is a word of 64 bits
abbrev pub Words : List ℕ → Type 0
Words w = (j : ℕ) → get_or w j 0 < 2 ^ 64

-- where the two sets of context k start, n words each: that of the variables that it moves, and that of those that its entries mention
abbrev pub moved_at : ℕ → ℕ → ℕ
moved_at n k = 2 * n * k

abbrev pub mentioned_at : ℕ → ℕ → ℕ
mentioned_at n k = 2 * n * k + n

-- with n words of w for each of so many terms: v is in the set of term t
unfoldable pub free_among : ℕ → List ℕ → ℕ → ℕ → ℕ → Bool
free_among terms w n t v = cond (numbers terms t) (member w (n * (t - 1)) n v) false

-- the set of term t and the set at `at` of the words m have nothing in common
unfoldable pub settled_among : ℕ → List ℕ → ℕ → List ℕ → ℕ → ℕ → Bool
settled_among terms w n m at t = cond (numbers terms t) (disjoint_of w (n * (t - 1)) m at n) true

-- the set of term t is a subset of it
unfoldable pub in_scope_among : ℕ → List ℕ → ℕ → List ℕ → ℕ → ℕ → Bool
in_scope_among terms w n m at t = cond (numbers terms t) (subset_of w (n * (t - 1)) m at n) true

-- the same of the terms of a bundle
unfoldable pub free_in : TermSets → ℕ → ℕ → Bool
unfolding free_among
free_in s = free_among (length s.bundle.terms) s.words s.n

unfoldable pub settled_in : TermSets → List ℕ → ℕ → ℕ → Bool
unfolding settled_among
settled_in s = settled_among (length s.bundle.terms) s.words s.n

unfoldable pub in_scope_in : TermSets → List ℕ → ℕ → ℕ → Bool
unfolding in_scope_among
in_scope_in s = in_scope_among (length s.bundle.terms) s.words s.n
