-- Unions of the free sets of the terms of lists, kept for the links that are known, so that what several lists share is united once.
use Rattle.std.specs.Prelude.{ℕ, ◌+◌, ◌*◌, ◌-◌, ◌≤◌, ◌<◌, ◌≡◌, Bool, true, not, ◌&&◌, ◌||◌, List, length, get_or, eqb}
use Rattle.std.specs.Int.Bits.{bit_or}
use Rattle.bundle.specs.Bundle.{Bundle}
use Rattle.bundle.specs.Links.{items}
use Rattle.bundle.specs.Lists.{numbers, each}
use Rattle.sets.specs.Sets.{member, filled}
use Rattle.logic.specs.Free.{frees_of, free_at}
use Rattle.unions.specs.Put.{Kept, Put, set_below}

-- the list that starts at link k is known: it is empty, or the link has the mark 65,535
unfoldable pub known : List ℕ → ℕ → Bool
known marks k = eqb k 0 || eqb (get_or marks k 0) 65535

-- k is a link that no walk has marked
unfoldable pub unmet : List ℕ → ℕ → Bool
unmet marks k = not (eqb k 0) && eqb (get_or marks k 0) 0

-- no link is known in v that is not in w
pub record Fewer (w v : List ℕ) : Type 0 where
  pub long : length v ≡ length w
  pub fewer : (k : ℕ) → known v k ≡ true → known w k ≡ true

-- the words u with, at `to`, the union of the set of w at `first` and that of v at `second`, n words
abbrev pub joined : List ℕ → ℕ → List ℕ → ℕ → List ℕ → ℕ → ℕ → List ℕ
joined w first v second u to n = filled (λ k. bit_or (get_or w (first + k) 0) (get_or v (second + k) 0)) u to n

-- There is room for the marks and the unions of all links. The list that starts at a known link has terms below t alone, and at word n k stands
-- the set of the variables that are free in one of them.
pub record Unions (b : Bundle) (n t : ℕ) (lists marks : List ℕ) : Type 0 where
  pub marked : length b.links < length marks
  pub room : n * length b.links + n ≤ length lists
  pub lower : (k : ℕ) → known marks k ≡ true → each (numbers (t - 1)) (items b k) ≡ true
  pub union : (k x : ℕ) → known marks k ≡ true → member lists (n * k) n x ≡ frees_of (free_at b) (items b k) x

-- Only the set at `at` differs between w and v; with the sets of the terms of `rest` it makes up what that of w does with those of `whole`.
pub record Partly (w v : List ℕ) (n t at : ℕ) (whole rest : List ℕ) : Type 0 where
  pub kept : Kept w v n at
  pub members : (x : ℕ) → (member v at n x || frees_of (set_below w n t) rest x) ≡ (member w at n x || frees_of (set_below w n t) whole x)

-- The set of term t of a bundle is being written, of n words.
pub record Uniting : Type 0 where
  pub bundle : Bundle
  pub n : ℕ
  pub t : ℕ

-- only the set at `at` differs between w and v: that of v has the sets of the lower ones of these terms besides
abbrev pub Adds : Uniting → (w v : List ℕ) → ℕ → List ℕ → Type 0
Adds u w v at terms = Put w v u.n at (λ x. member w at u.n x || frees_of (set_below w u.n u.t) terms x)
