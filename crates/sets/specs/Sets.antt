-- Sets of variables in words of 64 bits. The set at `at` of n words stands in the words at, at + 1, .. at + n - 1. Variable v, counted from 1,
-- is bit (v - 1) % 64 of word (v - 1) / 64 of the set. A number that has no bit there, 0 among them, is no member.
use Rattle.std.specs.Prelude.{ℕ, zero, suc, ◌+◌, ◌-◌, ◌/◌, ◌%◌, ◌^◌, ◌≤◌, ◌<◌, ◌≡◌, List, Bool, true, false, cond, ◌&&◌, get_or, set, eqb, ltb}
use Rattle.std.specs.Int.Bits.{bit_and, bit_or, bit_xor}

-- bit k of x
abbrev pub bit_at : ℕ → ℕ → Bool
bit_at x k = eqb (x / 2 ^ k % 2) 1

-- x with bit k set, and with bit k cleared
abbrev pub with_bit : ℕ → ℕ → ℕ
with_bit x k = bit_or x (2 ^ k)

abbrev pub without_bit : ℕ → ℕ → ℕ
without_bit x k = bit_xor x (bit_and x (2 ^ k))

-- r is the least bit of x from k on that is set; 64 or more where none of the 64 is
pub record LeastBit (x k r : ℕ) : Type 0 where
  pub from : k ≤ r
  pub below : (j : ℕ) → k ≤ j → j < r → bit_at x j ≡ false
  pub here : r < 64 → bit_at x r ≡ true

-- a set of n words has a bit for v
unfoldable pub holds : ℕ → ℕ → Bool
holds n v = ltb 0 v && ltb ((v - 1) / 64) n

unfoldable pub member : List ℕ → ℕ → ℕ → ℕ → Bool
unfolding holds
member w at n v = cond (holds n v) (bit_at (get_or w (at + (v - 1) / 64) 0) ((v - 1) % 64)) false

-- the words with one bit of the set changed by g
unfoldable pub changed : (ℕ → ℕ → ℕ) → List ℕ → ℕ → ℕ → ℕ → List ℕ
unfolding holds
changed g w at n v = cond (holds n v) (set w (at + (v - 1) / 64) (g (get_or w (at + (v - 1) / 64) 0) ((v - 1) % 64))) w

abbrev pub inserted : List ℕ → ℕ → ℕ → ℕ → List ℕ
inserted = changed with_bit

abbrev pub removed : List ℕ → ℕ → ℕ → ℕ → List ℕ
removed = changed without_bit

-- the words with g 0, g 1, .. g (n - 1) from `at` on
unfoldable pub filled : (ℕ → ℕ) → List ℕ → ℕ → ℕ → List ℕ
filled g w at zero = w
filled g w at (suc k) = set (filled g w at k) (at + k) (g k)

-- the empty set at `at`
abbrev pub cleared : List ℕ → ℕ → ℕ → List ℕ
cleared = filled (λ k. 0)

-- the set at `to`, with the members of that at `from` added
abbrev pub united : List ℕ → ℕ → ℕ → ℕ → List ℕ
united w to from n = filled (λ k. bit_or (get_or w (to + k) 0) (get_or w (from + k) 0)) w to n

-- no word of the set at `first` of the words w has a bit in common with that word of the set at `second` of the words v
unfoldable pub disjoint_of : List ℕ → ℕ → List ℕ → ℕ → ℕ → Bool
disjoint_of w first v second zero = true
disjoint_of w first v second (suc k) = eqb (bit_and (get_or w (first + k) 0) (get_or v (second + k) 0)) 0 && disjoint_of w first v second k

-- each word of the set at `first` of the words w has no bits but those of that word of the set at `second` of the words v
unfoldable pub subset_of : List ℕ → ℕ → List ℕ → ℕ → ℕ → Bool
subset_of w first v second zero = true
subset_of w first v second (suc k) =
    eqb (bit_and (get_or w (first + k) 0) (get_or v (second + k) 0)) (get_or w (first + k) 0) && subset_of w first v second k
