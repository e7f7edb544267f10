-- Free variables and terms in scope, as words that may hold anything have them.
--     numbers_past                      a number past the last is none
--     free_zero, free_past, free_some   a number that is no term's has no free variables; a term's are the members of its set
--     scope_part                        terms in scope, by parts of the words
--     set_within                        the set of a term stands within the words
--     known_room                        where there is room for all contexts there is for one
use mathlib.Core.Path.{◌≡◌, refl, ◌∙◌}
use mathlib.Core.Bool.{Bool, true, false, ◌&&◌}
use mathlib.Core.List.{List}
use Prim.Native.Nat.{ℕ, ◌+◌, ◌*◌, ◌-◌, ◌≤◌, ◌<◌}
use native.Mathlib.Omega.{arith}
use native.Mathlib.Nat.{mul-le-mul_left}
use lib.ListN.{length, get_or, take, drop}
use lib.Seq.{get_or-take, get_or-drop}
use lib.Dec.{ltb, leb}
use borrow.Author.Tests.{lt-leb}
use Rattle.bundle.specs.Lists.{numbers}
use Rattle.bundle.proofs.Fields.{record_within}
use Rattle.sets.specs.Sets.{member, subset_of}
use Rattle.sets.proofs.Subsets.{subset_part}
use Rattle.logic.proofs.Tests.{numbers_in}
use Rattle.free_variables.specs.TermSets.{TermSets, in_scope_among, free_in}

pub numbers_past : (n t : ℕ) → n < t → numbers n t ≡ false
numbers_past n t h = go (ltb 0 t)
  where
    go : (p : Bool) → (p && leb t n) ≡ false
    go true = lt-leb t n h
    go false = refl

module _ (s : TermSets) (t v : ℕ) where
  pub free_zero : t ≡ 0 → free_in s t v ≡ false
  unfolding free_in
  free_zero e = rw e

  pub free_past : length s.bundle.terms < t → free_in s t v ≡ false
  unfolding free_in
  free_past h = rw (numbers_past (length s.bundle.terms) t h)

  pub free_some : (t ≡ 0 → ⊥) → t ≤ length s.bundle.terms → free_in s t v ≡ member s.words (s.n * (t - 1)) s.n v
  unfolding free_in
  free_some some few = rw (numbers_in (length s.bundle.terms) t (omega arith) few)

-- the set of term t and that at `at`, by parts of the words that start where they do
module _ (terms : ℕ) (w : List ℕ) (n : ℕ) (m : List ℕ) (at t : ℕ) where
  pub scope_part : (t ≡ 0 → ⊥) → t ≤ terms → (l m' : ℕ) → n ≤ l → n ≤ m'
      → subset_of (take l (drop (n * (t - 1)) w)) 0 (take m' (drop at m)) 0 n ≡ in_scope_among terms w n m at t
  unfolding in_scope_among
  scope_part some few l m' long-l long-m =
      rw (numbers_in terms t (omega arith) few)
      (subset_part w (take l (drop (n * (t - 1)) w)) 0 (n * (t - 1)) m (take m' (drop at m)) 0 at n
      (λ k h. part w (n * (t - 1)) l k (omega arith)) (λ k h. part m at m' k (omega arith)))
    where
      part : (v : List ℕ) (from l k : ℕ) → k < l → get_or (take l (drop from v)) (0 + k) 0 ≡ get_or v (from + k) 0
      part v from l k h =
          let z : 0 + k ≡ k = omega arith in
          rw z (get_or-take l (drop from v) k 0 h ∙ get_or-drop from v k 0)

pub set_within : (n terms t length : ℕ) → n * terms ≤ length → (t ≡ 0 → ⊥) → t ≤ terms → n * (t - 1) + n ≤ length
set_within n terms t length long some few = omega (arith, record_within n terms t some few)

pub known_room : (n k contexts length : ℕ) → k ≤ contexts → n * (contexts + 1) ≤ length → n * (k + 1) ≤ length
known_room n k contexts length few long =
    let more : k + 1 ≤ contexts + 1 = omega arith in
    omega (arith, mul-le-mul_left n more)
