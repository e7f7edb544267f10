-- Lists of records' numbers, 1 to n, along a walk over links in a file.
--     each_nil, each_here, each_on   the walk has ended; is at an item that is no number; goes on past one that is
--     each_up                        what is 1 to n is 1 to a greater number
--     both_some                      the test of a walk over so many links: two numbers that are not 0
use mathlib.Core.Path.{◌≡◌, refl}
use mathlib.Core.Bool.{true, false, not, ◌&&◌, ◌||◌}
use mathlib.Core.List.{List, [], ◌∷◌}
use Prim.Native.Nat.{ℕ, ◌≤◌}
use native.Mathlib.Omega.{arith}
use lib.ListN.{length}
use lib.Dec.{eqb, ltb, leb}
use borrow.Author.Tests.{eqb-false, leb-true, le-leb, not-true}
use Rattle.std.proofs.lemmas.Bool.{and_parts}
use Rattle.bundle.specs.Bundle.{Bundle, link_of}
use Rattle.bundle.specs.Links.{items, next_of}
use Rattle.bundle.specs.Lists.{numbers, each}
use Rattle.bundle.proofs.Walks.{walk_nil, walk_cons, walk_some, numbers_not}

module _ (b : Bundle) (n : ℕ) (i : ℕ) where
  pub each_nil : i ≡ 0 → each (numbers n) (items b i) ≡ true
  unfolding each
  each_nil z = rw (walk_nil b i z)

  -- at a link with the item x: it is not 1 to n, or the walk goes on
  pub each_here : (x : ℕ) → (i ≡ 0 → ⊥) → i ≤ length b.links → x ≡ (link_of b i).value → (eqb x 0 || ltb n x) ≡ true
      → each (numbers n) (items b i) ≡ false
  unfolding each
  each_here x ne few value bad = rw (walk_some b i ne few, ← value, numbers_not, bad)

  pub each_on : (x r : ℕ) → (i ≡ 0 → ⊥) → i ≤ length b.links → x ≡ (link_of b i).value → r ≡ next_of b.links i → (eqb x 0 || ltb n x) ≡ false
      → each (numbers n) (items b i) ≡ each (numbers n) (items b r)
  unfolding each
  each_on x r ne few value next good = rw (walk_cons b i x r ne few value next, numbers_not, good)

pub each_up : (n m : ℕ) (xs : List ℕ) → n ≤ m → each (numbers n) xs ≡ true → each (numbers m) xs ≡ true
unfolding each
each_up n m [] h e = refl
each_up n m (x ∷ xs) h e =
    let all : (numbers n x ≡ true) × (each (numbers n) xs ≡ true) = and_parts (numbers n x) (each (numbers n) xs) e in
    let one : (ltb 0 x ≡ true) × (leb x n ≡ true) = and_parts (ltb 0 x) (leb x n) all.0 in
    let low : x ≤ m = omega (arith, leb-true x n one.1) in
    rw (one.0, le-leb x m low) (each_up n m xs h all.1)

pub both_some : (i j : ℕ) → (not (eqb i 0) && not (eqb j 0)) ≡ true → (i ≡ 0 → ⊥) × (j ≡ 0 → ⊥)
both_some i j e =
    let some = and_parts (not (eqb i 0)) (not (eqb j 0)) e in
    (eqb-false i 0 (not-true (eqb i 0) some.0), eqb-false j 0 (not-true (eqb j 0) some.1))
