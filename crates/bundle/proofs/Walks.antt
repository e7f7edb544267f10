-- The laws of BundleWalks, said of a bundle by the lengths of its lists; and two tests of loops.
--     numbers_not               tests of code as tests of specs/
--     next_is, next_on                   the link after a link, from its next as it was read
use mathlib.Core.Path.{◌≡◌, refl, ◌∙◌}
use mathlib.Core.List.{[], ◌∷◌}
use mathlib.Core.Bool.{Bool, true, false, not, ◌||◌, and-false}
use Prim.Native.Nat.{ℕ, ◌+◌, ◌<◌, ◌≤◌}
use native.Mathlib.Omega.{arith}
use lib.ListN.{length}
use lib.Dec.{eqb, ltb}
use borrow.Author.Tests.{eqb-true, eqb-false, ltb-true, ltb-false, lt-ltb, le-ltb, lt-leb, le-leb}
use Rattle.bundle.specs.Bundle.{Bundle, link_of}
use Rattle.bundle.specs.Links.{items, follows, next_of, starts_at}
use Rattle.bundle.specs.Lists.{same_list, numbers}
use Rattle.bundle.proofs.Fields.{own_sized}
use Rattle.bundle.proofs.BundleWalks as any

-- a number is a record's where it is neither 0 nor past the last
pub numbers_not : (n x : ℕ) → numbers n x ≡ not (eqb x 0 || ltb n x)
numbers_not n x = go (eqb x 0) refl (ltb n x) refl
  where
    go : (p : Bool) → eqb x 0 ≡ p → (q : Bool) → ltb n x ≡ q → numbers n x ≡ not (p || q)
    go true d q e = let z : x ≤ 0 = omega (arith, eqb-true x 0 d) in rw (le-ltb 0 x z)
    go false d true e = let z : n < x = ltb-true n x e in rw (lt-leb x n z) (and-false (ltb 0 x))
    go false d false e =
        let z : x ≡ 0 → ⊥ = eqb-false x 0 d in
        let u : x ≤ n = ltb-false n x e in
        let l : 0 < x = omega arith in
        rw (lt-ltb 0 x l, le-leb x n u)

module _ (b : Bundle) where
  pub walk_start : (s r : ℕ) → r ≡ starts_at (length b.links) s → items b s ≡ items b r
  walk_start = any.walk_start (own_sized b)

  pub walk_start_le : (s r : ℕ) → r ≡ starts_at (length b.links) s → r ≤ length b.links
  walk_start_le = any.walk_start_le (own_sized b)

  pub walk_le : (i r : ℕ) → r ≡ next_of b.links i → r ≤ length b.links
  walk_le = any.walk_le (own_sized b)

  pub walk_up : (i r : ℕ) → r ≡ next_of b.links i → (r ≡ 0 → ⊥) → i < r
  walk_up = any.walk_up (own_sized b)

  pub walk_nil : (i : ℕ) → i ≡ 0 → items b i ≡ []
  walk_nil = any.walk_nil (own_sized b)

  pub walk_past : (i : ℕ) → length b.links < i → items b i ≡ []
  walk_past = any.walk_past (own_sized b)

  pub walk_cons : (i v r : ℕ) → (i ≡ 0 → ⊥) → i ≤ length b.links → v ≡ (link_of b i).value → r ≡ next_of b.links i
      → items b i ≡ v ∷ items b r
  walk_cons = any.walk_cons (own_sized b)

  pub walk_some : (i : ℕ) → (i ≡ 0 → ⊥) → i ≤ length b.links → items b i ≡ (link_of b i).value ∷ items b (next_of b.links i)
  walk_some = any.walk_some (own_sized b)

  pub walk_length : (i r : ℕ) → (i ≡ 0 → ⊥) → i ≤ length b.links → r ≡ next_of b.links i
      → length (items b i) ≡ length (items b r) + 1
  walk_length = any.walk_length (own_sized b)

  pub nil_same : (j : ℕ) → j ≤ length b.links → same_list [] (items b j) ≡ eqb j 0
  nil_same = any.nil_same (own_sized b)

  pub next_is : (i : ℕ) {next r : ℕ} → next ≡ (link_of b i).next → r ≡ follows (length b.links) i next → r ≡ next_of b.links i
  next_is i d e = e ∙ rw d

  -- a next that rises within the links is the link after
  pub next_on : (i : ℕ) {next : ℕ} → next ≡ (link_of b i).next → i < next → next ≤ length b.links → next ≡ next_of b.links i
  unfolding follows
  next_on i {next} d l h = next_is i d (rw (lt-ltb i next l, le-leb next (length b.links) h))
