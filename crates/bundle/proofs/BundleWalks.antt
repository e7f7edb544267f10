-- What a walk over links knows, said of the lists of any bundle of known counts: the reasoning of every loop over links, with no code in it.
--     walk_start, walk_start_le          the link that a walk starts at, which is a link or 0
--     walk_le, walk_up                   each link that it goes on to is a link or 0; if it is not 0, it is above
--     walk_nil, walk_past                at 0, and past the last link, the list has ended
--     walk_cons, walk_some, walk_length  at a link it goes on with the link's value
--     nil_same, same_nil                 where one of two lists has ended
use mathlib.Core.Path.{◌≡◌, refl, sym, ap, ◌∙◌}
use mathlib.Core.List.{[], ◌∷◌}
use mathlib.Core.Bool.{Bool, true, false, cond}
use Prim.Native.Nat.{ℕ, zero, suc, ◌+◌, ◌<◌, ◌≤◌}
use native.Mathlib.Omega.{arith}
use lib.ListN.{length}
use lib.Dec.{eqb, leb, eqb-suc-zero}
use borrow.Author.Tests.{leb-true, leb-false}
use Rattle.bundle.specs.declared.Counts.{Counts}
use Rattle.bundle.specs.Bundle.{Bundle, link_of}
use Rattle.bundle.specs.Links.{chain, items, next_of, starts_at}
use Rattle.bundle.specs.Lists.{same_list}
use Rattle.bundle.proofs.Chains.{chain_nil, chain_past, chain_cons, next_le, next_up}
use Rattle.bundle.proofs.Fields.{Sized}

module _ {b : Bundle} {c : Counts} (z : Sized b c) where
  pub walk_start : (s r : ℕ) → r ≡ starts_at c.links s → items b s ≡ items b r
  unfolding starts_at items
  walk_start s r e = rw e (go (leb s c.links) refl)
    where
      go : (p : Bool) → leb s c.links ≡ p → chain b.links s ≡ chain b.links (cond p s 0)
      go true e = refl
      go false e = chain_past b.links s (omega (arith, leb-false s c.links e, z.links))

  pub walk_start_le : (s r : ℕ) → r ≡ starts_at c.links s → r ≤ c.links
  unfolding starts_at
  walk_start_le s r e = rw e (go (leb s c.links) refl)
    where
      go : (p : Bool) → leb s c.links ≡ p → cond p s 0 ≤ c.links
      go true e = leb-true s c.links e
      go false e = omega arith

  pub walk_le : (i r : ℕ) → r ≡ next_of b.links i → r ≤ c.links
  walk_le i r e = omega (arith, e, next_le b.links i, z.links)

  pub walk_up : (i r : ℕ) → r ≡ next_of b.links i → (r ≡ 0 → ⊥) → i < r
  walk_up i r e ne = rw e (next_up b.links i (λ n. ne (e ∙ n)))

  pub walk_nil : (i : ℕ) → i ≡ 0 → items b i ≡ []
  unfolding items
  walk_nil i e = rw e (chain_nil b.links)

  pub walk_past : (i : ℕ) → c.links < i → items b i ≡ []
  unfolding items
  walk_past i h = chain_past b.links i (rw z.links h)

  pub walk_cons : (i v r : ℕ) → (i ≡ 0 → ⊥) → i ≤ c.links → v ≡ (link_of b i).value → r ≡ next_of b.links i → items b i ≡ v ∷ items b r
  unfolding items
  walk_cons i v r ne h p q = rw (p, q) (chain_cons b.links i ne (rw z.links h))

  -- the same where the value or the next is of no account
  pub walk_some : (i : ℕ) → (i ≡ 0 → ⊥) → i ≤ c.links → items b i ≡ (link_of b i).value ∷ items b (next_of b.links i)
  walk_some i ne h = walk_cons i _ _ ne h refl refl

  pub walk_length : (i r : ℕ) → (i ≡ 0 → ⊥) → i ≤ c.links → r ≡ next_of b.links i → length (items b i) ≡ length (items b r) + 1
  walk_length i r ne h q = ap length (walk_cons i _ r ne h refl q) ∙ omega arith

  -- where one list has ended: the other has ended too
  pub nil_same : (j : ℕ) → j ≤ c.links → same_list [] (items b j) ≡ eqb j 0
  unfolding same_list
  nil_same zero h = rw (walk_nil 0 refl)
  nil_same (suc j) h = rw (walk_some (suc j) (λ z. omega arith) h) (sym (eqb-suc-zero j))

  pub same_nil : (j : ℕ) → j ≤ c.links → same_list (items b j) [] ≡ eqb j 0
  unfolding same_list
  same_nil zero h = rw (walk_nil 0 refl)
  same_nil (suc j) h = rw (walk_some (suc j) (λ z. omega arith) h) (sym (eqb-suc-zero j))
