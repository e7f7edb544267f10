-- What a context that passes check 10 is, by its kind.
--     refers_passed            a context with no fault passes it
--     lower_parent             its parent has a lower number
--     fixes_number             if it fixes, its variable is one
--     replaces_kind            if it does not fix, it replaces
--     replaces_lists           then its lists have variables, all different, and terms
use mathlib.Core.Path.{◌≡◌, refl, sym, ap, ◌∙◌}
use mathlib.Core.Bool.{Bool, true, false, false≢true}
use mathlib.Core.List.{[], ◌∷◌, map}
use Prim.Native.Nat.{ℕ, ◌≤◌, ◌<◌}
use native.Mathlib.Omega.{arith}
use native.Mathlib.Decide.{ℕ_discrete}
use lib.ListN.{length}
use lib.Dec.{eqb, ltb}
use borrow.Author.Tests.{ltb-true}
use Rattle.bundle.specs.Bundle.{Bundle, sort_of_variable, context_of}
use Rattle.bundle.specs.Links.{items}
use Rattle.bundle.specs.Lists.{numbers, each, different, same_list}
use Rattle.logic.specs.Tests.{passed, test, first_failing}
use Rattle.logic.specs.Sorts.{sort_at}
use Rattle.logic.specs.Checks.{starts_list, not_empty, lists_agree}
use Rattle.logic.specs.Contexts.{Entry, fixing, replacing, noEntry, entry_of, context_refers_as, context_refers, replacements_settled, context_fault}
use Rattle.logic.proofs.Tests.{passed_each, numbers_of_lem}
use Rattle.logic.proofs.Entries.{entry_none}

pub refers_passed : (b : Bundle) (k : ℕ) → context_fault b k ≡ 0 → context_refers b k ≡ true
unfolding context_fault first_failing
refers_passed b k e = go (context_refers b k) (replacements_settled b k) e
  where
    go : (p q : Bool) → first_failing (test 10 p ∷ test 11 q ∷ []) ≡ 0 → p ≡ true
    go true q e = refl
    go false q e = absurd (omega (arith, e))

module _ (b : Bundle) (k : ℕ) (good : context_refers b k ≡ true) where
  as_kind : (e : Entry) → entry_of (context_of b k).kind ≡ e → passed (context_refers_as b e k (context_of b k)) ≡ true
  unfolding context_refers
  as_kind e q = ap (λ (e : Entry). passed (context_refers_as b e k (context_of b k))) (sym q) ∙ good

  pub fixes_number : (context_of b k).kind ≡ 1 → (1 ≤ (context_of b k).a) × ((context_of b k).a ≤ length b.variables) × ((context_of b k).parent < k)
  unfolding context_refers_as entry_of
  fixes_number e =
      let h = passed_each (numbers (length b.variables) (context_of b k).a ∷ eqb (context_of b k).b 0 ∷ ltb (context_of b k).parent k ∷ [])
      (as_kind fixing (rw e)) in
      let n = numbers_of_lem (length b.variables) (context_of b k).a h.0 in
      (n.0, n.1, ltb-true (context_of b k).parent k h.1.1.0)

  pub replaces_kind : ((context_of b k).kind ≡ 1 → ⊥) → (context_of b k).kind ≡ 2
  unfolding context_refers_as passed
  replaces_kind ne = go (ℕ_discrete (context_of b k).kind 2)
    where
      go : Dec ((context_of b k).kind ≡ 2) → (context_of b k).kind ≡ 2
      go (yes q) = q
      go (no q) = absurd (false≢true (as_kind noEntry (entry_none (context_of b k).kind q ne)))

  pub replaces_lists : (context_of b k).kind ≡ 2
      → (each (numbers (length b.variables)) (items b (context_of b k).a) ≡ true)
      × (each (numbers (length b.terms)) (items b (context_of b k).b) ≡ true)
      × (different (items b (context_of b k).a) ≡ true)
      × ((context_of b k).parent < k)
  unfolding context_refers_as entry_of lists_agree
  replaces_lists e =
      let vs = items b (context_of b k).a in
      let ts = items b (context_of b k).b in
      let h = passed_each (
      starts_list b (context_of b k).a
      ∷ each (numbers (length b.variables)) vs
      ∷ starts_list b (context_of b k).b
      ∷ each (numbers (length b.terms)) ts
      ∷ lists_agree b vs ts
      ∷ ltb (context_of b k).parent k
      ∷ []
      ) (as_kind replacing (rw e)) in
      let g = passed_each (not_empty vs ∷ different vs ∷ same_list (map (sort_of_variable b) vs) (map (sort_at b) ts) ∷ []) h.1.1.1.1.0 in
      (h.1.0, h.1.1.1.0, g.1.0, ltb-true (context_of b k).parent k h.1.1.1.1.1.0)

  pub lower_parent : (context_of b k).parent < k
  lower_parent = go (ℕ_discrete (context_of b k).kind 1)
    where
      go : Dec ((context_of b k).kind ≡ 1) → (context_of b k).parent < k
      go (yes q) = (fixes_number q).2
      go (no q) = (replaces_lists (replaces_kind q)).3
