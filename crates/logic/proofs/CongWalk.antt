-- How many links the walk over three lists reads.
--     walk_at_most, walk_exactly     of any three lists
--     cong_at_most, cong_exactly     THE THEOREMS: of CONG's
--     lengths_short                  the three lengths are at most three times the links of the bundle
use mathlib.Core.Path.{◌≡◌, refl}
use mathlib.Core.Bool.{Bool, true, false, cond, false≢true}
use mathlib.Core.List.{List, [], ◌∷◌}
use Prim.Native.Nat.{ℕ, ◌+◌, ◌*◌, ◌≤◌}
use native.Mathlib.Omega.{arith}
use lib.ListN.{length}
use Rattle.logic.proofs.Tests.{and_left, and_right}
use Rattle.bundle.specs.Bundle.{Bundle, Step, term_of}
use Rattle.bundle.specs.Links.{items}
use Rattle.bundle.proofs.Chains.{chain_short}
use Rattle.logic.specs.Tests.{passed}
use Rattle.logic.specs.Rules.{carries, left_over, left_over_links, walk_by, head_tests, arguments_walk, cong_walk_by, three_lengths}
use Rattle.logic.specs.Statements.{WalkAtMost, WalkExactly}

left_at_most : (body : Bool) (ps : List ℕ) → left_over_links body ps ≤ length ps
unfolding left_over_links
left_at_most false ps = omega arith
left_at_most true [] = omega arith
left_at_most true (p ∷ ps) = omega arith

left_exactly : (body : Bool) (ps : List ℕ) → left_over body ps ≡ true → left_over_links body ps ≡ length ps
unfolding left_over left_over_links
left_exactly false [] e = refl
left_exactly false (p ∷ ps) e = absurd (false≢true e)
left_exactly true [] e = absurd (false≢true e)
left_exactly true (p ∷ []) e = refl
left_exactly true (p ∷ q ∷ ps) e = absurd (false≢true e)

only_if_le : (good : Bool) (n m : ℕ) → n ≤ m → cond good n 0 ≤ m
only_if_le true n m h = h
only_if_le false n m h = omega arith

module _ (step : ℕ → Step) (body : Bool) (c : ℕ) where
  pub walk_at_most : (ls rs ps : List ℕ) → (walk_by step body c ls rs ps).links ≤ length ls + length rs + length ps
  unfolding walk_by
  walk_at_most [] [] ps = omega (arith, left_at_most body ps)
  walk_at_most [] (r ∷ rs) ps = omega arith
  walk_at_most (l ∷ ls) [] ps = omega arith
  walk_at_most (l ∷ ls) (r ∷ rs) [] = omega arith
  walk_at_most (l ∷ ls) (r ∷ rs) (p ∷ ps) =
      omega (
        arith,
        only_if_le (carries (step p) c l r) (walk_by step body c ls rs ps).links (length ls + length rs + length ps) (walk_at_most ls rs ps),
      )

  pub walk_exactly : (ls rs ps : List ℕ) → (walk_by step body c ls rs ps).passes ≡ true
      → (walk_by step body c ls rs ps).links ≡ length ls + length rs + length ps
  unfolding walk_by
  walk_exactly [] [] ps e = omega (arith, left_exactly body ps e)
  walk_exactly [] (r ∷ rs) ps e = absurd (false≢true e)
  walk_exactly (l ∷ ls) [] ps e = absurd (false≢true e)
  walk_exactly (l ∷ ls) (r ∷ rs) [] e = absurd (false≢true e)
  walk_exactly (l ∷ ls) (r ∷ rs) (p ∷ ps) e =
      let good : Bool = carries (step p) c l r in
      rw (and_left good (walk_by step body c ls rs ps).passes e)
      (omega (arith, walk_exactly ls rs ps (and_right good (walk_by step body c ls rs ps).passes e)))

pub cong_at_most : WalkAtMost
unfolding cong_walk_by
cong_at_most step b s =
    only_if_le (passed (head_tests b s)) (arguments_walk step b s).links (three_lengths b s)
    (walk_at_most step false s.context (items b (term_of b s.left).b) (items b (term_of b s.right).b) (items b s.premises))

pub cong_exactly : WalkExactly
unfolding cong_walk_by
cong_exactly step b s e =
    rw (and_left (passed (head_tests b s)) (arguments_walk step b s).passes e)
    (walk_exactly step false s.context (items b (term_of b s.left).b) (items b (term_of b s.right).b) (items b s.premises)
    (and_right (passed (head_tests b s)) (arguments_walk step b s).passes e))

items_short : (b : Bundle) (s : ℕ) → length (items b s) ≤ length b.links
unfolding items
items_short b s = chain_short b.links s

pub lengths_short : (b : Bundle) (s : Step) → three_lengths b s ≤ 3 * length b.links
lengths_short b s =
    omega (arith, items_short b (term_of b s.left).b, items_short b (term_of b s.right).b, items_short b s.premises)
