-- The tests of a job after 1 to 9, as the code makes them.
--     all_up_to                                         a test of every variable, from the first one on
--     closed_is                                         17, by the free sets in the lent words
--     not_empty_lem, not_known, not_closed, all_hold    18, 15, 17 and none
use Prim.Native.Nat.{ℕ, zero, suc, ◌+◌, ◌*◌, ◌≤◌}
use native.Mathlib.Omega.{arith}
use native.Mathlib.Numerals.{add-one}
use mathlib.Core.Path.{◌≡◌, refl, sym, ap, ◌∙◌}
use mathlib.Core.Bool.{Bool, true, false, cond, not, ◌&&◌, and-true}
use mathlib.Core.List.{List}
use lib.ListN.{length}
use lib.Dec.{eqb, ltb, leb}
use Rattle.bundle.specs.Bundle.{Bundle}
use Rattle.logic.specs.Tests.{passed, up_to, first_failing}
use Rattle.std.specs.List.{list_all, range_with_len}
use Rattle.logic.specs.Free.{free_at, free_area}
use Rattle.free_variables.specs.TermSets.{TermSets, free_in}
use Rattle.free_variables.proofs.FreeWords.{free_some}
use Rattle.free_variables.proofs.HeldSets.{free_sets}
use Rattle.expansion.specs.Expansion.{early_tests}

-- ---- a test of every variable

and_shift : (x y z : Bool) → (x && y && z) ≡ (y && (x && z))
and_shift true y z = refl
and_shift false true z = refl
and_shift false false z = refl

module _ (p : ℕ → Bool) where
  -- the numbers from a + 1 on, and those below
  all_from : (a n : ℕ) → (list_all p (range_with_len (a + 1) n) && up_to a p) ≡ up_to (a + n) p
  unfolding up_to
  all_from a zero = ap (λ k. up_to k p) {x = a} {y = a + 0} (omega arith)
  all_from a (suc n) =
      let here : up_to (a + 1) p ≡ (p (a + 1) && up_to a p) = simp add-one refl in
      let same : up_to (a + 1 + n) p ≡ up_to (a + suc n) p = ap (λ k. up_to k p) {x = a + 1 + n} {y = a + suc n} (omega arith) in
      and_shift (p (a + 1)) (list_all p (range_with_len (a + 1 + 1) n)) (up_to a p) ∙ rw (← here, all_from (a + 1) n, same)

  pub all_up_to : (n : ℕ) → list_all p (range_with_len 1 n) ≡ up_to n p
  unfolding up_to
  all_up_to n = sym (and-true _) ∙ all_from 0 n ∙ ap (λ k. up_to k p) {x = 0 + n} {y = n} (omega arith)

-- ---- the tests

module _ (b : Bundle) where
  abbrev empty : Bool
  empty = eqb (length b.contexts) 0 && eqb (length b.steps) 0 && eqb b.right 0

  abbrev known : Bool
  known = ltb 0 b.left && leb b.left (length b.terms)

  abbrev closed : Bool
  closed = up_to (length b.variables) (λ x. not (free_at b b.left x))

  -- w are the lent words with the free sets, n words each
  pub closed_is : (n m : ℕ) (w : List ℕ) {t : ℕ} → t ≡ b.left → 1 ≤ n → length b.variables ≤ 64 * n → n * length b.terms ≤ m
      → w ≡ free_area b n m → 1 ≤ t → t ≤ length b.terms
      → up_to (length b.variables) (λ x. not (free_in (record { bundle = b; words = w; n = n }) t x)) ≡ closed
  closed_is n m w {t} read one bits long area lo hi =
      let s : TermSets = record { bundle = b; words = w; n = n } in
      let sets = free_sets b n m w one bits long area in
      ap (up_to (length b.variables)) (λ i x. not ((free_some s t x (λ z. omega arith) hi ∙ sets.same t x lo hi) i))
      ∙ ap (λ (u : ℕ). up_to (length b.variables) (λ x. not (free_at b u x))) read

  early_is : first_failing (early_tests b) ≡ cond empty (cond known (cond closed 0 17) 15) 18
  unfolding first_failing passed
  early_is = refl

  pub not_empty_lem : empty ≡ false → 18 ≡ first_failing (early_tests b)
  not_empty_lem e = sym (early_is ∙ rw e)

  pub not_known : empty ≡ true → known ≡ false → 15 ≡ first_failing (early_tests b)
  not_known a e = sym (early_is ∙ rw (a, e))

  -- p is what the code answers for 17
  pub not_closed : (p : Bool) → p ≡ closed → empty ≡ true → known ≡ true → p ≡ false → 17 ≡ first_failing (early_tests b)
  not_closed p s a e g = sym (early_is ∙ rw (a, e, ← s, g))

  pub all_hold : (p : Bool) → p ≡ closed → empty ≡ true → known ≡ true → p ≡ true → 0 ≡ first_failing (early_tests b)
  all_hold p s a e g = sym (early_is ∙ rw (a, e, ← s, g))
