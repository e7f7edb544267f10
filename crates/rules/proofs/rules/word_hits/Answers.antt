-- `rules::word_hits` meets its contract.
use native.Mathlib.Omega.{arith}
use native.Mathlib.Decide.{ℕ_discrete, dec_lt}
use Prim.Native.Nat.{ℕ, ◌+◌, ◌-◌, ◌≤◌, ◌<◌, ◌^◌}
use mathlib.Core.Path.{◌≡◌, sym, ◌∙◌}
use mathlib.Core.Bool.{Bool, true, false, not, ◌&&◌, false≢true}
use lib.Dec.{eqb}
use borrow.Author.Tests.{eq-eqb, ne_eqb}
use lib.Count.{count_trailing_zeros}
use lib.ListN.{length}
use Rattle.sets.specs.Sets.{bit_at, without_bit, LeastBit}
use Rattle.sets.proofs.Digits.{bit_without, bit_none, bits_same, trailing_below, trailing_here}
use Rattle.images.specs.ContextRows.{image_at}
use Rattle.free_variables.specs.TermSets.{free_in}
use Rattle.rules.specs.WordSides.{hit_by, WordApart}
use Rattle.rules.proofs.rules.word_hits.Invariants.{Left}
use Rattle.rules.proofs.rules.word_hits.Goals as goal

module _ (x r : ℕ) (next : LeastBit x 0 r) where
  -- the bits below the lowest are none
  below : (i : ℕ) → i < r → bit_at x i ≡ false
  below i low = next.below i (omega arith) low

  -- a word that is not 0 has a bit
  small : x < 2 ^ 64 → (x ≡ 0 → ⊥) → r < 64
  small fits some = go (dec_lt r 64)
    where
      go : Dec (r < 64) → r < 64
      go (yes l) = l
      go (no l) = absurd (some (bits_same 64 x 0 fits (omega arith) (λ i low. below i (omega arith) ∙ sym (bit_none i))))

  -- with the lowest bit taken out, the lowest is a higher one
  rises : r < 64 → 64 - count_trailing_zeros 64 (without_bit x r) < 64 - count_trailing_zeros 64 x
  rises low =
      let y : ℕ = without_bit x r in
      let first : ℕ = count_trailing_zeros 64 x in
      let second : ℕ = count_trailing_zeros 64 y in
      let from : r < first → ⊥ = λ l. false≢true (sym (trailing_below 64 x r l) ∙ next.here low) in
      let to : second ≤ r → ⊥ = λ l. false≢true (sym (gone second l (ℕ_discrete second r)) ∙ trailing_here 64 y (omega (arith, low))) in
      omega (arith, from, to)
    where
      gone : (i : ℕ) → i ≤ r → Dec (i ≡ r) → bit_at (without_bit x r) i ≡ false
      gone i l (yes q) = bit_without x r i ∙ rw (eq-eqb i r q)
      gone i l (no q) = bit_without x r i ∙ rw (ne_eqb i r q) (below i (omega arith))

module _ (word base last : ℕ) (hit : ℕ → Bool) (x : ℕ) (so : Left word base last hit x) where
  -- where no bit is left that matters, no variable is hit
  none_left : ((i : ℕ) → i < 64 → base + 1 + i ≤ last → bit_at x i ≡ false) → WordApart word base last hit
  none_left out i low few e = so.apart i low few e (out i low few)

  -- a bit taken out, where its variable is not hit
  left_on : (r : ℕ) → without_bit x r < 2 ^ 64 → hit (base + 1 + r) ≡ false → Left word base last hit (without_bit x r)
  left_on r fits here = record {
    fits = fits;
    part = λ i e. so.part i (kept i (ℕ_discrete i r) (sym (bit_without x r i) ∙ e));
    apart = λ i low few e gone. go i low few e (ℕ_discrete i r) (sym (bit_without x r i) ∙ gone);
  }
    where
      kept : (i : ℕ) → Dec (i ≡ r) → (not (eqb i r) && bit_at x i) ≡ true → bit_at x i ≡ true
      kept i (yes q) e = absurd (false≢true (rw (eq-eqb i r q) at e))
      kept i (no q) e = rw (ne_eqb i r q) at e

      go : (i : ℕ) → i < 64 → base + 1 + i ≤ last → bit_at word i ≡ true → Dec (i ≡ r) → (not (eqb i r) && bit_at x i) ≡ false → hit (base + 1 + i) ≡ false
      go i low few e (yes q) gone = rw q here
      go i low few e (no q) gone = so.apart i low few e (rw (ne_eqb i r q) at gone)

pub overflow_add-z-in-loop-left : goal.overflow_add-z-in-loop-left
overflow_add-z-in-loop-left c =
    let r = c.lowest_bit-i in
    omega (arith, small c.loop-left.left r.result r.ensures c.loop-left.invariant.fits c.loop-left-test.true)

pub returns-then-free_in_image : goal.returns-then-free_in_image
returns-then-free_in_image c =
    let l = c.loop-left in
    let r = c.lowest_bit-i in
    let low : r.result < 64 = small l.left r.result r.ensures l.invariant.fits c.loop-left-test.true in (
      (λ e. absurd (false≢true (sym e))),
      (λ e. record {
        j = r.result;
        low = low;
        few = omega (arith, rw c.bundle-bundle.ensures at c.variables.ensures.0);
        member = l.invariant.part r.result (r.ensures.here low);
        here = rw (← (rw (c.variables-in-loop-left.ensures.0, c.bundle-bundle.ensures) at c.image_of-image.ensures), ← c.free_in_image.ensures, c.if-free_in_image.true);
      }),
    )

pub without_bit-left-requires : goal.without_bit-left-requires
without_bit-left-requires c =
    let r = c.lowest_bit-i in
    small c.loop-left.left r.result r.ensures c.loop-left.invariant.fits c.loop-left-test.true

pub loop-left-smaller : goal.loop-left-smaller
loop-left-smaller c =
    let l = c.loop-left in
    let r = c.lowest_bit-i in
    rw c.without_bit-left.ensures (rises l.left r.result r.ensures (small l.left r.result r.ensures l.invariant.fits c.loop-left-test.true))

pub loop-left-preserved : goal.loop-left-preserved
loop-left-preserved c =
    let a = c.args in
    let last : ℕ = length a.sets.now.bundle.variables in
    let hit = hit_by (free_in a.sets.now) (image_at last a.images.now a.context) a.y in
    let l = c.loop-left in
    let r = c.lowest_bit-i in
    rw c.without_bit-left.ensures
    (left_on a.word a.base last hit l.left l.invariant r.result (omega (arith, c.without_bit-left.ensures))
    (rw (← (rw (c.variables-in-loop-left.ensures.0, c.bundle-bundle.ensures) at c.image_of-image.ensures), ← c.free_in_image.ensures, c.if-free_in_image.false)))
