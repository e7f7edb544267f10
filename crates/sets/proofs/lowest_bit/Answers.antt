-- `sets::lowest_bit` meets its contract: the trailing zeros of the word shifted right by k.
use mathlib.Core.Path.{◌≡◌, sym, ap, ◌∙◌}
use Prim.Native.Nat.{ℕ, ◌+◌, ◌-◌, ◌/◌, ◌^◌}
use native.Mathlib.Omega.{arith}
use lib.Count.{count_trailing_zeros}
use Rattle.sets.specs.Sets.{bit_at}
use Rattle.sets.proofs.Digits.{bit_shift, trailing_below, trailing_here}
use Rattle.sets.proofs.lowest_bit.Goals as goal

pub returns : goal.returns
returns c =
    let x = c.args.x in
    let k = c.args.k in
    let y : ℕ = x / 2 ^ k in
    record {
      from = omega arith;
      below =
          λ j l h.
          let p : k + (j - k) ≡ j = omega arith in
          ap (bit_at x) (sym p) ∙ sym (bit_shift x k (j - k)) ∙ trailing_below 64 y (j - k) (omega arith);
      here = λ h. sym (bit_shift x k (count_trailing_zeros 64 y)) ∙ trailing_here 64 y (omega arith);
    }
