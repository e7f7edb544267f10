-- An area cleared from end to end.
--     all_cleared     it is zeros
use Prim.Native.Nat.{ℕ, ◌+◌, ◌<◌}
use mathlib.Core.Path.{◌≡◌, sym, ◌∙◌}
use mathlib.Core.List.{List}
use native.Mathlib.Omega.{arith}
use lib.ListN.{length, get_or, replicate, length-replicate, get_or-replicate}
use lib.Seq.{ext_get_or}
use Rattle.sets.specs.Sets.{cleared}
use Rattle.sets.proofs.Members.{filled_length, filled_in}

pub all_cleared : (w : List ℕ) → cleared w 0 (length w) ≡ replicate (length w) 0
all_cleared w =
    ext_get_or 0 (cleared w 0 (length w)) (replicate (length w) 0) (same_long ∙ sym (length-replicate (length w) 0))
    (λ i h. zero_at i (omega (arith, same_long)))
  where
    same_long : length (cleared w 0 (length w)) ≡ length w
    same_long = filled_length (λ k. 0) w 0 (length w)

    zero_at : (i : ℕ) → i < length w → get_or (cleared w 0 (length w)) i 0 ≡ get_or (replicate (length w) 0) i 0
    zero_at i h =
        let place : 0 + i ≡ i = omega arith in
        (rw place at (filled_in (λ k. 0) w 0 (length w) i (omega arith) h)) ∙ sym (get_or-replicate (length w) i 0 0 h)
