-- The end of a walk over items.
--     ended   where one of two lists has ended, the other has where its walk gives nothing
use Prim.Native.Nat.{ℕ}
use mathlib.Core.Path.{◌≡◌, sym}
use mathlib.Core.Bool.{Bool, true, false, not, false≢true}
use mathlib.Core.List.{List, []}
use Rattle.std.proofs.Common.{Some, None}
use Rattle.std.specs.Prelude.{Option}
use Rattle.std.specs.Option.{is_some}
use Rattle.std.specs.Iterator.{YieldsFirst}
use Rattle.bundle.specs.Lists.{same_list}

pub ended : (r : Option ℕ) (xs rest : List ℕ) (none : Bool) → YieldsFirst {S = List ℕ} (λ s. s) xs r rest → is_some r ≡ not none
    → none ≡ same_list [] xs
unfolding same_list
ended None xs rest true y e = rw y.0
ended None xs rest false y e = absurd (false≢true e)
ended (Some x) xs rest true y e = absurd (false≢true (sym e))
ended (Some x) xs rest false y e = rw y
