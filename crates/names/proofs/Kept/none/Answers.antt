-- `Kept::none` meets its contract.
use native.Mathlib.Omega.{arith}
use Prim.Native.Nat.{◌+◌}
use Rattle.std.proofs.lemmas.List.{get_or-replicate}
use Rattle.bundle.specs.Limits.{limits}
use Rattle.names.proofs.Kept.none.Goals as goal

pub returns : goal.returns
returns c x up = get_or-replicate (limits.variables + 1) x _ _ (omega (arith, up))
