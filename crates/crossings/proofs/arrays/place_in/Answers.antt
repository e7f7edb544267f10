-- `arrays::place_in` meets its contract: the place of the variable, where it is one.
use native.Mathlib.Omega.{arith}
use mathlib.Core.Path.{sym}
use Rattle.crossings.proofs.Stamps.{stamp_past}
use Rattle.crossings.proofs.arrays.place_in.Goals as goal

pub returns-then-x-eq0 : goal.returns-then-x-eq0
returns-then-x-eq0 c ys half = sym (stamp_past _ ys half.known _ (λ h. omega (arith, h.0, c.if-x-eq0.true)))

pub returns-then-x-half : goal.returns-then-x-half
returns-then-x-half c ys half = sym (stamp_past _ ys half.known _ (λ h. omega (arith, h.1, c.if-x-half.true)))
