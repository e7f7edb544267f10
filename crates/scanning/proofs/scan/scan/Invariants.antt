-- `scan::scan` meets its contract. The invariant: the verdict is that of the rest of the text, from where the scan stands.
use Prim.Native.Nat.{◌-◌}
use mathlib.Core.Path.{◌≡◌}
use lib.ListN.{length}
use Rattle.spots.specs.Judgement.{declared_by}
use Rattle.spots.proofs.ScanLaws.{Passing}
use Rattle.scanning.proofs.scan.scan.Given as goal

abbrev pub invariant-loop-i : goal.invariant-loop-i
invariant-loop-i l = Passing (declared_by l.symbols l.variables) l.text l.area l.p l.i × (length l.area ≡ length l.initial.area)

abbrev pub decreases-loop-i : goal.decreases-loop-i
decreases-loop-i l = length l.text - l.i
