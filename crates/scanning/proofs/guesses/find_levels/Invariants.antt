-- `guesses::find_levels` meets its contract. The invariant: on the way to the stand at byte `stop`, all is taken for what it was.
use Prim.Native.Nat.{◌-◌}
use mathlib.Core.Path.{◌≡◌}
use lib.ListN.{length}
use Rattle.spots.proofs.GuessLaws.{Seeking}
use Rattle.scanning.proofs.guesses.find_levels.Given as goal

abbrev pub invariant-loop-i : goal.invariant-loop-i
invariant-loop-i l = Seeking l.text l.area l.low l.top l.stop l.g.depth l.g.spot l.i × (length l.area ≡ length l.initial.area)

abbrev pub decreases-loop-i : goal.decreases-loop-i
decreases-loop-i l = length l.text - l.i
