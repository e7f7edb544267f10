-- `turns::next` meets its contract. The invariant: what is left to do on the path is the whole, with room for it. The measure is the height: each turn that
-- does not end the loop takes a frame off.
use lib.ListN.{length}
use Rattle.pair_walk.proofs.Turning.{Going}
use Rattle.pair_walk.proofs.turns.next.Given as goal

abbrev pub invariant-loop-top : goal.invariant-loop-top
invariant-loop-top l = Going l.initial.path l.path l.left

abbrev pub decreases-loop-top : goal.decreases-loop-top
decreases-loop-top l = length l.path.frames
