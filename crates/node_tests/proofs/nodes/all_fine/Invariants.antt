-- `nodes::all_fine` meets its contract. The invariant: all nodes pass where those from here on do. The measure is what is left of the text.
use lib.ListN.{length}
use Rattle.node_tests.proofs.NodeLaws.{AllFine}
use Rattle.node_tests.proofs.nodes.all_fine.Given as goal

abbrev pub invariant-loop-l : goal.invariant-loop-l
invariant-loop-l l = AllFine l.bundle l.text l.head l.rest

abbrev pub decreases-loop-l : goal.decreases-loop-l
decreases-loop-l l = length l.rest
