-- `heads::all_declared` meets its contract. The invariant: all pairs pass where those that are left do. The measure is what is left of the text.
use lib.ListN.{length}
use Rattle.bracketing.specs.Nodes.{as_declared}
use Rattle.node_tests.proofs.HeadLaws.{Passing}
use Rattle.node_tests.proofs.heads.all_declared.Given as goal

abbrev pub invariant-loop-rest : goal.invariant-loop-rest
invariant-loop-rest l = Passing (as_declared l.bundle) l.text l.rest

abbrev pub decreases-loop-rest : goal.decreases-loop-rest
decreases-loop-rest l = length l.rest
