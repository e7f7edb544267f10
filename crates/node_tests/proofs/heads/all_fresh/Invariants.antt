-- `heads::all_fresh` meets its contract. The invariant: all bindings are fresh where those that are left are, with the variables so far as seen.
-- The measure is what is left of the text.
use lib.ListN.{length}
use Rattle.node_tests.proofs.HeadLaws.{Fresh}
use Rattle.node_tests.proofs.heads.all_fresh.Given as goal

abbrev pub invariant-loop-rest : goal.invariant-loop-rest
invariant-loop-rest l = Fresh l.bundle l.text l.initial.seen l.rest l.seen

abbrev pub decreases-loop-rest : goal.decreases-loop-rest
decreases-loop-rest l = length l.rest
