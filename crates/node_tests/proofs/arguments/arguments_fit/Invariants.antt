-- `arguments::arguments_fit` meets its contract. The invariant: all fit where those that are left do.
use Rattle.node_tests.proofs.ArgumentLaws.{Fits}
use Rattle.node_tests.proofs.arguments.arguments_fit.Given as goal

abbrev pub invariant-loop-sort : goal.invariant-loop-sort
invariant-loop-sort l = Fits l.bundle l.text l.list l.sort-iterator l.rest
