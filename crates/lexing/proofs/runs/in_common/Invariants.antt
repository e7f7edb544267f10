-- `runs::in_common` meets its contract. The invariant: the bytes so far are in common.
use Rattle.lexing.proofs.CommonLaws.{Shared}
use Rattle.lexing.proofs.runs.in_common.Given as goal

abbrev pub invariant-loop-j : goal.invariant-loop-j
invariant-loop-j l = Shared l.run l.other l.j
