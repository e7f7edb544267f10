-- `runs::run_end` meets its contract. The invariant: so far all are symbol characters.
use Rattle.spots.proofs.RunLaws.{Running}
use Rattle.scanning.proofs.runs.run_end.Given as goal

abbrev pub invariant-loop-j : goal.invariant-loop-j
invariant-loop-j l = Running l.text l.from l.j
