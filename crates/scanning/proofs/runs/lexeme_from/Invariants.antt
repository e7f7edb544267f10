-- `runs::lexeme_from` meets its contract. The invariant: so far there are blanks alone.
use Rattle.spots.proofs.RunLaws.{Skipping}
use Rattle.scanning.proofs.runs.lexeme_from.Given as goal

abbrev pub invariant-loop-j : goal.invariant-loop-j
invariant-loop-j l = Skipping l.text l.from l.j l.comment
