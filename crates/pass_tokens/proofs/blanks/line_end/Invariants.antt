-- `blanks::line_end` meets its contract. The invariant: the comment goes on up to j.
use Rattle.pass_tokens.proofs.BlankLaws.{Commenting}
use Rattle.pass_tokens.proofs.blanks.line_end.Given as goal

abbrev pub invariant-loop-j : goal.invariant-loop-j
invariant-loop-j l = Commenting l.text l.i l.j
