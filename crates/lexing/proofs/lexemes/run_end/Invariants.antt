-- `lexemes::run_end` meets its contract. The invariant: the bytes up to j are in the run.
use Rattle.lexing.proofs.SkipLaws.{Running}
use Rattle.lexing.proofs.lexemes.run_end.Given as goal

abbrev pub invariant-loop-j : goal.invariant-loop-j
invariant-loop-j l = Running l.text l.j
