-- `lexemes::skipped` meets its contract. The invariant: what the text spells is what stands from j on, between lexemes or in a comment.
use Rattle.lexing.proofs.SkipLaws.{Skipping}
use Rattle.lexing.proofs.lexemes.skipped.Given as goal

abbrev pub invariant-loop-j : goal.invariant-loop-j
invariant-loop-j l = Skipping l.text l.mode l.j
