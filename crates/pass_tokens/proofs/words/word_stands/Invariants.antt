-- `words::word_stands` meets its contract. The invariant: the first k bytes of the word stand there.
use Rattle.pass_tokens.proofs.RunLaws.{Matching}
use Rattle.pass_tokens.proofs.words.word_stands.Given as goal

abbrev pub invariant-loop-k : goal.invariant-loop-k
invariant-loop-k l = Matching l.text l.start l.spelled l.k
