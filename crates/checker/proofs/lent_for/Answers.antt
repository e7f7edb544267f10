-- `lent_for` meets its contract: the test of the length is that of `lent_for`, and word 3 is the number of terms.
use borrow.Author.Tests.{le-leb, lt-leb}
use Rattle.judgement.specs.Judge.{lent_for}
use Rattle.checker.proofs.lent_for.Goals as goal

pub returns-then-file-lt-LEAST : goal.returns-then-file-lt-LEAST
unfolding lent_for
returns-then-file-lt-LEAST c = rw (lt-leb _ _ c.if-file-lt-LEAST.true)

pub returns : goal.returns
unfolding lent_for
returns c = rw (le-leb _ _ c.if-file-lt-LEAST.false, c.word_at.ensures.0)
