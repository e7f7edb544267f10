-- `steps::later_pairs` meets its contract.
use borrow.Author.Tests.{eq-eqb, ne_eqb}
use Rattle.steps.specs.Verdicts.{later}
use Rattle.steps.proofs.steps.later_pairs.Goals as goal

pub returns-then-walked-eq0 : goal.returns-then-walked-eq0
unfolding later
returns-then-walked-eq0 c = rw (eq-eqb _ 0 c.if-walked-eq0.true)

pub returns : goal.returns
unfolding later
returns c = rw (ne_eqb _ 0 c.if-walked-eq0.false)
