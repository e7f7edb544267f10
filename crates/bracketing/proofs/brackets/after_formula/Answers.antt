-- `brackets::after_formula` meets its contract.
use Rattle.bracketing.proofs.TextLaws.{skip_over, skip_here, skip_next}
use Rattle.bracketing.proofs.brackets.after_formula.Goals as goal

pub returns-then-open-eq0 : goal.returns-then-open-eq0
returns-then-open-eq0 c = skip_here c.loop-l.invariant c.in-Some.ensures c.open_after-open.ensures c.if-open-eq0.true

pub loop-l-preserved : goal.loop-l-preserved
loop-l-preserved c = skip_next c.loop-l.invariant c.in-Some.ensures c.open_after-open.ensures c.if-open-eq0.false

pub returns : goal.returns
returns c = skip_over c.loop-l.invariant c.in_default.ensures
