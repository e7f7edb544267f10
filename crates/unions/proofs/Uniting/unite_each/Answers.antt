-- `Uniting::unite_each` meets its contract.
use Rattle.unions.proofs.Puts.{partly_on, partly_end}
use Rattle.unions.proofs.Uniting.unite_each.Goals as goal

pub loop-term-preserved : goal.loop-term-preserved
loop-term-preserved c =
    partly_on (rw (← c.self.view_is) at c.requires) c.loop-term.invariant c.in-Some.ensures.steps c.unite_term.ensures

pub returns : goal.returns
returns c = rw (← c.self.view_is) (partly_end c.loop-term.invariant c.in-None.ensures.steps.0)
