-- `is_settled` meets its contract: with the terms of the bundle.
use Rattle.free_variables.specs.TermSets.{settled_in}
use Rattle.free_variables.proofs.term_sets.TermSets.is_settled.Goals as goal

pub returns : goal.returns
unfolding settled_in
returns c = rw (← c.self.view_is) (rw c.terms.ensures.0 at c.is_settled.ensures)
