-- `is_free` meets its contract: with the terms of the bundle.
use Rattle.free_variables.specs.TermSets.{free_in}
use Rattle.free_variables.proofs.term_sets.TermSets.is_free.Goals as goal

pub returns : goal.returns
unfolding free_in
returns c = rw (← c.self.view_is) (rw c.terms.ensures.0 at c.is_free.ensures)
