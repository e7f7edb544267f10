-- `both_in_scope` meets its contract: with the terms of the bundle.
use Rattle.free_variables.specs.TermSets.{in_scope_in}
use Rattle.free_variables.proofs.term_sets.TermSets.both_in_scope.Goals as goal

pub returns : goal.returns
unfolding in_scope_in
returns c = rw (← c.self.view_is) (rw c.terms-terms.ensures.0 at c.both_in_scope.ensures)
