-- `same_binder` meets its contract: the three tests of the definition.
use Rattle.logic.specs.Lookup.{same_binder}
use Rattle.filing.proofs.lookups.same_binder.Goals as goal

pub returns : goal.returns
unfolding same_binder
returns c q e = rw (← e, ← c.term_words-term.ensures.0)
