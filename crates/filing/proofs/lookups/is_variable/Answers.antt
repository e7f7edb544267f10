-- `is_variable` meets its contract: the two tests of `same_variable`.
use Rattle.logic.specs.Lookup.{same_variable}
use Rattle.filing.proofs.lookups.is_variable.Goals as goal

pub returns : goal.returns
unfolding same_variable
returns c = rw (← c.term_words-term.ensures.0, c.number.ensures)
