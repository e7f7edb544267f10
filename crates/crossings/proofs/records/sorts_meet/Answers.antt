-- `records::sorts_meet` meets its contract: two numbers of variables, and their sorts.
use Rattle.logic.specs.ReflWalk.{sorts_meet}
use Rattle.crossings.proofs.records.sorts_meet.Goals as goal

pub returns : goal.returns
unfolding sorts_meet
returns c = rw (c.variables-count.ensures.0, c.variable_sort-s.ensures, c.variable_sort-t.ensures)
