-- `same_field` meets its contract: the definition, by whether the field is a list.
use Rattle.logic.specs.Checks.{same_field}
use Rattle.duplicates.proofs.same_field.Goals as goal

pub returns-then-list : goal.returns-then-list
unfolding same_field
returns-then-list c = rw c.if-list.true c.same_list.ensures

pub returns-else-list : goal.returns-else-list
unfolding same_field
returns-else-list c = rw c.if-list.false
