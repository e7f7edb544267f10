-- `mixed_field` meets its contract: the definition, by whether the field is a list.
use Rattle.duplicates.specs.Digests.{mix_field}
use Rattle.duplicates.proofs.mixed_field.Goals as goal

pub returns-then-list : goal.returns-then-list
unfolding mix_field
returns-then-list c = rw c.if-list.true c.mixed_items.ensures

pub returns-else-list : goal.returns-else-list
unfolding mix_field
returns-else-list c = rw c.if-list.false c.mixed.ensures
