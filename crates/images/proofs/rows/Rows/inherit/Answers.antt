-- `inherit` meets its contract: a row copied, and both sets at once.
use Rattle.images.proofs.ContextRows.{inherited}
use Rattle.images.proofs.rows.Rows.inherit.Goals as goal

pub returns : goal.returns
returns c =
    let a = c.args in
    let row = c.copy_up in
    let sets = c.copy_up-2 in
    rw (← c.self.view_is) (inherited _ row.new.places sets.new.places a.k a.parent c.variables-row.ensures.0 row.ensures sets.ensures)
