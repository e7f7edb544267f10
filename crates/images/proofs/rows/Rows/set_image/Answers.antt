-- `set_image` meets its contract: one place of the row written, and one bit of each set.
use Rattle.images.proofs.ContextRows.{told_place, entered_place}
use Rattle.images.proofs.rows.Rows.set_image.Goals as goal

pub returns-then-moves : goal.returns-then-moves
returns-then-moves c =
    let a = c.args in
    let p = rw (← c.self.view_is) at c.requires in
    rw (← c.self.view_is)
    (entered_place _ a.k a.x a.t p.1 p.2 p.0 c.insert.new.area c.insert-then-moves.new.area p.3 p.7 a.moves p.6 (told_place a.t p.4) (rw c.variables.ensures.0)
    c.insert.ensures (rw c.if-moves.true c.insert-then-moves.ensures))

pub returns-else-moves : goal.returns-else-moves
returns-else-moves c =
    let a = c.args in
    let p = rw (← c.self.view_is) at c.requires in
    rw (← c.self.view_is)
    (entered_place _ a.k a.x a.t p.1 p.2 p.0 c.insert.new.area c.remove.new.area p.3 p.7 a.moves p.6 (told_place a.t p.4) (rw c.variables.ensures.0)
    c.insert.ensures (rw c.if-moves.false c.remove.ensures))
