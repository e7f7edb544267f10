-- `guesses::guess_inside` meets its contract.
use Rattle.spots.proofs.GuessLaws.{inside_enter, inside_below, inside_held, inside_above}
use Rattle.scanning.proofs.guesses.guess_inside.Goals as goal

pub returns-then-depth-low-2 : goal.returns-then-depth-low-2
returns-then-depth-low-2 c =
    let a = c.args in
    let r = inside_enter a.low a.top a.depth a.area.now a.spot c.if-depth-low.true c.if-depth-low-2.true in
    record { spot = r.0; stored = r.1 }

pub returns-then-depth-low : goal.returns-then-depth-low
returns-then-depth-low c =
    let a = c.args in
    let r = inside_below a.low a.top a.depth a.area.now a.spot c.if-depth-low.true c.if-depth-low-2.false in
    record { spot = r.0; stored = r.1 }

pub returns-then-depth-top : goal.returns-then-depth-top
returns-then-depth-top c =
    let a = c.args in
    let r =
    inside_held a.low a.top a.depth a.area.now a.spot c.if-depth-low.false c.if-depth-top.true
    _ _ c.guess_cell-inside.ensures c.guess_cell.ensures
    in
    record { spot = r.0; stored = r.1 }

pub returns : goal.returns
returns c =
    let a = c.args in
    let r = inside_above a.low a.top a.depth a.area.now a.spot c.if-depth-low.false c.if-depth-top.false in
    record { spot = r.0; stored = r.1 }
