-- `levels::push` meets its contract.
use Rattle.spots.proofs.Windows.{pushes_in, pushes_again}
use Rattle.scanning.proofs.levels.push.Goals as goal

pub returns-then-height-area : goal.returns-then-height-area
returns-then-height-area c =
    let r = pushes_in c.args.area.now c.args.p c.args.inside _ _ c.cell-hold.ensures c.if-height-area.true in
    record { placed = r.0; stored = r.1 }

pub returns : goal.returns
returns c =
    let r = pushes_again c.args.area.now c.args.p c.args.inside _ _ c.cell-hold.ensures c.if-height-area.false in
    record { placed = r.0; stored = r.1 }
