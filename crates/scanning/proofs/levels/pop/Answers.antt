-- `levels::pop` meets its contract.
use native.Mathlib.Omega.{arith}
use Rattle.spots.proofs.PopLaws.{popped_below, popped_known, popped_held, popped_found}
use Rattle.scanning.proofs.levels.pop.Goals as goal

pub returns-then-back-lt20 : goal.returns-then-back-lt20
returns-then-back-lt20 c =
    popped_below _ _ c.args.p _ _ c.requires.spot c.requires.behind c.requires.taken c.if-height-eq0.true c.if-back-lt20.true

pub returns-then-height-eq0 : goal.returns-then-height-eq0
returns-then-height-eq0 c =
    popped_found _ _ c.args.p _ _ c.requires.spot c.requires.behind c.requires.taken
    c.if-height-eq0.true
    c.if-back-lt20.false c.find_levels.new.area
    (omega (arith, c.requires.room, c.find_levels.auto.area))
    _ c.lowest-low.ensures c.find_levels.ensures _ c.from-held.ensures

pub returns-then-back-lt20-2 : goal.returns-then-back-lt20-2
returns-then-back-lt20-2 c =
    popped_known _ _ c.args.p _ _ c.requires.spot c.requires.behind c.requires.taken c.if-height-eq0.false c.if-back-lt20-2.true

pub returns : goal.returns
returns c =
    popped_held _ _ c.args.p _ _ c.requires.spot c.requires.behind c.requires.taken c.if-height-eq0.false _ c.from-held-2.ensures
