-- `turns::turn_to` meets its contract, by the pairs left and by the order of the terms.
use Rattle.pair_walk.proofs.FrameWords.{turn_none, turn_lower, turn_other}
use Rattle.pair_walk.proofs.turns.turn_to.Goals as goal

pub returns-then-left-eq0 : goal.returns-then-left-eq0
returns-then-left-eq0 c = let a = c.args in turn_none a.l a.x a.y a.left c.if-left-eq0.true

pub returns-then-x-l : goal.returns-then-x-l
returns-then-x-l c = let a = c.args in turn_lower a.l a.x a.y a.left c.if-left-eq0.false c.if-x-l.true

pub returns-else-x-l : goal.returns-else-x-l
returns-else-x-l c = let a = c.args in turn_other a.l a.x a.y a.left c.if-left-eq0.false c.if-x-l.false
