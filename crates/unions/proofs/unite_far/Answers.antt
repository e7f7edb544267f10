-- `unite_far` meets its contract.
use Rattle.unions.proofs.Puts.{unite_zero, unite_high, unite_low}
use Rattle.unions.proofs.unite_far.Goals as goal

pub returns-then-i-eq0 : goal.returns-then-i-eq0
returns-then-i-eq0 c = let a = c.args in unite_zero a.area.now a.n a.t a.at a.i c.if-i-eq0.true

pub returns-then-i-t : goal.returns-then-i-t
returns-then-i-t c = let a = c.args in unite_high a.area.now a.n a.t a.at a.i c.if-i-t.true

pub returns : goal.returns
returns c =
    let a = c.args in
    unite_low a.area.now a.n a.t a.at a.i c.unite_words.new.area c.requires c.if-i-eq0.false c.if-i-t.false c.unite_words.ensures
