-- `sets::disjoint` meets its contract. The invariant: the first k words of the sets are disjoint.
use native.Mathlib.Omega.{arith}
use mathlib.Core.Path.{refl, sym}
use Rattle.sets.specs.Sets.{disjoint_of}
use Rattle.sets.proofs.Members.{disjoint_on, disjoint_at}
use Rattle.sets.proofs.disjoint.Goals as goal

pub loop-k-init : goal.loop-k-init
unfolding disjoint_of
loop-k-init c = refl

pub returns-then-x-y-ne0 : goal.returns-then-x-y-ne0
returns-then-x-y-ne0 c =
    let a = c.args in
    sym (disjoint_at a.area.now a.first a.other.now a.second a.n c.loop-k.k (omega arith) c.if-x-y-ne0.true)

pub loop-k-preserved : goal.loop-k-preserved
loop-k-preserved c =
    let a = c.args in
    let l = c.loop-k in
    disjoint_on a.area.now a.first a.other.now a.second l.k l.invariant c.if-x-y-ne0.false
