-- `sets::both_subsets` meets its contract. The invariant: the first k words of both have no bits but those of the third.
use native.Mathlib.Omega.{arith}
use mathlib.Core.Path.{refl, sym}
use Rattle.sets.specs.Sets.{subset_of}
use Rattle.sets.proofs.Subsets.{both_on, both_at}
use Rattle.sets.proofs.both_subsets.Goals as goal

pub returns-then-n-eq0 : goal.returns-then-n-eq0
unfolding subset_of
returns-then-n-eq0 c = rw c.if-n-eq0.true

pub returns-then-either-among : goal.returns-then-either-among
returns-then-either-among c =
    let a = c.args in
    sym (both_at a.first.now a.second.now a.all.now (λ j. omega (arith, c.type_inv.first j))
    (λ j. omega (arith, c.type_inv.second j)) a.n 0 (omega arith) c.if-either-among.true)

pub loop-k-init : goal.loop-k-init
unfolding subset_of
loop-k-init c =
    let a = c.args in
    let both = both_on a.first.now a.second.now a.all.now (λ j. omega (arith, c.type_inv.first j))
    (λ j. omega (arith, c.type_inv.second j)) 0 refl refl c.if-either-among.false in
    both

pub returns-then-x-y : goal.returns-then-x-y
returns-then-x-y c =
    let a = c.args in
    let l = c.loop-k in
    sym (both_at a.first.now a.second.now a.all.now (λ j. omega (arith, c.shared_slice_known-1.given j))
    (λ j. omega (arith, c.shared_slice_known-2-1.given j)) a.n l.k (omega arith) c.if-x-y.true)

pub loop-k-preserved : goal.loop-k-preserved
loop-k-preserved c =
    let a = c.args in
    let l = c.loop-k in
    let both = both_on a.first.now a.second.now a.all.now (λ j. omega (arith, c.shared_slice_known-1.given j))
    (λ j. omega (arith, c.shared_slice_known-2-1.given j)) l.k l.invariant.0 l.invariant.1 c.if-x-y.false in
    both
