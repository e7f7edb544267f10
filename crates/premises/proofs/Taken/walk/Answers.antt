-- `walk` meets its contract: three lists in lockstep.
use native.Mathlib.Omega.{arith}
use mathlib.Core.Path.{sym}
use Rattle.bundle.proofs.Walks.{walk_start_le, walk_le, walk_up, walk_length, next_is}
use Rattle.images.specs.LentReading.{step_in}
use Rattle.premises.proofs.Premises.{all_some, from_start, position_passes, position_fails}
use Rattle.premises.proofs.Taken.walk.Goals as goal

pub loop-i-init : goal.loop-i-init
loop-i-init c =
    let a = c.args in
    let b = c.self.inside.bundle.now in
    let i = c.first_link-i in
    let j = c.first_link-j in
    let k = c.first_link-k in
    rw (← c.self.view_is) (record {
      low = (walk_start_le b a.lefts i.result i.ensures, walk_start_le b a.rights j.result j.ensures, walk_start_le b a.premises k.result k.ensures);
      few = omega arith;
      counted = λ ne. omega arith;
      whole = sym (from_start b (step_in b _) a.body a.context a.lefts a.rights a.premises i.ensures j.ensures k.ensures);
    })

pub returns-then-not-carries : goal.returns-then-not-carries
returns-then-not-carries c =
    let a = c.args in
    let b = c.self.inside.bundle.now in
    let l = c.loop-i in
    let v = rw (← c.self.view_is) at l.invariant in
    let i = c.read_link-l.ensures in
    let j = c.read_link-r.ensures in
    let k = c.read_link-p.ensures in
    rw (← c.self.view_is)
    (position_fails b (step_in b _) a.body a.context l.i l.j l.k l.read (all_some l.i l.j l.k c.loop-i-test.true) v.low v.whole i.0 j.0 k.0
    (rw (← c.self.view_is) at c.carries.ensures) (omega (arith, i.2, j.2, k.2)) c.if-not-carries.true)

pub loop-i-smaller : goal.loop-i-smaller
loop-i-smaller c =
    let b = c.self.inside.bundle.now in
    let l = c.loop-i in
    let v = rw (← c.self.view_is) at l.invariant in
    let some = all_some l.i l.j l.k c.loop-i-test.true in
    let next = next_is b l.i c.read_link-l.ensures.1 (rw c.links-links.ensures.0 at c.followed-i.ensures) in
    rw (← c.self.view_is) (omega (arith, walk_length b l.i c.followed-i.result some.0 v.low.0 next))

pub loop-i-preserved : goal.loop-i-preserved
loop-i-preserved c =
    let a = c.args in
    let b = c.self.inside.bundle.now in
    let l = c.loop-i in
    let v = rw (← c.self.view_is) at l.invariant in
    let some = all_some l.i l.j l.k c.loop-i-test.true in
    let i = c.read_link-l.ensures in
    let j = c.read_link-r.ensures in
    let k = c.read_link-p.ensures in
    let ni = next_is b l.i i.1 (rw c.links-links.ensures.0 at c.followed-i.ensures) in
    let nj = next_is b l.j j.1 (rw c.links-links.ensures.0 at c.followed-j.ensures) in
    let nk = next_is b l.k k.1 (rw c.links-links.ensures.0 at c.followed-k.ensures) in
    rw (← c.self.view_is) (record {
      low = (walk_le b l.i _ ni, walk_le b l.j _ nj, walk_le b l.k _ nk);
      few = omega (arith, i.2, j.2, k.2, v.counted some.0, v.low.0);
      counted = λ ne. omega (arith, i.2, j.2, k.2, v.counted some.0, walk_up b l.i _ ni ne);
      whole =
          position_passes b (step_in b _) a.body a.context l.i l.j l.k l.read some v.low v.whole i.0 j.0 k.0
          (rw (← c.self.view_is) at c.carries.ensures) (omega (arith, i.2, j.2, k.2)) ni nj nk c.if-not-carries.false;
    })
