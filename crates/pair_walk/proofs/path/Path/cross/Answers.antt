-- `Path::cross` meets its contract: the pair is crossed, and the frame has the places before.
use native.Mathlib.Omega.{arith}
use native.Mathlib.Numerals.{add-one}
use mathlib.Core.Path.{sym}
use Rattle.pair_walk.specs.Agenda.{frame_of, frames, crossed_by}
use Rattle.pair_walk.proofs.FrameWords.{place_fits, other_fits, kept_more}
use Rattle.pair_walk.proofs.Paths.{kept_room}
use Rattle.pair_walk.proofs.path.Path.cross.Goals as goal

pub cross-before-requires : goal.cross-before-requires
cross-before-requires c =
    let h = rw (← c.self.view_is) at c.requires in
    (h.1, h.2, c.self.invariant.bits, (kept_room c.self.invariant h.0).2)

pub push-requires : goal.push-requires
push-requires c =
    let s = c.self.inside in
    let k = c.self.invariant in
    let h = rw (← c.self.view_is) at c.requires in
    let room = kept_room k h.0 in
    let ps = crossed_by (frames s.agenda.now s.height) in
    let few = rw c.bundle.ensures at c.variables.ensures in
    let before = c.cross-before.ensures.1 ps (sym k.crossing.deep) k.crossing.placed in (
      room.1,
      omega arith,
      omega (arith, h.1.1, few),
      omega (arith, h.2.1, few),
      omega (arith, place_fits ps c.args.x before.1 k.crossing.deep, room.2),
      omega (arith, other_fits ps c.args.y before.2 k.crossing.deep, room.2),
    )

pub overflow_add-self-2 : goal.overflow_add-self-2
overflow_add-self-2 c =
    let h = rw (← c.self.view_is) at c.requires in
    omega (arith, (kept_room c.self.invariant h.0).2)

pub invariant_of-self : goal.invariant_of-self
invariant_of-self c =
    let s = c.self.inside in
    let k = c.self.invariant in
    let h = rw (← c.self.view_is) at c.requires in
    let before = c.cross-before.ensures.1 (crossed_by (frames s.agenda.now s.height)) (sym k.crossing.deep) k.crossing.placed in
    rw (add-one s.height, add-one s.depth)
    (kept_more s.binders c.cross-before.new.self s.agenda.now c.push.new.agenda s.most s.height s.depth c.args.x c.args.y c.cross-before.result.left
    c.cross-before.result.right k c.cross-before.ensures.0 (kept_room k h.0).0 c.push.ensures.0 c.push.ensures.1 before.0)

pub returns : goal.returns
unfolding frame_of
returns c =
    let s = c.self.inside in
    let k = c.self.invariant in
    let before = c.cross-before.ensures.1 (crossed_by (frames s.agenda.now s.height)) (sym k.crossing.deep) k.crossing.placed in
    rw (← c.self.view_is, add-one s.height, c.push.ensures.1, c.cross-before.ensures.0, before.1, before.2)
