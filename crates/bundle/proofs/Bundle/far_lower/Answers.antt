-- `notes::far_lower` meets its contract. The invariant: the items are 1 to n where what is left of them is; and `OnWay`, for what is noted.
use native.Mathlib.Omega.{arith}
use Prim.Native.Nat.{◌<◌}
use mathlib.Core.Path.{sym, ◌∙◌}
use mathlib.Core.Bool.{false≢true}
use lib.ListN.{length, length-set}
use Rattle.bundle.proofs.Walks.{walk_le, walk_up, walk_length}
use Rattle.bundle.specs.LinkNotes.{AllTo}
use Rattle.bundle.proofs.NumberLists.{each_nil, each_on, each_here}
use Rattle.bundle.proofs.LinkNotes.{way_on, way_end}
use Rattle.bundle.proofs.Bundle.far_lower.Goals as goal

pub returns-then-x-n : goal.returns-then-x-n
returns-then-x-n c =
    let a = c.args in
    let l = c.loop-i in (
      sym (l.invariant.2 ∙ each_here a.self.now a.n l.i c.link_field-x.result c.loop-i-test.true
          l.invariant.0 c.link_field-x.ensures c.if-x-n.true),
      λ e. absurd (false≢true e),
    )

pub loop-i-smaller : goal.loop-i-smaller
loop-i-smaller c =
    let a = c.args in
    let l = c.loop-i in
    omega (
      arith,
      walk_length a.self.now l.i c.next_link-i.result c.loop-i-test.true l.invariant.0
          c.next_link-i.ensures,
    )

pub loop-i-preserved : goal.loop-i-preserved
loop-i-preserved c =
    let a = c.args in
    let l = c.loop-i in
    let x = c.link_field-x in
    let r = c.next_link-i in
    let room : l.i < length l.lower =
    omega (arith, l.invariant.0, l.invariant.1, c.requires.0.enough) in
    let on = each_on a.self.now a.n l.i x.result r.result c.loop-i-test.true l.invariant.0
    x.ensures r.ensures c.if-x-n.false in (
      walk_le a.self.now l.i r.result r.ensures,
      length-set l.lower l.i 1 ∙ l.invariant.1,
      l.invariant.2 ∙ on,
      way_on (AllTo a.self.now a.n) l.lower 1 l.i 1 r.result l.invariant.3 c.loop-i-test.true
          room
          (walk_up a.self.now l.i r.result r.ensures) (λ e. on ∙ e),
    )

pub returns : goal.returns
returns c =
    let a = c.args in
    let l = c.loop-i in
    let good = each_nil a.self.now a.n l.i c.loop-i-test.false in (
      sym (l.invariant.2 ∙ good),
      λ e. way_end (AllTo a.self.now a.n) (length a.self.now.links) l.lower 1 l.i l.invariant.3 good
          (omega (arith, l.invariant.1, c.requires.0.enough)),
    )
