-- `notes::all_lower` meets its contract. The invariant: the items are 1 to n where what is left of them is. The measure is how many links are left
use mathlib.Core.Path.{sym, ◌∙◌}
use mathlib.Core.Bool.{false≢true}
use Rattle.bundle.proofs.Walks.{walk_start, walk_start_le, walk_le}
use Rattle.bundle.proofs.NumberLists.{each_nil, each_on, each_here, both_some}
use Rattle.bundle.proofs.Bundle.all_lower.Goals as goal

pub loop-i-init : goal.loop-i-init
loop-i-init c =
    let a = c.args in
    let r = c.first_link-i in
    (walk_start_le a.self.now a.list r.result r.ensures, rw (walk_start a.self.now a.list r.result r.ensures))

pub returns-then-x-n : goal.returns-then-x-n
returns-then-x-n c =
    let a = c.args in
    let l = c.loop-i in
    let some = both_some l.i l.left c.loop-i-test.true in (
      sym (l.invariant.1 ∙ each_here a.self.now a.n l.i c.link_field-x.result some.0 l.invariant.0 c.link_field-x.ensures
          c.if-x-n.true),
      λ e. absurd (false≢true e),
    )

pub loop-i-preserved : goal.loop-i-preserved
loop-i-preserved c =
    let a = c.args in
    let l = c.loop-i in
    let some = both_some l.i l.left c.loop-i-test.true in
    let x = c.link_field-x in
    let r = c.next_link-i in (
      walk_le a.self.now l.i r.result r.ensures,
      l.invariant.1 ∙ each_on a.self.now a.n l.i x.result r.result some.0 l.invariant.0 x.ensures r.ensures c.if-x-n.false,
    )

pub returns-then-i-eq0 : goal.returns-then-i-eq0
returns-then-i-eq0 c =
    let l = c.loop-i in
    (sym (l.invariant.1 ∙ each_nil c.args.self.now c.args.n l.i c.if-i-eq0.true), λ e. c.requires)
