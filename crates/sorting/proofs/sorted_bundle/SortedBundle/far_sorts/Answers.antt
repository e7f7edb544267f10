-- `far_sorts` meets its contract.
use native.Mathlib.Omega.{arith}
use Prim.Native.Nat.{◌<◌}
use mathlib.Core.Path.{refl, sym, ◌∙◌}
use mathlib.Core.Bool.{false≢true}
use lib.ListN.{length, length-set}
use Rattle.bundle.proofs.Walks.{walk_le, walk_up, walk_nil, walk_cons, walk_some, walk_length}
use Rattle.bundle.proofs.LinkNotes.{way_on, way_end}
use Rattle.sorting.specs.Notes.{SortsFit}
use Rattle.sorting.proofs.SortLists.{value_in, ended, short, differs, on}
use Rattle.sorting.proofs.sorted_bundle.SortedBundle.far_sorts.Goals as goal

pub returns-then-j-eq0 : goal.returns-then-j-eq0
returns-then-j-eq0 c =
    let a = c.args in
    let l = c.loop-i in (
      sym (l.invariant.3 ∙ short a.self.now (walk_some a.self.now l.i c.loop-i-test.true l.invariant.0) c.if-j-eq0.true),
      λ e.
          absurd (false≢true e),
    )

pub returns-then-sort : goal.returns-then-sort
returns-then-sort c =
    let a = c.args in
    let l = c.loop-i in
    let first = walk_cons a.self.now l.i c.link_field-sort.result _
    c.loop-i-test.true l.invariant.0 (c.link_field-sort.ensures ∙ value_in c.self.view_is l.i)
    refl in (
      sym (l.invariant.3 ∙ differs a.self.now first c.if-j-eq0.false l.invariant.1
          (c.link_field-t.ensures ∙ value_in c.self.view_is l.j)
          c.sort.ensures refl c.if-sort.true),
      λ e. absurd (false≢true e),
    )

pub loop-i-smaller : goal.loop-i-smaller
loop-i-smaller c =
    let a = c.args in
    let l = c.loop-i in
    omega (
      arith,
      walk_length a.self.now l.i c.next_link-i.result
          c.loop-i-test.true l.invariant.0 (rw c.self.view_is at c.next_link-i.ensures),
    )

pub loop-i-preserved : goal.loop-i-preserved
loop-i-preserved c =
    let a = c.args in
    let l = c.loop-i in
    let m = c.next_link-i in
    let n = c.next_link-j in
    let room : l.j < length l.fitting =
    omega (
      arith,
      l.invariant.1,
      l.invariant.2,
      c.requires.0.enough,
    ) in
    let first = walk_cons a.self.now l.i c.link_field-sort.result m.result
    c.loop-i-test.true l.invariant.0
    (c.link_field-sort.ensures ∙ value_in c.self.view_is l.i) (rw c.self.view_is at m.ensures) in
    let same = on a.self.now first c.if-j-eq0.false l.invariant.1
    (c.link_field-t.ensures ∙ value_in c.self.view_is l.j)
    c.sort.ensures (rw c.self.view_is at n.ensures) c.if-sort.false in (
      walk_le a.self.now l.i m.result (rw c.self.view_is at m.ensures),
      walk_le a.self.now l.j n.result (rw c.self.view_is at n.ensures),
      length-set l.fitting l.j l.i ∙ l.invariant.2,
      l.invariant.3 ∙ same,
      way_on (SortsFit a.self.now) l.fitting l.i l.j m.result n.result l.invariant.4
          c.if-j-eq0.false room
          (walk_up a.self.now l.j n.result (rw c.self.view_is at n.ensures)) (λ e. same ∙ e),
    )

pub returns : goal.returns
returns c =
    let a = c.args in
    let l = c.loop-i in
    let end = ended a.self.now (walk_nil a.self.now l.i c.loop-i-test.false) l.invariant.1 in (
      sym (l.invariant.3 ∙ end),
      λ e. way_end (SortsFit a.self.now) (length a.self.now.links) l.fitting l.i l.j l.invariant.4 (end ∙ e)
          (omega (arith, l.invariant.2, c.requires.0.enough)),
    )
