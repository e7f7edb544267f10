-- `same_sorts` meets its contract.
use mathlib.Core.Path.{refl, sym, ◌∙◌}
use mathlib.Core.Bool.{false≢true}
use Rattle.bundle.proofs.Walks.{walk_start, walk_start_le, walk_le, walk_nil, walk_cons, walk_some}
use Rattle.sorting.proofs.SortLists.{value_in, ended, short, differs, on}
use Rattle.sorting.proofs.sorted_bundle.SortedBundle.same_sorts.Goals as goal

pub loop-init : goal.loop-init
loop-init c =
    let a = c.args in
    let r = c.first_link-i in
    let s = c.first_link-j in (
      walk_start_le a.self.now a.list r.result (rw c.self.view_is at r.ensures),
      walk_start_le a.self.now a.terms s.result (rw c.self.view_is at s.ensures),
      rw (walk_start a.self.now a.list r.result (rw c.self.view_is at r.ensures), walk_start a.self.now a.terms s.result (rw c.self.view_is at s.ensures)),
    )

pub returns-then-i-eq0 : goal.returns-then-i-eq0
returns-then-i-eq0 c =
    let a = c.args in
    let l = c.loop in (
      sym (l.invariant.2 ∙ ended a.self.now (walk_nil a.self.now l.i c.if-i-eq0.true) l.invariant.1),
      λ e.
          c.requires,
    )

pub returns-then-j-eq0 : goal.returns-then-j-eq0
returns-then-j-eq0 c =
    let a = c.args in
    let l = c.loop in (
      sym (l.invariant.2 ∙ short a.self.now (walk_some a.self.now l.i c.if-i-eq0.false l.invariant.0) c.if-j-eq0.true),
      λ e. absurd
          (false≢true e),
    )

pub returns-then-sort : goal.returns-then-sort
returns-then-sort c =
    let a = c.args in
    let l = c.loop in
    let first = walk_cons a.self.now l.i c.link_field-sort.result _ c.if-i-eq0.false
    l.invariant.0 (c.link_field-sort.ensures ∙ value_in c.self.view_is l.i) refl in (
      sym (l.invariant.2 ∙ differs a.self.now first c.if-j-eq0.false l.invariant.1 (c.link_field-t.ensures ∙ value_in c.self.view_is l.j)
          c.sort.ensures refl c.if-sort.true),
      λ e. absurd (false≢true e),
    )

pub loop-preserved : goal.loop-preserved
loop-preserved c =
    let a = c.args in
    let l = c.loop in
    let m = c.next_link-i in
    let n = c.next_link-j in
    let first = walk_cons a.self.now l.i c.link_field-sort.result m.result
    c.if-i-eq0.false l.invariant.0 (c.link_field-sort.ensures ∙ value_in c.self.view_is l.i)
    (rw c.self.view_is at m.ensures) in (
      walk_le a.self.now l.i m.result (rw c.self.view_is at m.ensures),
      walk_le a.self.now l.j n.result (rw c.self.view_is at n.ensures),
      l.invariant.2
          ∙ on a.self.now first c.if-j-eq0.false l.invariant.1
          (c.link_field-t.ensures ∙ value_in c.self.view_is l.j)
          c.sort.ensures (rw c.self.view_is at n.ensures) c.if-sort.false,
    )
