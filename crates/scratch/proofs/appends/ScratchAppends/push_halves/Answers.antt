-- `Scratch::push_halves` meets its contract.
use mathlib.Core.Path.{sym, ap, ◌∙◌}
use native.Mathlib.Omega.{arith}
use lib.ListN.{length-map}
use Rattle.logic.specs.Longer.{add_list}
use Rattle.scratch.specs.Stack.{half_of}
use Rattle.scratch.proofs.Halves.{rest_none}
use Rattle.scratch.proofs.Pushed.{add_none, push_more, link_more, start_is}
use Rattle.scratch.proofs.appends.ScratchAppends.push_halves.Goals as goal
use Rattle.scratch.proofs.appends.ScratchAppends.push_halves.Goals.{then-n-eq0, else-n-eq0, then-at-n, else-at-n}

pub loop-at-preserved : goal.loop-at-preserved
loop-at-preserved c =
    let a = c.args in
    let l = c.loop-at in
    rw c.append_link.ensures (
      omega (arith, link_more l.self c.half-value.result c.if-at-n.next, l.invariant.0),
      push_more l.self a.upper a.pairs.now l.at c.half-value.result c.if-at-n.next c.loop-at-test.true c.half-value.ensures.0
          (λ h. elim c.if-at-n.branch [ then-at-n w ↦ omega arith | else-at-n w ↦ omega arith ])
          (λ h. elim c.if-at-n.branch [ then-at-n w ↦ omega arith | else-at-n w ↦ omega arith ])
          ∙ l.invariant.1,
    )

pub returns : goal.returns
returns c =
    let a = c.args in
    let l = c.loop-at in (
      sym (add_none l.self)
          ∙ ap (add_list l.self) (sym (rest_none a.upper a.pairs.now l.at c.loop-at-test.false))
          ∙ l.invariant.1,
      start_is a.self.now _ _ c.if-n-eq0.start (length-map a.pairs.now (half_of a.upper))
          (λ h. elim c.if-n-eq0.branch [ then-n-eq0 w ↦ omega arith | else-n-eq0 w ↦ omega arith ])
          (λ h. elim c.if-n-eq0.branch [ then-n-eq0 w ↦ omega arith | else-n-eq0 w ↦ omega arith ]),
    )
