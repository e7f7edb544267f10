-- `turns::take` meets its contract: both lists end here and the frame is an application's, or both nexts rise; else it is `take_any`.
use native.Mathlib.Omega.{arith}
use mathlib.Core.Path.{refl, ap, ◌∙◌}
use lib.ListN.{length}
use Rattle.bundle.specs.Bundle.{Bundle, link_of, term_of}
use Rattle.bundle.specs.Links.{next_of}
use Rattle.bundle.proofs.Walks.{next_is, next_on}
use Rattle.pair_walk.proofs.FrameWords.{turn_at, taken_off, taken_on, closes_here, closes_rising, follows_none}
use Rattle.pair_walk.proofs.Turning.{both_zero}
use Rattle.pair_walk.proofs.turns.take.Goals as goal

pub returns-then-kind-number : goal.returns-then-kind-number
returns-then-kind-number c =
    let a = c.args in
    let p = a.path.now in
    let b = c.bundle-bundle in
    let n = length b.result.now.links in
    let i = c.link-first in
    let j = c.link-second in
    let ended = both_zero i.result.next j.result.next c.if-next-other.true in
    let after = next_is b.result.now a.i i.ensures.1 (follows_none n a.i i.result.next ended.0) ∙ ap (λ (x : Bundle). next_of x.links a.i) b.ensures in
    let other = next_is b.result.now a.j j.ensures.1 (follows_none n a.j j.result.next ended.1) ∙ ap (λ (x : Bundle). next_of x.links a.j) b.ensures in
    let kind = c.term_field-kind.ensures ∙ ap (λ (x : Bundle). (term_of x a.l).kind) b.ensures in (
      turn_at a.l a.left (i.ensures.0 ∙ ap (λ (x : Bundle). (link_of x a.i).value) b.ensures)
          (j.ensures.0 ∙ ap (λ (x : Bundle). (link_of x a.j).value) b.ensures) c.turn_to.ensures,
      taken_off p.sets.bundle p a.l a.i a.j kind after other
          (closes_here c.term_field-kind.result i.result.next j.result.next (c.if-kind-number.true ∙ c.number.ensures) c.if-next-other.true) c.pop.ensures,
    )

pub returns-then-other-links : goal.returns-then-other-links
returns-then-other-links c =
    let a = c.args in
    let p = a.path.now in
    let b = c.bundle-bundle in
    let i = c.link-first in
    let j = c.link-second in
    let after = next_on b.result.now a.i i.ensures.1 c.if-i-next.true (omega arith) ∙ ap (λ (x : Bundle). next_of x.links a.i) b.ensures in
    let other = next_on b.result.now a.j j.ensures.1 c.if-j-other.true (omega arith) ∙ ap (λ (x : Bundle). next_of x.links a.j) b.ensures in (
      turn_at a.l a.left (i.ensures.0 ∙ ap (λ (x : Bundle). (link_of x a.i).value) b.ensures)
          (j.ensures.0 ∙ ap (λ (x : Bundle). (link_of x a.j).value) b.ensures) c.turn_to-then-other-links.ensures,
      taken_on p.sets.bundle p a.l a.i a.j {k = (term_of p.sets.bundle a.l).kind} refl after other
          (closes_rising (term_of p.sets.bundle a.l).kind i.result.next j.result.next a.i c.if-i-next.true) c.advance.ensures,
    )
