-- `turns::take_any` meets its contract: the items of two links, and the links that follow, by the test for an application of which nothing is left.
use native.Mathlib.Omega.{arith}
use mathlib.Core.Path.{ap, ◌∙◌}
use Rattle.bundle.specs.Bundle.{Bundle, link_of, term_of}
use Rattle.bundle.specs.Links.{next_of}
use Rattle.bundle.proofs.Walks.{walk_le, next_is}
use Rattle.pair_walk.proofs.FrameWords.{turn_at, taken_off, taken_on}
use Rattle.pair_walk.proofs.turns.take_any.Goals as goal
use Rattle.pair_walk.proofs.turns.take_any.Goals.{then-kind-number, else-kind-number}

pub advance-requires : goal.advance-requires
advance-requires c =
    let a = c.args in
    let b = c.bundle-bundle.result.now in
    let after = next_is b a.i c.link-first.ensures.1 (rw c.links-links.ensures.0 at c.followed-after.ensures) in
    let other = next_is b a.j c.link-second.ensures.1 (rw c.links-links.ensures.0 at c.followed-other.ensures) in (
      c.requires.0,
      omega (arith, walk_le b a.i c.followed-after.result after, c.links-links.ensures.1),
      omega (arith, walk_le b a.j c.followed-other.result other, c.links-links.ensures.1),
    )

pub returns : goal.returns
returns c =
    let a = c.args in
    let p = a.path.now in
    let b = c.bundle-bundle in
    let after = next_is b.result.now a.i c.link-first.ensures.1 (rw c.links-links.ensures.0 at c.followed-after.ensures)
    ∙ ap (λ (x : Bundle). next_of x.links a.i) b.ensures in
    let other = next_is b.result.now a.j c.link-second.ensures.1 (rw c.links-links.ensures.0 at c.followed-other.ensures)
    ∙ ap (λ (x : Bundle). next_of x.links a.j) b.ensures in
    let kind = c.term_field-kind.ensures ∙ ap (λ (x : Bundle). (term_of x a.l).kind) b.ensures in (
      turn_at a.l a.left (c.link-first.ensures.0 ∙ ap (λ (x : Bundle). (link_of x a.i).value) b.ensures)
          (c.link-second.ensures.0 ∙ ap (λ (x : Bundle). (link_of x a.j).value) b.ensures) c.turn_to.ensures,
      elim c.if-kind-number.branch [
        | then-kind-number w ↦ w.path-is ∙ taken_off p.sets.bundle p a.l a.i a.j kind after other (rw c.number.ensures at w.if-kind-number.true) w.pop.ensures
        | else-kind-number w ↦ w.path-is ∙ taken_on p.sets.bundle p a.l a.i a.j kind after other (rw c.number.ensures at w.if-kind-number.false) w.advance.ensures
      ],
    )
