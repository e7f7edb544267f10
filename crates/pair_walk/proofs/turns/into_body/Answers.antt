-- `turns::into_body` meets its contract: one pair of variables crossed.
use native.Mathlib.Omega.{arith}
use mathlib.Core.Path.{ap, ◌∙◌}
use Rattle.bundle.specs.Bundle.{Bundle, term_of}
use Rattle.pair_walk.specs.Agenda.{leaves}
use Rattle.pair_walk.proofs.FrameWords.{turn_at}
use Rattle.pair_walk.proofs.Soundness.{sorts_known}
use Rattle.pair_walk.proofs.turns.into_body.Goals as goal

pub cross-requires : goal.cross-requires
cross-requires c =
    let a = c.args in
    let b = a.path.now.sets.bundle in
    let x = c.term_field.ensures ∙ ap (λ (x : Bundle). (term_of x a.l).a) c.bundle-bundle.ensures in
    let y = c.term_field-2.ensures ∙ ap (λ (x : Bundle). (term_of x a.r).a) c.bundle-bundle.ensures in
    let known = sorts_known b (term_of b a.l).a (term_of b a.r).a c.requires.1 in
    (omega (arith, c.requires.0), rw x known.0, rw y known.1)

pub returns : goal.returns
unfolding leaves
returns c =
    let a = c.args in
    let B = c.bundle-bundle.ensures in
    let x = c.term_field.ensures ∙ ap (λ (x : Bundle). (term_of x a.l).a) B in
    let y = c.term_field-2.ensures ∙ ap (λ (x : Bundle). (term_of x a.r).a) B in (
      turn_at a.l a.left (c.term_field-3.ensures ∙ ap (λ (x : Bundle). (term_of x a.l).b) B)
          (c.term_field-4.ensures ∙ ap (λ (x : Bundle). (term_of x a.r).b) B) c.turn_to.ensures,
      c.cross.ensures ∙ rw (x, y),
    )
