-- `Judging::refl_verdict` meets its contract: a form takes the step, or the walk judges it.
use mathlib.Core.Path.{◌∙◌, sym}
use Rattle.bundle.specs.RecordWords.{as_step}
use Rattle.images.specs.LentReading.{reading_in}
use Rattle.steps.proofs.Verdicts.{leaves_at_most, images_here, form_judged, walk_judged}
use Rattle.steps.proofs.steps.Judging.refl_verdict.Goals as goal

pub returns-then-refl_holds : goal.returns-then-refl_holds
unfolding reading_in
returns-then-refl_holds c =
    let i = c.self.inside in
    let k = i.known.now in
    rw (← c.self.view_is)
    (form_judged (reading_in k i.bed.now) k.sets.bundle (as_step c.args.s) c.requires.1 (sym c.refl_holds.ensures ∙ c.if-refl_holds.true))

pub walk_verdict-requires : goal.walk_verdict-requires
walk_verdict-requires c = leaves_at_most _ _ _ _ _ _ c.pair_walk-walked.ensures

pub returns : goal.returns
unfolding reading_in
returns c =
    let i = c.self.inside in
    let k = i.known.now in
    let s = as_step c.args.s in
    let p = rw (← c.self.view_is) at c.requires in
    rw (← c.self.view_is)
    (walk_judged (reading_in k i.bed.now) k.sets.bundle s p.1 c.pair_walk-walked.result _ (images_here k.sets.bundle k.images s.context p.0)
    (rw (c.sets.ensures.0, c.images.ensures.0) at c.pair_walk-walked.ensures) (sym c.refl_holds.ensures ∙ c.if-refl_holds.false) _ c.walk_verdict.ensures)
