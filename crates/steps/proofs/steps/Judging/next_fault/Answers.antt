-- `Judging::next_fault` meets its contract: the walks over the premises, and then the rule.
use mathlib.Core.Path.{sym, refl, ◌∙◌}
use Rattle.bundle.specs.RecordWords.{as_step}
use Rattle.images.specs.LentReading.{reading_in}
use Rattle.steps.proofs.RuleOf.{refers_places}
use Rattle.steps.proofs.Verdicts.{after_refers, after_rule}
use Rattle.steps.proofs.steps.Judging.next_fault.Goals as goal

pub returns-then-not-step_refers : goal.returns-then-not-step_refers
returns-then-not-step_refers c =
    rw (← c.self.view_is)
    (after_refers _ _ _ _ _ refl _ (rw c.bundle-bundle.ensures at c.all_numbers-before.ensures)
    (rw c.bundle-bundle.ensures at (sym c.step_refers.ensures ∙ c.if-not-step_refers.true)))

pub scoped_fault-requires : goal.scoped_fault-requires
scoped_fault-requires c =
    rw (← c.self.view_is)
    (refers_places c.self.inside.known.now.sets.bundle (as_step c.args.s) c.all_numbers-before.result
    (rw c.bundle-bundle.ensures at (sym c.step_refers.ensures ∙ c.if-not-step_refers.false)))

pub returns : goal.returns
unfolding reading_in
returns c =
    let a = c.args in
    let i = c.self.inside in
    let k = i.known.now in
    let e = c.all_numbers-before in
    rw (← c.self.view_is)
    (after_rule (reading_in k i.bed.now) k.sets.bundle (as_step a.s) a.taken (as_step a.s) refl e.result (rw c.bundle-bundle.ensures at e.ensures) _
    (rw c.bundle-bundle.ensures at (sym c.step_refers.ensures ∙ c.if-not-step_refers.false)) (rw (← c.self.view_is) at c.scoped_fault.ensures))
