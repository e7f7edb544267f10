-- `Judging::rule_fault` meets its contract: a REFL is judged by itself, of another rule the first of the tests that fails.
use mathlib.Core.Path.{refl, sym, ◌∙◌}
use Rattle.bundle.specs.RecordWords.{as_step}
use Rattle.images.specs.LentReading.{reading_in}
use Rattle.steps.proofs.Verdicts.{other_judged}
use Rattle.steps.proofs.steps.Judging.rule_fault.Goals as goal

pub returns-then-not-step_matches : goal.returns-then-not-step_matches
unfolding reading_in
returns-then-not-step_matches c =
    let i = c.self.inside in
    let k = i.known.now in
    let g = reading_in k i.bed.now in
    let same = rw (c.of.ensures, c.bundle.ensures) at (c.step_matches.ensures g) in
    rw (← c.self.view_is) (other_judged g k.sets.bundle (as_step c.args.s) _ (λ e. c.if-s-number.false (e ∙ sym c.number.ensures))
    (rw (← same refl, c.if-not-step_matches.true)) tt)

pub returns-then-not-step_sides : goal.returns-then-not-step_sides
unfolding reading_in
returns-then-not-step_sides c =
    let i = c.self.inside in
    let k = i.known.now in
    let g = reading_in k i.bed.now in
    let same = rw (c.of.ensures, c.bundle.ensures) at (c.step_matches.ensures g) in
    let sides = rw (← c.self.view_is) at c.step_sides.ensures in
    rw (← c.self.view_is) (other_judged g k.sets.bundle (as_step c.args.s) _ (λ e. c.if-s-number.false (e ∙ sym c.number.ensures))
    (rw (← same refl, c.if-not-step_matches.false, ← sides, c.if-not-step_sides.true)) tt)

pub returns : goal.returns
unfolding reading_in
returns c =
    let i = c.self.inside in
    let k = i.known.now in
    let g = reading_in k i.bed.now in
    let same = rw (c.of.ensures, c.bundle.ensures) at (c.step_matches.ensures g) in
    let sides = rw (← c.self.view_is) at c.step_sides.ensures in
    rw (← c.self.view_is) (other_judged g k.sets.bundle (as_step c.args.s) _ (λ e. c.if-s-number.false (e ∙ sym c.number.ensures))
    (rw (← same refl, c.if-not-step_matches.false, ← sides, c.if-not-step_sides.false)) refl)
