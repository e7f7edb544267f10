-- `Judging::step_fault` meets its contract: the words of the step, the walk over its premises, and then the rest.
use Prim.Native.Nat.{ℕ, ◌-◌, ◌<◌}
use mathlib.Core.Path.{◌≡◌, refl, sym, ap, ◌∙◌}
use lib.ListN.{length}
use Rattle.bundle.specs.Bundle.{Bundle, Step, step_of}
use Rattle.bundle.specs.Links.{items}
use Rattle.bundle.specs.Lists.{numbers, each}
use Rattle.bundle.specs.RecordWords.{as_step}
use Rattle.images.specs.LentReading.{reading_in}
use Rattle.steps.proofs.RuleOf.{refers_places, refers_earlier, list_past}
use Rattle.steps.proofs.Verdicts.{after_refers, after_rule, on_ok}
use Rattle.steps.proofs.steps.Judging.step_fault.Goals as goal

-- the step, of the bundle that was handed out
step_is : {b b' : Bundle} {s : Step} (k : ℕ) → b ≡ b' → s ≡ step_of b k → s ≡ step_of b' k
step_is k same e = e ∙ ap (λ (b : Bundle). step_of b k) same

pub returns-then-premises-links-clause-fact : goal.returns-then-premises-links-clause-fact
returns-then-premises-links-clause-fact c =
    let a = c.args in
    let b = c.self.inside.known.now.sets.bundle in
    let s = c.step-s in
    let p = each (numbers (a.k - 1)) (items b s.result.premises) in
    let past : length b.links < s.result.premises = rw (c.links.ensures.0, c.bundle-bundle.ensures) at c.if-premises-links.true in
    rw (← c.self.view_is)
    (after_refers _ b (as_step s.result) _ _ (step_is a.k c.bundle-bundle.ensures s.ensures) p refl (list_past b (as_step s.result) p past))

pub returns-then-not-step_refers-clause-fact : goal.returns-then-not-step_refers-clause-fact
returns-then-not-step_refers-clause-fact c =
    let before = rw c.bundle-bundle.ensures at c.far_lower-before.ensures in
    rw (← c.self.view_is)
    (after_refers _ _ _ _ _ (step_is c.args.k c.bundle-bundle.ensures c.step-s.ensures) _ before.0
    (rw c.bundle-bundle.ensures at (sym c.step_refers.ensures ∙ c.if-not-step_refers.true)))

pub scoped_fault-requires : goal.scoped_fault-requires
scoped_fault-requires c =
    rw (← c.self.view_is)
    (refers_places c.self.inside.known.now.sets.bundle (as_step c.step-s.result) c.far_lower-before.result
    (rw c.bundle-bundle.ensures at (sym c.step_refers.ensures ∙ c.if-not-step_refers.false)))

pub returns-clause-fact : goal.returns-clause-fact
unfolding reading_in
returns-clause-fact c =
    let i = c.self.inside in
    let k = i.known.now in
    let s = c.step-s in
    let before = rw c.bundle-bundle.ensures at c.far_lower-before.ensures in
    let refers = rw c.bundle-bundle.ensures at (sym c.step_refers.ensures ∙ c.if-not-step_refers.false) in
    rw (← c.self.view_is)
    (after_rule (reading_in k i.bed.now) k.sets.bundle (as_step s.result) _ _ (step_is c.args.k c.bundle-bundle.ensures s.ensures)
    c.far_lower-before.result before.0 _ refers (rw (← c.self.view_is) at c.scoped_fault.ensures))

pub returns-clause-lower_noted : goal.returns-clause-lower_noted
returns-clause-lower_noted c =
    let b = c.self.inside.known.now.sets.bundle in
    let s = as_step c.step-s.result in
    let before = rw c.bundle-bundle.ensures at c.far_lower-before.ensures in
    let refers = rw c.bundle-bundle.ensures at (sym c.step_refers.ensures ∙ c.if-not-step_refers.false) in
    rw (← c.self.view_is) (on_ok c.scoped_fault.result (before.1 (refers_earlier b s c.far_lower-before.result refers)))
