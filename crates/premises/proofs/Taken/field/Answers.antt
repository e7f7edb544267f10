-- `field` meets its contract: a step of the file, of the bed, or of neither.
use native.Mathlib.Omega.{arith}
use mathlib.Core.Path.{sym, ◌∙◌}
use Rattle.premises.proofs.BedSteps.{taken_file, taken_bed, taken_none}
use Rattle.premises.proofs.Taken.field.Goals as goal

pub returns-then-p-steps : goal.returns-then-p-steps
returns-then-p-steps c =
    let a = c.args in
    rw (← c.self.view_is) (c.step_field.ensures ∙ sym (taken_file _ _ a.p a.k (rw c.steps-steps.ensures.0 at c.if-p-steps.true)))

pub returns-then-j-self : goal.returns-then-j-self
returns-then-j-self c =
    let a = c.args in
    rw (← c.self.view_is)
    ((rw c.steps-steps.ensures.0 at c.wide.ensures.0)
    ∙ sym (taken_bed _ _ a.p a.k (rw c.steps-steps.ensures.0 at c.if-p-steps.false) (omega arith) (rw c.steps-steps.ensures.0 at c.if-j-self.true)))

pub returns : goal.returns
returns c =
    let a = c.args in
    rw (← c.self.view_is)
    (sym (taken_none _ _ a.p a.k (rw c.steps-steps.ensures.0 at c.if-p-steps.false) (omega arith) (rw c.steps-steps.ensures.0 at c.if-j-self.false)))
