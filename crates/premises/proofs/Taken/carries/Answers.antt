-- `carries` meets its contract: a step of the file by its record, another by three reads, in the definition's order.
use native.Mathlib.Omega.{arith}
use mathlib.Core.Path.{ap, sym, ◌∙◌}
use Rattle.bundle.specs.Bundle.{Step}
use Rattle.logic.specs.Rules.{carries}
use Rattle.logic.proofs.Tests.{numbers_of_lem}
use Rattle.premises.proofs.BedSteps.{taken_step}
use Rattle.premises.proofs.Taken.carries.Goals as goal

pub record_carries-requires : goal.record_carries-requires
record_carries-requires c =
    let h = numbers_of_lem _ c.args.p (rw c.steps-steps.ensures.0 at c.if-p-steps.true) in
    ((λ z. omega (arith, h.0)), h.1)

pub returns-then-p-steps : goal.returns-then-p-steps
returns-then-p-steps c =
    let a = c.args in
    let h = numbers_of_lem _ a.p (rw c.steps-steps.ensures.0 at c.if-p-steps.true) in
    rw (← c.self.view_is) (c.record_carries.ensures ∙ sym (ap (λ (s : Step). carries s a.context a.l a.r) (taken_step _ _ a.p h.1)))
