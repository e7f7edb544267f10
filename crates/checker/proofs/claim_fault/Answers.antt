-- `claim_fault` meets its contract: its one test is that of `claim_tests`.
use Rattle.logic.specs.Tests.{passed, first_failing}
use Rattle.checker.proofs.claim_fault.Goals as goal

pub returns-then-steps-context : goal.returns-then-steps-context
unfolding first_failing passed
returns-then-steps-context c =
    rw (
      ← c.steps-steps.ensures.0,
      ← c.step_field-context.ensures,
      ← c.step_field-left.ensures,
      ← c.step_field-right.ensures,
      ← c.claim_left-claimed_left.ensures.0,
      ← c.claim_right-claimed_right.ensures.0,
      c.if-steps-context.true,
    )

pub returns-else-steps-context : goal.returns-else-steps-context
unfolding first_failing passed
returns-else-steps-context c =
    rw (
      ← c.steps-steps.ensures.0,
      ← c.step_field-context.ensures,
      ← c.step_field-left.ensures,
      ← c.step_field-right.ensures,
      ← c.claim_left-claimed_left.ensures.0,
      ← c.claim_right-claimed_right.ensures.0,
      c.if-steps-context.false,
    )
