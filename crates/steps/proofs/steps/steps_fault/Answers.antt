-- `steps::steps_fault` meets its contract: the arrays are zero at first and large enough.
use native.Mathlib.Omega.{arith}
use Rattle.bundle.proofs.LinkNotes.{zeros}
use Rattle.steps.proofs.steps.steps_fault.Goals as goal

pub steps_fault_in-requires : goal.steps_fault_in-requires
steps_fault_in-requires c = (c.requires, rw (c.links.ensures.0, c.bundle.ensures) at c.if-links-lt256.true, zeros 256)

pub steps_fault_in-requires-2 : goal.steps_fault_in-requires-2
steps_fault_in-requires-2 c = (c.requires, omega (arith, rw c.bundle.ensures at c.links.ensures.0, c.links.ensures.1), zeros 2049)
