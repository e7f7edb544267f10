-- `noted_sections` meets its contract: the arrays are zero at first and large enough.
use native.Mathlib.Omega.{arith}
use Rattle.bundle.proofs.LinkNotes.{zeros}
use Rattle.terms.proofs.noted_sections.Goals as goal

pub noted-requires : goal.noted-requires
noted-requires c = (omega arith, zeros 256)

pub noted-requires-2 : goal.noted-requires-2
noted-requires-2 c = (omega arith, zeros 1025)
