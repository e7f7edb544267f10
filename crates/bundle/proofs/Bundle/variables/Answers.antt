-- `Bundle::variables` meets its contract: the section is as long as the counts say.
use mathlib.Core.Path.{sym}
use Rattle.bundle.proofs.Fields.{variables_length}
use Rattle.bundle.proofs.Bundle.variables.Goals as goal

pub returns : goal.returns
returns c = (rw (← c.self.view_is) (sym (variables_length c.self.inside.file.now c.self.inside.counts)), c.self.invariant.whole.within.variables)
