-- `Scratch::variables` meets its contract: the section is as long as the counts say.
use mathlib.Core.Path.{sym}
use Rattle.scratch.proofs.ScratchFields.{sized_as}
use Rattle.scratch.proofs.Scratch.variables.Goals as goal

pub returns : goal.returns
returns c = (sym (sized_as _ _ c.self.view_is).variables, c.self.invariant.within.variables)
