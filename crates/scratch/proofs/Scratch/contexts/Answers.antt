-- `Scratch::contexts` meets its contract: the section is as long as the counts say.
use mathlib.Core.Path.{sym}
use Rattle.scratch.proofs.ScratchFields.{sized_as}
use Rattle.scratch.proofs.Scratch.contexts.Goals as goal

pub returns : goal.returns
returns c = (sym (sized_as _ _ c.self.view_is).contexts, c.self.invariant.within.contexts)
