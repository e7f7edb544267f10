-- `View::links` meets its contract: the section is as long as the counts say.
use mathlib.Core.Path.{sym}
use Rattle.scratch.proofs.ScratchFields.{sized_as}
use Rattle.scratch.proofs.View.links.Goals as goal

pub returns : goal.returns
returns c = (sym (sized_as _ _ c.self.view_is).links, c.self.invariant.within.links)
