-- `Bundle::links` meets its contract: the section is as long as the counts say.
use mathlib.Core.Path.{sym}
use Rattle.bundle.proofs.Fields.{links_length}
use Rattle.bundle.proofs.Bundle.links.Goals as goal

pub returns : goal.returns
returns c = (rw (← c.self.view_is) (sym (links_length c.self.inside.file.now c.self.inside.counts)), c.self.invariant.whole.within.links)
