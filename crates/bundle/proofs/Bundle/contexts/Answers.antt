-- `Bundle::contexts` meets its contract: the section is as long as the counts say.
use mathlib.Core.Path.{sym}
use Rattle.bundle.proofs.Fields.{contexts_length}
use Rattle.bundle.proofs.Bundle.contexts.Goals as goal

pub returns : goal.returns
returns c = (rw (← c.self.view_is) (sym (contexts_length c.self.inside.file.now c.self.inside.counts)), c.self.invariant.whole.within.contexts)
