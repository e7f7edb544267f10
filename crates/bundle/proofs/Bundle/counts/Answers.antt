-- `Bundle::counts` meets its contract: the bundle's counts are those of the file.
use mathlib.Core.Path.{sym}
use Rattle.bundle.proofs.Fields.{own_counts_are}
use Rattle.bundle.proofs.Bundle.counts.Goals as goal

pub returns : goal.returns
returns c =
    let b = c.self.inside in
    (rw (← c.self.view_is) (sym (own_counts_are b.file.now b.counts)), c.self.invariant.whole.within)
