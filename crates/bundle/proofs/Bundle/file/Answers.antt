-- `Bundle::file` meets its contract: the bundle's counts are those of the file.
use mathlib.Core.Path.{◌≡◌}
use Rattle.bundle.specs.File.{own_counts}
use Rattle.bundle.proofs.Fields.{own_counts_are}
use Rattle.bundle.proofs.Bundle.file.Goals as goal

pub returns : goal.returns
returns c =
    let b = c.self.inside in
    let own : own_counts c.args.self.now ≡ b.counts = rw (← c.self.view_is) (own_counts_are b.file.now b.counts) in
    rw own (c.self.invariant.whole, c.self.view_is)
