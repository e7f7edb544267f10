-- `texts::read_records` meets its contract: by the formula at byte 0.
use mathlib.Core.Path.{refl, ap, ◌∙◌, subst}
use Rattle.bundle.specs.File.{own_counts}
use Rattle.bundle.specs.Limits.{Within}
use Rattle.formulas.proofs.TextTurns.{text_reads}
use Rattle.formulas.proofs.texts.read_records.Goals as goal

pub returns : goal.returns
returns c =
    let g = c.read_formula-read.ensures in
    let k = c.counts.ensures in
    text_reads c.args.bundle.now refl (subst Within (k.0 ∙ ap own_counts c.scratch.ensures) k.1) g.0 g.1
