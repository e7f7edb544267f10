-- `Bundle::step_field` meets its contract: `step_is`, with the file from the section on.
use native.Mathlib.Omega.{arith}
use mathlib.Core.Path.{sym, ◌∙◌}
use Rattle.bundle.specs.Words.{word_at}
use Rattle.bundle.specs.Limits.{steps_at}
use Rattle.bundle.proofs.Fields.{step_is}
use Rattle.bundle.proofs.Parts.{field_from}
use Rattle.bundle.proofs.Bundle.step_field.Goals as goal

pub returns : goal.returns
returns c =
    let b = c.self.inside in
    let w = c.self.invariant in
    rw (← c.self.view_is)
    ((rw w.steps at c.field.ensures)
    ∙ field_from b.file.now (steps_at b.counts) 5 b.counts.steps c.args.i c.args.k c.requires (omega (arith, w.whole.exact))
    ∙ sym (step_is (word_at b.file.now) b.counts b.counts c.args.i c.args.k c.requires))
