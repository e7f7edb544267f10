-- `Bundle::variable_sort` meets its contract: `variable_is`, with the file from the section on.
use native.Mathlib.Omega.{arith}
use mathlib.Core.Path.{sym, ◌∙◌}
use Rattle.bundle.specs.Words.{word_at}
use Rattle.bundle.specs.Limits.{variables_at}
use Rattle.bundle.proofs.Fields.{variable_is}
use Rattle.bundle.proofs.Parts.{field_from}
use Rattle.bundle.proofs.Bundle.variable_sort.Goals as goal

pub returns : goal.returns
returns c =
    let b = c.self.inside in
    let w = c.self.invariant in
    rw (← c.self.view_is)
    ((rw w.variables at c.field.ensures)
    ∙ field_from b.file.now (variables_at b.counts) 1 b.counts.variables c.args.i 0 (omega arith) (omega (arith, w.whole.exact))
    ∙ sym (variable_is (word_at b.file.now) b.counts b.counts c.args.i))
