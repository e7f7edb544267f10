-- `Bundle::symbol_field` meets its contract: `symbol_is`, with the file from the section on.
use native.Mathlib.Omega.{arith}
use mathlib.Core.Path.{sym, ◌∙◌}
use Rattle.bundle.specs.Words.{word_at}
use Rattle.bundle.specs.Limits.{symbols_at}
use Rattle.bundle.proofs.Fields.{symbol_is}
use Rattle.bundle.proofs.Parts.{field_from}
use Rattle.bundle.proofs.Bundle.symbol_field.Goals as goal

pub returns : goal.returns
returns c =
    let b = c.self.inside in
    let w = c.self.invariant in
    rw (← c.self.view_is)
    ((rw w.symbols at c.field.ensures)
    ∙ field_from b.file.now (symbols_at b.counts) 2 b.counts.symbols c.args.i c.args.k c.requires (omega (arith, w.whole.exact))
    ∙ sym (symbol_is (word_at b.file.now) b.counts b.counts c.args.i c.args.k c.requires))
