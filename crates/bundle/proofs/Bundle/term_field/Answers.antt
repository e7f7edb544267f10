-- `Bundle::term_field` meets its contract: `term_is`, with the file from the section on.
use native.Mathlib.Omega.{arith}
use mathlib.Core.Path.{sym, ◌∙◌}
use Rattle.bundle.specs.Words.{word_at}
use Rattle.bundle.specs.Limits.{terms_at}
use Rattle.bundle.proofs.Fields.{term_is}
use Rattle.bundle.proofs.Parts.{field_from}
use Rattle.bundle.proofs.Bundle.term_field.Goals as goal

pub returns : goal.returns
returns c =
    let b = c.self.inside in
    let w = c.self.invariant in
    rw (← c.self.view_is)
    ((rw w.terms at c.field.ensures)
    ∙ field_from b.file.now (terms_at b.counts) 4 b.counts.terms c.args.i c.args.k c.requires (omega (arith, w.whole.exact))
    ∙ sym (term_is (word_at b.file.now) b.counts b.counts c.args.i c.args.k c.requires))
