-- `sections_fault` meets its contract: a section with no fault leaves it to those after it.
use mathlib.Core.Path.{sym}
use Rattle.std.proofs.lemmas.Result.{err_from_is_err_and}
use Rattle.logic.specs.Tests.{or_else}
use Rattle.logic.proofs.Firsts.{or_else_here}
use Rattle.declarations.specs.Sections.{record_fault, declared_fault}
use Rattle.logic.proofs.CheckNumbers.{number_some}
use Rattle.declarations.proofs.sections_fault.Goals as goal

pub returns-in_err-section_fault : goal.returns-in_err-section_fault
unfolding declared_fault record_fault
returns-in_err-section_fault c =
    let e = c.in_err-section_fault in
    let p = err_from_is_err_and c.from_residual.result c.from_residual.ensures.1 in
    rw (p.1, p.2, ← c.links.ensures.0, ← e.ensures) (sym (or_else_here _ _ _ (number_some e.field-0.0.check)))

pub returns-in_err-section_fault-2 : goal.returns-in_err-section_fault-2
unfolding declared_fault record_fault or_else
returns-in_err-section_fault-2 c =
    let e = c.in_err-section_fault-2 in
    let f = c.from_residual-in_err-section_fault-2 in
    let p = err_from_is_err_and f.result f.ensures.1 in
    rw (p.1, p.2, ← c.links.ensures.0, ← c.in_ok-section_fault.ensures, ← c.symbols.ensures.0, ← e.ensures)
    (sym (or_else_here _ _ _ (number_some e.field-0.0.check)))

pub returns : goal.returns
unfolding declared_fault record_fault or_else
returns c =
    rw (
      ← c.links.ensures.0,
      ← c.in_ok-section_fault.ensures,
      ← c.symbols.ensures.0,
      ← c.in_ok-section_fault-2.ensures,
      ← c.variables.ensures.0,
    ) c.section_fault-3.ensures
