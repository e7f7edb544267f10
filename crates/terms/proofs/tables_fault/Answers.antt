-- `tables_fault` meets its contract: a file whose header has a fault has that; of any other the sections say.
use mathlib.Core.Path.{sym, ap, ◌∙◌}
use Rattle.std.proofs.lemmas.Result.{err_from_is_err_and}
use Rattle.logic.specs.Checks.{sections_fault, tables_fault}
use Rattle.logic.proofs.Firsts.{or_else_on, or_else_here}
use Rattle.logic.proofs.CheckNumbers.{number_some}
use Rattle.terms.proofs.tables_fault.Goals as goal

pub returns-in_err-bundle-clause-fault : goal.returns-in_err-bundle-clause-fault
unfolding tables_fault
returns-in_err-bundle-clause-fault c =
    let p = err_from_is_err_and c.from_residual.result c.from_residual.ensures.1 in
    rw (p.1, p.2) (rw (← c.in_err-bundle.ensures.number) (sym (or_else_here _ _ _ (number_some c.in_err-bundle.field-0.0))))

pub returns-in_err-noted_sections-clause-fault : goal.returns-in_err-noted_sections-clause-fault
unfolding tables_fault
returns-in_err-noted_sections-clause-fault c =
    let r = c.from_residual-in_err-noted_sections in
    let p = err_from_is_err_and r.result r.ensures.1 in
    let opened = c.in_ok-bundle.ensures in
    rw (p.1, p.2)
    (c.in_err-noted_sections.ensures ∙ ap sections_fault opened.bundle ∙ sym (or_else_on _ _ _ (sym opened.number)))

pub returns-clause-fault : goal.returns-clause-fault
unfolding tables_fault
returns-clause-fault c =
    let opened = c.in_ok-bundle.ensures in
    c.in_ok-noted_sections.ensures ∙ ap sections_fault opened.bundle ∙ sym (or_else_on _ _ _ (sym opened.number))
