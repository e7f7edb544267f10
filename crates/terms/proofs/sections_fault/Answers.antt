-- `sections_fault` meets its contract: where links, symbols and variables have no fault, the terms say.
use mathlib.Core.Path.{refl, ◌∙◌}
use Rattle.std.proofs.lemmas.Result.{err_from_is_err_and}
use Rattle.logic.specs.Checks.{sections_fault}
use Rattle.logic.proofs.CheckNumbers.{number_some}
use Rattle.declarations.proofs.Sections.{sections_here, sections_on}
use Rattle.terms.proofs.sections_fault.Goals as goal

pub returns-in_err-sections_fault : goal.returns-in_err-sections_fault
unfolding sections_fault
returns-in_err-sections_fault c =
    let e = c.in_err-sections_fault in
    let p = err_from_is_err_and c.from_residual.result c.from_residual.ensures.1 in
    rw (p.1, p.2) (sections_here _ _ _ (rw c.bundle.ensures at e.ensures) (number_some e.field-0.0.check))

pub returns : goal.returns
unfolding sections_fault
returns c = c.terms_fault.ensures ∙ sections_on _ _ _ (rw c.bundle.ensures at c.in_ok-sections_fault.ensures) refl
