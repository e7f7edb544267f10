-- `texts::text_fault` meets its contract: the verdict of the scan, then that of the sorts.
use mathlib.Core.Path.{refl, sym, ap, ◌∙◌}
use mathlib.Core.Bool.{Bool, cond}
use Rattle.std.proofs.lemmas.Result.{err_from_is_err_and}
use Rattle.logic.specs.Tests.{fault}
use Rattle.logic.proofs.CheckNumbers.{number_some}
use Rattle.reader.proofs.TextTests.{scan_refuses, scan_passes}
use Rattle.reader.proofs.texts.text_fault.Goals as goal

pub returns-in_err-scan : goal.returns-in_err-scan
returns-in_err-scan c =
    let p = err_from_is_err_and c.from_residual.result c.from_residual.ensures.1 in
    let told = rw (c.symbols-symbols.ensures.0, c.variables-variables.ensures.0) at c.in_err-scan.ensures in
    rw (p.1, p.2) (scan_refuses c.args.bundle.now c.args.text.now _ told (number_some c.in_err-scan.field-0.0.check))

-- `sorts` is what the sorts' test says where the scan does not refuse
pub returns-then-not-text_fine : goal.returns-then-not-text_fine
returns-then-not-text_fine c =
    let told = rw (c.symbols-symbols.ensures.0, c.variables-variables.ensures.0) at c.in_ok-scan.ensures in
    let sorts = scan_passes c.args.bundle.now c.args.text.now _ told c.text_fine.result c.text_fine.ensures refl in
    rw c.into.ensures (ap (λ (q : Bool). cond q (fault 0 0) (fault 8 0)) (sym c.if-not-text_fine.true) ∙ sorts)

pub returns : goal.returns
returns c =
    let told = rw (c.symbols-symbols.ensures.0, c.variables-variables.ensures.0) at c.in_ok-scan.ensures in
    let sorts = scan_passes c.args.bundle.now c.args.text.now _ told c.text_fine.result c.text_fine.ensures refl in
    ap (λ (q : Bool). cond q (fault 0 0) (fault 8 0)) (sym c.if-not-text_fine.false) ∙ sorts
