-- `section_fault` meets its contract.
use native.Mathlib.Omega.{arith}
use mathlib.Core.Path.{refl, sym, ◌∙◌}
use Rattle.logic.proofs.Firsts.{rest_start, rest_on, rest_here, rest_end}
use Rattle.logic.proofs.CheckNumbers.{number_some}
use Rattle.declarations.proofs.section_fault.Goals as goal

pub loop-record-init : goal.loop-record-init
loop-record-init c = rest_start _ _

pub returns-in-Err : goal.returns-in-Err
returns-in-Err c = sym (c.loop-record.invariant ∙ rest_here _ _ _ c.in-Err.ensures (omega arith) (number_some c.in-Err.check))

pub loop-record-preserved : goal.loop-record-preserved
loop-record-preserved c = c.loop-record.invariant ∙ rest_on _ _ _ c.in_default.ensures (omega arith) refl

pub returns : goal.returns
returns c = sym (c.loop-record.invariant ∙ rest_end _ _ _ (omega arith))

pub returns-in_default : goal.returns-in_default
returns-in_default c =
    sym (c.loop-record.invariant ∙ rest_on _ _ _ c.in_default.ensures (omega arith) refl ∙ rest_end _ _ _ (omega arith))
