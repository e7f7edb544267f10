-- `arguments::word_fine` meets its contract.
use native.Mathlib.Omega.{arith}
use mathlib.Core.Path.{◌∙◌, sym}
use borrow.Author.Tests.{ltb-true, ltb-false}
use Rattle.lexing.proofs.NumeralLaws.{numbered_some}
use Rattle.node_tests.proofs.ArgumentLaws.{symbol_range, fine_variable, fine_none, fine_list, fine_other}
use Rattle.node_tests.proofs.arguments.word_fine.Goals as goal

pub returns-in_default : goal.returns-in_default
returns-in_default c = fine_other c.args.bundle.now c.args.word c.in_default.not-Name

pub returns-then-is_some : goal.returns-then-is_some
returns-then-is_some c =
    let some = ltb-true 0 _ (sym (numbered_some _ _ c.variable_called.ensures) ∙ sym c.if-is_some.ensures) in
    rw c.in-Name.is (fine_variable c.args.bundle.now c.in-Name.name.now c.variables.ensures.0 (omega (arith, some)))

pub overflow_sub-f : goal.overflow_sub-f
overflow_sub-f c =
    let x = c.in-Some.ensures in
    omega (arith, (symbol_range c.args.bundle.now c.in-Name.name.now c.symbols.ensures.0 x.0 x.1).0)

pub returns-in-Some : goal.returns-in-Some
returns-in-Some c =
    let none = ltb-false 0 _ (sym (numbered_some _ _ c.variable_called.ensures) ∙ sym c.if-is_some.ensures) in
    let x = c.in-Some.ensures in
    rw c.in-Name.is
    (fine_list c.args.bundle.now c.in-Name.name.now c.variables.ensures.0 (omega (arith, none)) c.symbols.ensures.0 x.0 x.1 _ _ c.symbol_field.ensures c.first_link.ensures)

pub returns-in-None : goal.returns-in-None
returns-in-None c =
    let none = ltb-false 0 _ (sym (numbered_some _ _ c.variable_called.ensures) ∙ sym c.if-is_some.ensures) in
    rw c.in-Name.is
    (fine_none c.args.bundle.now c.in-Name.name.now c.variables.ensures.0 (omega (arith, none)) c.symbols.ensures.0 c.in-None.ensures)
