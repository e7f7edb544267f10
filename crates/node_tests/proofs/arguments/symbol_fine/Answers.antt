-- `arguments::symbol_fine` meets its contract.
use native.Mathlib.Omega.{arith}
use Rattle.node_tests.proofs.ArgumentLaws.{symbol_range, takes_none, takes_list}
use Rattle.node_tests.proofs.arguments.symbol_fine.Goals as goal

pub overflow_sub-f : goal.overflow_sub-f
overflow_sub-f c =
    let x = c.in-Some.ensures in
    omega (arith, (symbol_range c.args.bundle.now c.args.name.now c.symbols.ensures.0 x.0 x.1).0)

pub returns-in-Some : goal.returns-in-Some
returns-in-Some c =
    let x = c.in-Some.ensures in
    takes_list c.args.bundle.now c.args.name.now c.symbols.ensures.0 x.0 x.1 _ c.symbol_field.ensures _ _ c.arguments_fit.ensures

pub returns-in-None : goal.returns-in-None
returns-in-None c = takes_none c.args.bundle.now c.args.name.now c.symbols.ensures.0 c.in-None.ensures _
