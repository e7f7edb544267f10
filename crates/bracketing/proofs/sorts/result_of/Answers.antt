-- `sorts::result_of` meets its contract.
use Rattle.bracketing.proofs.SortLaws.{result_named, result_none, result_other}
use Rattle.bracketing.proofs.sorts.result_of.Goals as goal

pub returns-in-Some : goal.returns-in-Some
returns-in-Some c =
    rw c.in-Name.is
    (result_named c.args.bundle.now _ c.symbols.ensures.0 c.in-Some.ensures.0 c.signature_of.ensures c.result_sort.ensures)

pub returns-in_default-symbol_called : goal.returns-in_default-symbol_called
returns-in_default-symbol_called c = rw c.in-Name.is (result_none c.args.bundle.now _ c.symbols.ensures.0 c.in_default-symbol_called.ensures)

pub returns-in_default : goal.returns-in_default
returns-in_default c = result_other c.args.bundle.now c.args.head c.in_default.not-Name
