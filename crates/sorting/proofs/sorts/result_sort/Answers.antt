-- `sorts::result_sort` meets its contract, which goes by the same cases.
use Rattle.logic.specs.Symbols.{result_sort}
use Rattle.sorting.proofs.sorts.result_sort.Goals as goal

pub returns-in-BuiltIn : goal.returns-in-BuiltIn
unfolding result_sort
returns-in-BuiltIn c = rw c.in-BuiltIn.is

pub returns-in-Declared : goal.returns-in-Declared
unfolding result_sort
returns-in-Declared c = rw c.in-Declared.is c.symbol_field.ensures

pub returns-in-Unknown : goal.returns-in-Unknown
unfolding result_sort
returns-in-Unknown c = rw c.in-Unknown.is
