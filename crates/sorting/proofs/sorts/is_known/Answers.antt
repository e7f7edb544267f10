-- `sorts::is_known` meets its contract, which goes by the same cases.
use Rattle.logic.specs.Symbols.{known}
use Rattle.sorting.proofs.sorts.is_known.Goals as goal

pub returns-in-BuiltIn : goal.returns-in-BuiltIn
unfolding known
returns-in-BuiltIn c = rw c.in-BuiltIn.is

pub returns-in-Declared : goal.returns-in-Declared
unfolding known
returns-in-Declared c = rw c.in-Declared.is

pub returns-in-Unknown : goal.returns-in-Unknown
unfolding known
returns-in-Unknown c = rw c.in-Unknown.is
