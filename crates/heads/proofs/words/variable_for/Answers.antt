-- `words::variable_for` meets its contract.
use Rattle.heads.specs.HeadSymbols.{variable_for}
use Rattle.heads.proofs.WordNumbers.{no_variable}
use Rattle.heads.proofs.words.variable_for.Goals as goal

pub returns-in-Name : goal.returns-in-Name
unfolding variable_for
returns-in-Name c = rw c.in-Name.is c.variable_called.ensures

pub returns-in_default : goal.returns-in_default
returns-in_default c = no_variable c.args.variables c.args.word c.in_default.not-Name
