-- `takes` meets its contract, by the cases of the argument sorts.
use mathlib.Core.Path.{◌∙◌}
use Rattle.logic.specs.Symbols.{argument_sorts}
use Rattle.pass_terms.proofs.PairSorts.{none_left}
use Rattle.pass_terms.proofs.sorts.takes.Goals as goal

pub returns-in-BuiltIn : goal.returns-in-BuiltIn
unfolding argument_sorts
returns-in-BuiltIn c = rw c.in-BuiltIn.is c.all_of_sort.ensures

pub returns-in-Declared : goal.returns-in-Declared
unfolding argument_sorts
returns-in-Declared c = rw (c.in-Declared.is, ← c.symbol_field.ensures) c.same_halves.ensures

pub returns-in-Unknown : goal.returns-in-Unknown
unfolding argument_sorts
returns-in-Unknown c = rw c.in-Unknown.is (c.is_empty.ensures ∙ none_left c.args.pairs.now)
