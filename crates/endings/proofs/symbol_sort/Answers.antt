-- `symbol_sort` meets its contract.
use mathlib.Core.Path.{ap, ◌∙◌}
use Rattle.logic.specs.Symbols.{kind_of_symbol, signature_of, result_sort}
use Rattle.endings.proofs.symbol_sort.Goals as goal

pub returns : goal.returns
unfolding signature_of kind_of_symbol
returns c =
    c.result_sort.ensures ∙ ap (result_sort c.args.bundle.now) c.signature_of-s.ensures
