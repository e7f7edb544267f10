-- `names::known_as` meets its contract.
use mathlib.Core.Path.{◌∙◌}
use Rattle.lexing.proofs.NumeralLaws as N
use Rattle.lexing.proofs.names.known_as.Goals as goal

pub returns-then-place-eq1 : goal.returns-then-place-eq1
returns-then-place-eq1 c =
    c.is_some-symbol.ensures ∙ N.known_symbol _ _ _ _ _ _ c.variable_called.ensures c.symbol_called.ensures c.if-place-eq1.true

pub returns-then-place-eq2 : goal.returns-then-place-eq2
returns-then-place-eq2 c =
    c.is_some-variable.ensures
    ∙ N.known_variable _ _ _ _ _ _ c.variable_called.ensures c.symbol_called.ensures c.if-place-eq1.false c.if-place-eq2.true

pub returns : goal.returns
returns c =
    rw (c.is_some-variable.ensures, c.is_some-symbol.ensures)
    (N.known_either _ _ _ _ _ _ c.variable_called.ensures c.symbol_called.ensures c.if-place-eq1.false c.if-place-eq2.false)
