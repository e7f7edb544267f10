-- `words::symbol_for` meets its contract.
use native.Mathlib.Omega.{arith}
use mathlib.Core.Path.{◌∙◌}
use Prim.Native.Nat.{◌+◌}
use Rattle.lexing.proofs.NumeralLaws.{numbered_or, within_le}
use Rattle.heads.specs.HeadSymbols.{symbol_for}
use Rattle.heads.proofs.words.symbol_for.Goals as goal

pub returns-then-value : goal.returns-then-value
unfolding symbol_for
returns-then-value c = (rw (c.in-Constant.is, c.if-value.true), omega arith)

pub returns-else-value : goal.returns-else-value
unfolding symbol_for
returns-else-value c = (rw (c.in-Constant.is, c.if-value.false), omega arith)

pub returns-in-Negation : goal.returns-in-Negation
unfolding symbol_for
returns-in-Negation c = (rw c.in-Negation.is, omega arith)

pub returns-in-Quantifier : goal.returns-in-Quantifier
unfolding symbol_for
returns-in-Quantifier c = (rw c.in-Quantifier.is, omega arith)

pub returns-in-Let : goal.returns-in-Let
unfolding symbol_for
returns-in-Let c = (rw c.in-Let.is, omega arith)

pub returns-in-Sort : goal.returns-in-Sort
unfolding symbol_for
returns-in-Sort c = (rw c.in-Sort.is, omega arith)

pub returns-in-Connective : goal.returns-in-Connective
unfolding symbol_for
returns-in-Connective c = (rw c.in-Connective.is c.connective_symbol.ensures.0, omega (arith, c.connective_symbol.ensures.1))

pub returns-in-Name : goal.returns-in-Name
unfolding symbol_for
returns-in-Name c =
    let is = numbered_or _ c.symbol_called.result c.symbol_called.ensures in
    let few = within_le 102 33 (32 + c.args.symbols) c.in-Name.run'.now in
    let same = c.unwrap_or.ensures ∙ is in
    (rw c.in-Name.is same, omega (arith, same, few, c.requires))
