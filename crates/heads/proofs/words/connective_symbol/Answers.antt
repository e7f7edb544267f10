-- `words::connective_symbol` meets its contract.
use native.Mathlib.Omega.{arith}
use borrow.Author.Tests.{eq-eqb, ne_eqb}
use Rattle.reading.specs.Typing.{connective_symbol}
use Rattle.heads.proofs.words.connective_symbol.Goals as goal

pub returns-in-And : goal.returns-in-And
unfolding connective_symbol
returns-in-And c = (rw c.in-And.is, omega arith)

pub returns-in-Or : goal.returns-in-Or
unfolding connective_symbol
returns-in-Or c = (rw c.in-Or.is, omega arith)

pub returns-in-Implies : goal.returns-in-Implies
unfolding connective_symbol
returns-in-Implies c = (rw c.in-Implies.is, omega arith)

pub returns-then-sort-eq0 : goal.returns-then-sort-eq0
unfolding connective_symbol
returns-then-sort-eq0 c = (rw (c.in-Equal.is, eq-eqb c.args.sort 0 c.if-sort-eq0.true), omega arith)

pub returns-else-sort-eq0 : goal.returns-else-sort-eq0
unfolding connective_symbol
returns-else-sort-eq0 c = (rw (c.in-Equal.is, ne_eqb c.args.sort 0 c.if-sort-eq0.false), omega arith)
