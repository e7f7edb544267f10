-- `words::goes_on_lem` meets its contract: each range by the table of all bytes.
use native.Mathlib.Omega.{arith}
use Rattle.pass_tokens.proofs.RunLaws.{goes_letter, goes_capital, goes_digit, goes_sign, goes_low}
use Rattle.pass_tokens.proofs.words.goes_on.Goals as goal

pub returns-then-x-gt96 : goal.returns-then-x-gt96
returns-then-x-gt96 c = goes_letter c.args.x (omega arith) c.if-x-gt96.true

pub returns-then-x-gt59 : goal.returns-then-x-gt59
returns-then-x-gt59 c = goes_capital c.args.x (omega arith) c.if-x-gt96.false c.if-x-gt59.true

pub returns-then-x-gt47 : goal.returns-then-x-gt47
returns-then-x-gt47 c = goes_digit c.args.x (omega arith) c.if-x-gt96.false c.if-x-gt59.false c.if-x-gt47.true

pub returns-then-x-gt41 : goal.returns-then-x-gt41
returns-then-x-gt41 c =
    goes_sign c.args.x (omega arith) c.if-x-gt96.false c.if-x-gt59.false c.if-x-gt47.false c.if-x-gt41.true

pub returns : goal.returns
returns c =
    goes_low c.args.x (omega arith) c.if-x-gt96.false c.if-x-gt59.false c.if-x-gt47.false c.if-x-gt41.false
