-- `runs::class_of` meets its contract: each range by the table of all bytes.
use mathlib.Core.Path.{refl, ◌∙◌}
use native.Mathlib.Omega.{arith}
use Rattle.lexing.proofs.ClassLaws.{letter_like, capital_like, letter_class, capital_class, digit_class, byte_class, class_by, symbol_or}
use Rattle.lexing.proofs.runs.class_of.Goals as goal

pub returns-then-x-gt96 : goal.returns-then-x-gt96
returns-then-x-gt96 c = c.symbol_if.ensures ∙ symbol_or c.args.x (letter_like c.args.x) (letter_class c.args.x (omega arith) c.if-x-gt96.true)

pub returns-then-x-gt59 : goal.returns-then-x-gt59
returns-then-x-gt59 c =
    c.symbol_if-then-x-gt59.ensures ∙ symbol_or c.args.x (capital_like c.args.x) (capital_class c.args.x (omega arith) c.if-x-gt96.false c.if-x-gt59.true)

pub returns-then-x-eq59 : goal.returns-then-x-eq59
returns-then-x-eq59 c = class_by c.args.x _ (byte_class c.args.x 59 2 c.if-x-eq59.true (omega arith) refl)

pub returns-then-x-eq58 : goal.returns-then-x-eq58
returns-then-x-eq58 c = class_by c.args.x _ (byte_class c.args.x 58 7 c.if-x-eq58.true (omega arith) refl)

pub returns : goal.returns
returns c =
    class_by c.args.x _ (digit_class c.args.x (omega arith) c.if-x-lt48.false c.if-x-gt59.false c.if-x-eq59.false c.if-x-eq58.false)
