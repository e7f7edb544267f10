-- `runs::low_class` meets its contract: each byte by the table of all.
use mathlib.Core.Path.{refl, ◌∙◌}
use native.Mathlib.Omega.{arith}
use Rattle.lexing.proofs.ClassLaws.{sign_like, byte_class, sign_class, class_by, symbol_or}
use Rattle.lexing.proofs.runs.low_class.Goals as goal

pub returns-then-x-eq32 : goal.returns-then-x-eq32
returns-then-x-eq32 c = class_by c.args.x _ (byte_class c.args.x 32 0 c.if-x-eq32.true (omega arith) refl)

pub returns-then-x-eq40 : goal.returns-then-x-eq40
returns-then-x-eq40 c = class_by c.args.x _ (byte_class c.args.x 40 3 c.if-x-eq40.true (omega arith) refl)

pub returns-then-x-eq41 : goal.returns-then-x-eq41
returns-then-x-eq41 c = class_by c.args.x _ (byte_class c.args.x 41 4 c.if-x-eq41.true (omega arith) refl)

pub returns-then-x-eq10 : goal.returns-then-x-eq10
returns-then-x-eq10 c = class_by c.args.x _ (byte_class c.args.x 10 1 c.if-x-eq10.true (omega arith) refl)

pub returns-then-x-eq13 : goal.returns-then-x-eq13
returns-then-x-eq13 c = class_by c.args.x _ (byte_class c.args.x 13 1 c.if-x-eq13.true (omega arith) refl)

pub returns-then-x-eq9 : goal.returns-then-x-eq9
returns-then-x-eq9 c = class_by c.args.x _ (byte_class c.args.x 9 0 c.if-x-eq9.true (omega arith) refl)

pub returns : goal.returns
returns c =
    c.symbol_if.ensures
    ∙ symbol_or c.args.x (sign_like c.args.x) (sign_class c.args.x c.requires c.if-x-eq32.false c.if-x-eq40.false c.if-x-eq41.false c.if-x-eq10.false
    c.if-x-eq13.false c.if-x-eq9.false)
