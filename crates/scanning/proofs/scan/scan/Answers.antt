-- `scan::scan` meets its contract. The invariant: the verdict is that of the rest of the text, from where the scan stands.
use borrow.Author.Rules.{rules}
use native.Mathlib.Omega.{arith}
use mathlib.Core.Path.{refl}
use Rattle.spots.specs.Judgement.{declared_by}
use Rattle.spots.proofs.ScanLaws.{passing_start, passing_on, passing_read, passing_short}
use Rattle.scanning.proofs.scan.scan.Goals as goal

pub loop-i-init : goal.loop-i-init
loop-i-init c = (passing_start _ _ _ _ c.lexeme_from-i.ensures, refl)

pub loop-i-smaller : goal.loop-i-smaller
loop-i-smaller c =
    let k = c.loop-i-test.true in
    let n = (passing_on (declared_by c.args.symbols c.args.variables) _ _ c.loop-i.p _ c.loop-i.invariant.0 _ k _ c.in_ok-t.ensures).1 in
    omega (arith, n, k)

pub loop-i-preserved : goal.loop-i-preserved
loop-i-preserved c = (
  (passing_on (declared_by c.args.symbols c.args.variables) _ _ c.loop-i.p _ c.loop-i.invariant.0 _ c.loop-i-test.true _ c.in_ok-t.ensures).0,
  search rules,
)

pub returns-then-spot-ne0 : goal.returns-then-spot-ne0
returns-then-spot-ne0 c =
    passing_short (declared_by c.args.symbols c.args.variables) _ _ c.loop-i.p _ c.loop-i.invariant.0 c.loop-i-test.false c.if-spot-ne0.true

pub returns : goal.returns
returns c =
    passing_read (declared_by c.args.symbols c.args.variables) _ _ c.loop-i.p _ c.loop-i.invariant.0 c.loop-i-test.false c.if-spot-ne0.false
