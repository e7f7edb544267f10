-- `runs::run_end` meets its contract. The invariant: so far all are symbol characters.
use native.Mathlib.Omega.{arith}
use mathlib.Core.Path.{◌≡◌, ap}
use lib.ListN.{length}
use Rattle.lexing.specs.Codes.{class_code}
use Rattle.spots.proofs.RunLaws.{running_start, running_end, running_found, running_on}
use Rattle.scanning.proofs.runs.run_end.Goals as goal

pub loop-j-init : goal.loop-j-init
loop-j-init c = running_start _ _ c.requires

pub loop-j-preserved : goal.loop-j-preserved
loop-j-preserved c =
    running_on _ _ c.loop-j.j c.loop-j.invariant (omega arith) _ (ap class_code c.class_of-class.ensures) (rw c.goes_on.ensures at c.if-not-goes_on.false)

pub returns-then-not-goes_on : goal.returns-then-not-goes_on
returns-then-not-goes_on c =
    running_found _ _ c.loop-j.j c.loop-j.invariant (omega arith) _ (ap class_code c.class_of-class.ensures) (rw c.goes_on.ensures at c.if-not-goes_on.true)

pub returns : goal.returns
returns c =
    let past : c.loop-j.j ≡ length c.args.text.now = omega arith in
    rw past at (running_end _ _ c.loop-j.j c.loop-j.invariant (omega arith))
