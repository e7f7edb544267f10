-- `lexemes::run_end` meets its contract. The invariant: the bytes up to j are in the run.
use native.Mathlib.Omega.{arith}
use mathlib.Core.Path.{◌≡◌}
use lib.ListN.{length}
use Rattle.lexing.proofs.SkipLaws.{run_start, run_on, run_stopped, run_past}
use Rattle.lexing.proofs.lexemes.run_end.Goals as goal

pub loop-j-init : goal.loop-j-init
loop-j-init c = let a = c.args in run_start a.text.now c.requires.0 c.requires.1

pub returns-then-not-goes_on : goal.returns-then-not-goes_on
returns-then-not-goes_on c =
    let a = c.args in
    run_stopped a.text.now c.loop-j.j c.loop-j.invariant (omega arith) c.class_of-class.result c.class_of-class.ensures
    (rw c.goes_on.ensures at c.if-not-goes_on.true)

pub loop-j-preserved : goal.loop-j-preserved
loop-j-preserved c =
    let a = c.args in
    run_on a.text.now c.loop-j.j c.loop-j.invariant (omega arith) c.class_of-class.result c.class_of-class.ensures
    (rw c.goes_on.ensures at c.if-not-goes_on.false)

pub returns : goal.returns
returns c =
    let a = c.args in
    let past : c.loop-j.j ≡ length a.text.now = omega arith in
    rw past at (run_past a.text.now c.loop-j.j c.loop-j.invariant (omega arith))
