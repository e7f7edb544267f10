-- `runs::in_common` meets its contract. The invariant: the bytes so far are in common.
use native.Mathlib.Omega.{arith}
use mathlib.Core.Path.{◌≡◌}
use lib.ListN.{length}
use Rattle.lexing.proofs.CommonLaws.{shared_on, shared_differ, shared_other, shared_run}
use Rattle.lexing.proofs.runs.in_common.Goals as goal

pub returns-then-j-other : goal.returns-then-j-other
returns-then-j-other c = shared_other c.args.run.now c.args.other.now c.loop-j.j c.loop-j.invariant c.if-j-other.true

pub returns-then-run-j : goal.returns-then-run-j
returns-then-run-j c =
    shared_differ c.args.run.now c.args.other.now c.loop-j.j c.loop-j.invariant
    (omega arith) c.if-j-other.false c.if-run-j.true

pub loop-j-preserved : goal.loop-j-preserved
loop-j-preserved c =
    shared_on c.args.run.now c.args.other.now c.loop-j.j c.loop-j.invariant
    (omega arith) c.if-j-other.false c.if-run-j.false

pub returns : goal.returns
returns c =
    let past : c.loop-j.j ≡ length c.args.run.now = omega arith in
    rw past at (shared_run c.args.run.now c.args.other.now c.loop-j.j c.loop-j.invariant (omega arith))
