-- `blanks::line_end` meets its contract. The invariant: the comment goes on up to j.
use native.Mathlib.Omega.{arith}
use mathlib.Core.Path.{◌≡◌}
use lib.ListN.{length}
use Rattle.pass_tokens.proofs.BlankLaws.{line_on, line_feed, line_return, line_past}
use Rattle.pass_tokens.proofs.blanks.line_end.Goals as goal

pub returns-then-c-eq10 : goal.returns-then-c-eq10
returns-then-c-eq10 c =
    line_feed c.args.text.now c.args.i c.loop-j.j c.loop-j.invariant (omega arith) c.if-c-eq10.true

pub returns-then-c-eq13 : goal.returns-then-c-eq13
returns-then-c-eq13 c =
    line_return c.args.text.now c.args.i c.loop-j.j c.loop-j.invariant (omega arith) c.if-c-eq13.true

pub loop-j-preserved : goal.loop-j-preserved
loop-j-preserved c =
    line_on c.args.text.now c.args.i c.loop-j.j c.loop-j.invariant (omega arith) c.if-c-eq10.false
    c.if-c-eq13.false

pub returns : goal.returns
returns c =
    let past : c.loop-j.j ≡ length c.args.text.now = omega arith in
    rw past at (line_past c.args.text.now c.args.i c.loop-j.j c.loop-j.invariant (omega arith))
