-- `Text::skip_blanks` meets its contract. The invariant: white space and comments stand up to j.
use Prim.Native.Nat.{ℕ}
use mathlib.Core.Path.{subst}
use mathlib.Core.List.{List}
use lib.ListN.{drop}
use Rattle.pass_tokens.specs.Tokens.{Blanks}
use Rattle.pass_tokens.proofs.BlankLaws.{on_space, on_other, comment_on, skipped}
use Rattle.pass_tokens.proofs.Text.skip_blanks.Goals as goal
use Rattle.pass_tokens.proofs.Text.skip_blanks.Goals.{then-c-ne32+else-c, else-c-ne32}

pub loop-j-preserved-then-c-gt32 : goal.loop-j-preserved-then-c-gt32
loop-j-preserved-then-c-gt32 c =
    let t = c.self.inside in
    comment_on t.bytes.now t.at c.loop-j.j c.loop-j.invariant c.loop-j-test.true c.line_end-j.result c.if-c-ne59.false c.line_end-j.ensures

pub loop-j-preserved : goal.loop-j-preserved
loop-j-preserved c =
    let t = c.self.inside in
    elim c.if-c-ne32.branch [
      | then-c-ne32+else-c w ↦ on_other t.bytes.now t.at c.loop-j.j c.loop-j.invariant c.loop-j-test.true w.if-c.false
      | else-c-ne32 w ↦ on_space t.bytes.now t.at c.loop-j.j c.loop-j.invariant c.loop-j-test.true w.if-c-ne32.false
    ]

pub returns : goal.returns
returns c = subst (λ (t : List ℕ). Blanks t (drop c.loop-j.j c.self.inside.bytes.now)) c.self.view_is (skipped c.loop-j.invariant)
