-- `Text::close` meets its contract.
use native.Mathlib.Omega.{arith}
use mathlib.Core.Path.{refl, sym, ◌∙◌}
use Rattle.lexing.proofs.Tails.{tail_after}
use Rattle.pass_tokens.proofs.BlankLaws.{closes_next}
use Rattle.pass_tokens.proofs.Text.close.Goals as goal

pub returns : goal.returns
returns c =
    let b = c.skip_blanks.ensures in
    let o = closes_next c.skip_blanks.new.self (sym c.first.ensures ∙ c.if-first-ne41.false) in
    rw c.skip.ensures (record { tail = tail_after b.tail (1, o.some, refl); fewer = omega (arith, o.fewer, b.fewer); closed = b.same ∙ o.next })
