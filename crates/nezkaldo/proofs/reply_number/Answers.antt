-- `nezkaldo::reply_number` meets its contract: the answer's number, by the answer.
use native.Mathlib.Omega.{arith}
use mathlib.Core.Path.{◌≡◌, sym, ap, ◌∙◌}
use Prim.Native.Nat.{◌+◌, ◌*◌}
use Rattle.logic.specs.Failures.{check_number}
use Rattle.expansion.specs.Answer.{answer_in}
use Rattle.nezkaldo.specs.Packed.{packed_reply}
use Rattle.nezkaldo.proofs.reply_number.Goals as goal

pub pack-requires : goal.pack-requires
unfolding packed_reply
pack-requires c =
    let k = c.in-Err.denied in
    let e : packed_reply (answer_in c.args.reply) ≡ 4294967296 * check_number k.check + k.«record» = ap (λ r. packed_reply (answer_in r)) c.in-Err.is in
    omega (arith, c.number.ensures, e, c.requires)

pub returns-in-Ok : goal.returns-in-Ok
unfolding packed_reply
returns-in-Ok c = sym (ap (λ r. packed_reply (answer_in r)) c.in-Ok.is)

pub returns-in-Err : goal.returns-in-Err
unfolding packed_reply
returns-in-Err c = rw c.number.ensures at c.pack.ensures ∙ sym (ap (λ r. packed_reply (answer_in r)) c.in-Err.is)
