-- `place_variable` meets its contract: a variable's record has no list.
use native.Mathlib.Omega.{arith}
use Rattle.std.proofs.Common.{rules}
use Rattle.bundle.specs.RecordWords.{TermFits}
use Rattle.placing.proofs.Placings.{plain_filed}
use Rattle.placing.proofs.place_variable.Goals as goal

pub place_plain-requires : goal.place_plain-requires
place_plain-requires c =
    let a = c.args in
    let d = c.root_digest-d in
    let fits : TermFits (record { kind = 1; first = a.y; second = 0; third = 0 }) = search rules in
    rw c.number-kind.ensures (fits, plain_filed a.filed.now 1 a.y 0 d.result (λ e. omega arith) (λ e. omega arith) (rw (← c.number-kind.ensures) d.ensures))
