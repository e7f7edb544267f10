-- `place_binder` meets its contract: a binder's record has no list.
use mathlib.Core.Path.{sym, ◌∙◌}
use native.Mathlib.Omega.{arith}
use Rattle.bundle.specs.RecordWords.{TermFits}
use Rattle.logic.specs.Named.{binder_in}
use Rattle.expansion.proofs.SmallWords.{binder_word}
use Rattle.filing.proofs.FiledTerms.{binder_kind}
use Rattle.placing.proofs.Placings.{plain_filed}
use Rattle.placing.proofs.place_binder.Goals as goal

pub place_plain-requires : goal.place_plain-requires
place_plain-requires c =
    let a = c.args in
    let k = c.number-kind in
    let d = c.root_digest-d in
    let apart = binder_kind (binder_in a.q) in
    let fits : TermFits (record { kind = k.result; first = a.y; second = a.body; third = 0 }) =
    record { kind = omega (arith, binder_word (binder_in a.q), k.ensures); first = c.requires.0; second = c.requires.1; third = omega arith } in
    (fits, plain_filed a.filed.now k.result a.y a.body d.result (λ e. apart.0 (sym k.ensures ∙ e)) (λ e. apart.1 (sym k.ensures ∙ e)) d.ensures)
