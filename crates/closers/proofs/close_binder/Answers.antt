-- `close_binder` meets its contract: the term and its step are words.
use mathlib.Core.Path.{subst}
use mathlib.Core.List.{[], ◌∷◌}
use Prim.Native.Nat.{ℕ}
use native.Mathlib.Omega.{arith}
use Rattle.bundle.specs.Bundle.{Bundle}
use Rattle.logic.specs.Named.{binder_in}
use Rattle.expansion.specs.Visit.{concluded}
use Rattle.placing.specs.Outcomes.{VisitOutcome}
use Rattle.placing.proofs.OutcomeFacts.{outcome_done}
use Rattle.placing.proofs.Placings.{binder_asks, list_word}
use Rattle.closers.proofs.Closings.{concluded_is, concluded_fits}
use Rattle.closers.proofs.close_binder.Goals as goal

pub add_step-requires : goal.add_step-requires
add_step-requires c =
    let a = c.args in
    let t = binder_asks a.filed.now (binder_in a.q) a.y a.body.result c.place_binder.ensures c.in_ok-right.was in
    let list = list_word c.place_binder.new.filed (a.body.step ∷ []) c.add_value.ensures c.in_ok-premises.was in
    record { rule = omega (arith, c.number.ensures); context = c.requires.0; left = c.requires.1; right = t; premises = list }

pub returns : goal.returns
returns c =
    let a = c.args in
    let d = outcome_done c.place_binder.ensures c.in_ok-right.was in
    let p = outcome_done c.add_value.ensures c.in_ok-premises.was in
    let t = binder_asks a.filed.now (binder_in a.q) a.y a.body.result c.place_binder.ensures c.in_ok-right.was in
    let right = c.in_ok-right.right in
    let ps = a.body.step ∷ [] in
    let o = concluded_is c.place_binder.new.filed 4 a.context a.term right ps c.number.ensures p.bundle p.value c.add_step.ensures in (
      subst (λ (x : Bundle × ℕ). VisitOutcome (concluded x.0 4 a.context a.term x.1 ps) c.add_step.new.scratch c.add_step.result) (λ i. (d.bundle i, d.value i)) o,
      concluded_fits c.place_binder.new.filed 4 a.context a.term right ps o t,
    )
