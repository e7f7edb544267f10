-- `steps::step_matches` meets its contract: in each arm the rule is known.
use native.Mathlib.Omega.{arith}
use mathlib.Core.Path.{◌≡◌, sym, ap, ◌∙◌}
use mathlib.Core.Logic.{⊎_elim}
use Rattle.bundle.specs.Bundle.{Step}
use Prim.Native.Nat.{ℕ}
use Rattle.logic.specs.declared.Walk.{Walk}
use Rattle.logic.specs.Named.{rule_in}
use Rattle.logic.specs.Tests.{passed}
use Rattle.logic.specs.Rules.{REFL, CONG, LET, cong_walk_by, let_tests_by, matches_by}
use Rattle.logic.proofs.RuleNumbers.{number_of_rule}
use Rattle.bundle.specs.RecordWords.{as_step}
use Rattle.steps.proofs.RuleOf.{matches_cong, matches_let}
use Rattle.steps.proofs.steps.step_matches.Goals as goal

pub returns-in-Cong : goal.returns-in-Cong
returns-in-Cong c g same =
    let b = c.args.taken.now.bundle in
    let s = as_step c.args.s in
    let w = c.step_walk-walked.ensures in
    let i = c.in-Cong in
    ⊎_elim
    (λ e. let rule = c.in-Some.ensures ∙ ap rule_in e in
    ap (λ (x : Walk). x.passes) (w.value (number_of_rule c.args.s.rule CONG rule (λ z. cc))) ∙ ap (λ (u : ℕ → Step). (cong_walk_by u b s).passes) (sym same)
    ∙ matches_cong g b s rule)
    (λ e. let rule = c.in-Some.ensures ∙ ap rule_in e in
    w.passes_value (λ two. let five : c.args.s.rule ≡ 5 = number_of_rule c.args.s.rule LET rule (λ z. cc) in omega arith) ∙ ap (λ (u : ℕ → Step). passed (let_tests_by u b s)) (sym same)
    ∙ matches_let g b s rule) i.is

pub returns-in-Trans : goal.returns-in-Trans
unfolding matches_by
returns-in-Trans c g same = rw (c.in-Some.ensures ∙ ap rule_in c.in-Trans.is, same) c.trans_holds.ensures

pub returns-in-Bind : goal.returns-in-Bind
unfolding matches_by
returns-in-Bind c g same =
    rw (c.in-Some.ensures ∙ ap rule_in c.in-Bind.is, same, c.bind_terms-terms.ensures, c.bind_contexts-contexts.ensures)

pub returns-in-SkoExists : goal.returns-in-SkoExists
unfolding matches_by
returns-in-SkoExists c g same = rw (c.in-Some.ensures ∙ ap rule_in c.in-SkoExists.is, same) c.sko_holds.ensures

pub returns-in-SkoForAll : goal.returns-in-SkoForAll
unfolding matches_by
returns-in-SkoForAll c g same = rw (c.in-Some.ensures ∙ ap rule_in c.in-SkoForAll.is, same) c.sko_holds-in-SkoForAll.ensures

pub returns-in-Refl : goal.returns-in-Refl
returns-in-Refl c g same = absurd (c.requires (number_of_rule c.args.s.rule REFL (c.in-Some.ensures ∙ ap rule_in c.in-Refl.is) (λ z. cc)))

pub returns-in_default : goal.returns-in_default
unfolding matches_by
returns-in_default c g same = rw c.in_default.ensures
