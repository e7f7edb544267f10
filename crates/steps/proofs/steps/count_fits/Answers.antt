-- `steps::count_fits` meets its contract: in each arm the rule is known.
use mathlib.Core.Path.{◌≡◌, ap, ◌∙◌}
use mathlib.Core.Bool.{true}
use Prim.Native.Nat.{ℕ}
use mathlib.Core.Logic.{◌⊎◌, ⊎_elim}
use lib.Dec.{eqb}
use Rattle.bundle.proofs.Walks.{walk_start, walk_start_le}
use Rattle.logic.specs.declared.rules.Rule.{Rule as RuleName}
use Rattle.logic.specs.declared.rules.Rule.TheVariants as name
use Rattle.logic.specs.Named.{rule_in}
use Rattle.logic.specs.Rules.{count_fits}
use Rattle.bundle.proofs.ListPlaces.{none_is, single_length}
use Rattle.steps.proofs.steps.count_fits.Goals as goal

pub returns-in-Refl : goal.returns-in-Refl
unfolding count_fits
returns-in-Refl c =
    let a = c.args in
    let r = c.first_link in
    rw (c.in-Some.ensures ∙ ap rule_in c.in-Refl.is, walk_start a.bundle.now a.premises r.result r.ensures)
    (none_is a.bundle.now r.result (walk_start_le a.bundle.now a.premises r.result r.ensures))

any_count : (x : RuleName) (n : ℕ) → (x ≡ name.Cong) ⊎ (x ≡ name.Let) → true ≡ count_fits (rule_in x) n
unfolding count_fits
any_count x n = ⊎_elim (λ e. rw e) (λ e. rw e)

pub returns-in-Cong : goal.returns-in-Cong
returns-in-Cong c = rw c.in-Some.ensures (any_count _ _ c.in-Cong.is)

pub returns-in-Trans : goal.returns-in-Trans
unfolding count_fits
returns-in-Trans c = rw (c.in-Some.ensures ∙ ap rule_in c.in-Trans.is) c.is_pair.ensures

one_premise : (x : RuleName) (n : ℕ) → (x ≡ name.Bind) ⊎ (x ≡ name.SkoExists) ⊎ (x ≡ name.SkoForAll) → eqb n 1 ≡ count_fits (rule_in x) n
unfolding count_fits
one_premise x n = ⊎_elim (λ e. rw e) (⊎_elim (λ e. rw e) (λ e. rw e))

pub returns-in-Bind : goal.returns-in-Bind
returns-in-Bind c = rw c.in-Some.ensures (c.is_single.ensures ∙ single_length _ ∙ one_premise _ _ c.in-Bind.is)

pub returns-in_default : goal.returns-in_default
unfolding count_fits
returns-in_default c = rw c.in_default.ensures
