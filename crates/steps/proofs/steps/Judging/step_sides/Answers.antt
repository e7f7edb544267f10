-- `Judging::step_sides` meets its contract: in each arm the rule is known.
use mathlib.Core.Path.{◌≡◌, ap, ◌∙◌}
use mathlib.Core.Bool.{true}
use Rattle.bundle.specs.Bundle.{Bundle, Step}
use mathlib.Core.Logic.{◌⊎◌, ⊎_elim}
use Rattle.logic.specs.declared.rules.Rule.{Rule as RuleName}
use Rattle.logic.specs.declared.rules.Rule.TheVariants as name
use Rattle.logic.specs.Named.{rule_in}
use Rattle.logic.specs.Readings.{Reading}
use Rattle.logic.specs.Rules.{sides_by}
use Rattle.images.specs.LentReading.{reading_in}
use Rattle.steps.proofs.steps.Judging.step_sides.Goals as goal

pub returns-in-Trans : goal.returns-in-Trans
unfolding sides_by reading_in
returns-in-Trans c =
    rw (← c.self.view_is, c.in-Some.ensures ∙ ap rule_in c.in-Trans.is, c.trans_side.ensures, c.sets.ensures.0, c.scopes.ensures.0)

pub returns-in-Bind : goal.returns-in-Bind
unfolding sides_by reading_in
returns-in-Bind c =
    rw (← c.self.view_is, c.in-Some.ensures ∙ ap rule_in c.in-Bind.is, c.bind_sides.ensures, c.sets-in-Bind.ensures.0, c.images.ensures.0)

-- the other rules have none
no_side : (g : Reading) (b : Bundle) (s : Step) (x : RuleName)
    → (x ≡ name.Refl) ⊎ (x ≡ name.Cong) ⊎ (x ≡ name.Let) ⊎ (x ≡ name.SkoExists) ⊎ (x ≡ name.SkoForAll) → true ≡ sides_by g b (rule_in x) s
unfolding sides_by
no_side g b s x = ⊎_elim (λ e. rw e) (⊎_elim (λ e. rw e) (⊎_elim (λ e. rw e) (⊎_elim (λ e. rw e) (λ e. rw e))))

pub returns-in-Refl : goal.returns-in-Refl
returns-in-Refl c = rw c.in-Some.ensures (no_side _ _ _ c.in-Some.rule c.in-Refl.is)

pub returns-in_default : goal.returns-in_default
unfolding sides_by
returns-in_default c = rw c.in_default.ensures
