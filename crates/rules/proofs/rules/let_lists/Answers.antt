-- `rules::let_lists` meets its contract: a straight line of reads, in the definition's order.
use mathlib.Core.Path.{◌≡◌, refl, subst, ◌∙◌}
use mathlib.Core.Bool.{true, false, ◌&&◌}
use lib.Dec.{eqb}
use Rattle.bundle.specs.RecordWords.{as_step}
use Rattle.logic.specs.Tests.{passed}
use Rattle.logic.specs.Rules.{body_tests}
use Rattle.images.specs.LentReading.{step_in}
use Rattle.rules.specs.declared.Lists.{Lists}
use Rattle.rules.specs.WalkLists.{LetLists}
use Rattle.rules.proofs.rules.let_lists.Goals as goal
use Rattle.rules.proofs.rules.let_lists.Goals.{After-number-2}

-- what is read is what the definition tests
tests : (c : After-number-2)
    → passed (body_tests (step_in c.args.taken.now.bundle c.args.taken.now.bed) c.bundle-bundle.result.now (as_step c.args.s))
    ≡ (((((eqb c.term_field-kind.result c.number.result && eqb c.field-from.result c.term_field-body.result) && eqb c.field-to.result c.args.s.right)
    && eqb c.context_field-inner_kind.result c.number-2.result) && eqb c.context_field-parent.result c.args.s.context) && c.same_list-same.result)
unfolding passed
tests c = rw (
  ← c.term_field-kind.ensures,
  ← c.term_field-variables.ensures,
  ← c.term_field-body.ensures,
  ← c.last_item-last.ensures,
  ← c.field-inner.ensures,
  ← c.field-from.ensures,
  ← c.field-to.ensures,
  ← c.context_field-inner_kind.ensures,
  ← c.context_field-replaced.ensures,
  ← c.context_field-parent.ensures,
  ← c.same_list-same.ensures,
  ← c.number.ensures,
  ← c.number-2.ensures,
)

pub returns-then-not-good : goal.returns-then-not-good
returns-then-not-good c =
    let taken = c.args.taken.now in
    subst (λ b. passed (body_tests (step_in taken.bundle taken.bed) b (as_step c.args.s)) ≡ false) c.bundle-bundle.ensures
    (tests (goal.at.returns-then-not-good c).After-number-2 ∙ c.if-not-good.true)

pub returns : goal.returns
returns c =
    let taken = c.args.taken.now in
    let lists : Lists = record { body = true; context = c.args.s.context; lefts = c.term_field-bound.result; rights = c.context_field-terms.result } in
    subst (λ b. LetLists (step_in taken.bundle taken.bed) b (as_step c.args.s) lists) c.bundle-bundle.ensures
    (record {
      good = tests (goal.at.returns c).After-number-2 ∙ c.if-not-good.false;
      body = refl;
      context = refl;
      lefts = c.term_field-bound.ensures;
      rights = rw (
        ← c.last_item-last.ensures,
        ← c.field-inner.ensures,
      ) c.context_field-terms.ensures;
    })
