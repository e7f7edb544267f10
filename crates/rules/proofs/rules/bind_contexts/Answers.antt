-- `rules::bind_contexts` meets its contract: a straight line of reads, in the definition's order.
use Rattle.bundle.specs.RecordWords.{as_step}
use Rattle.logic.specs.Tests.{passed}
use Rattle.logic.specs.Rules.{inner_by, outer_by, bind_contexts_by}
use Rattle.images.specs.LentReading.{step_in}
use Rattle.rules.proofs.SameBundle.{along}
use Rattle.rules.proofs.rules.bind_contexts.Goals as goal

pub returns : goal.returns
unfolding passed bind_contexts_by
returns c =
    let taken = c.args.taken.now in
    along (λ b. passed (bind_contexts_by (step_in taken.bundle taken.bed) b (as_step c.args.s))) c.bundle-bundle.ensures
    (rw (
      c.number.ensures,
      c.number-2.ensures,
      ← c.term_field-x.ensures,
      ← c.term_field-y.ensures,
      ← c.first_item-premise.ensures,
      ← c.field-inner.ensures,
      ← c.context_field-kind.ensures,
      ← c.context_field-variables.ensures,
      ← c.context_field-terms.ensures,
      ← c.context_field-outer.ensures,
      ← c.is_single-one_variable.ensures,
      ← c.first_item-variable.ensures,
      ← c.is_single-one_term.ensures,
      ← c.first_item-term.ensures,
      ← c.is_variable-by_y.ensures,
      ← c.context_field-outer_kind.ensures,
      ← c.context_field-fixed.ensures,
      ← c.context_field-home.ensures,
      inner_by,
      outer_by,
    ))
