-- `skolem::sko_holds` meets its contract: a straight line of reads, in the definition's order.
use Rattle.bundle.specs.RecordWords.{as_step}
use Rattle.images.specs.LentReading.{step_in}
use Rattle.logic.specs.Named.{binder_in}
use Rattle.logic.specs.Tests.{passed}
use Rattle.logic.specs.Rules.{inner_by, put_in_by, sko_tests_by}
use Rattle.rules.proofs.SameBundle.{along}
use Rattle.rules.proofs.skolem.sko_holds.Goals as goal

pub returns : goal.returns
unfolding passed sko_tests_by
returns c =
    let taken = c.args.taken.now in
    along (λ b. passed (sko_tests_by (binder_in c.args.quantifier) (step_in taken.bundle taken.bed) b (as_step c.args.s))) c.bundle-bundle.ensures
    (rw (
      c.number.ensures,
      c.number-2.ensures,
      ← c.term_field-kind.ensures,
      ← c.term_field-x.ensures,
      ← c.term_field-body.ensures,
      ← c.first_item-premise.ensures,
      ← c.field-inner.ensures,
      ← c.field-from.ensures,
      ← c.field-to.ensures,
      ← c.context_field-inner_kind.ensures,
      ← c.context_field-variables.ensures,
      ← c.context_field-terms.ensures,
      ← c.context_field-parent.ensures,
      ← c.is_single-one_variable.ensures,
      ← c.first_item-variable.ensures,
      ← c.is_single-one_term.ensures,
      ← c.first_item-term.ensures,
      ← c.is_witness-by_choice.ensures,
      inner_by,
      put_in_by,
    ))
