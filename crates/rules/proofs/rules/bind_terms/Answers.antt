-- `rules::bind_terms` meets its contract: a straight line of reads, in the definition's order.
use Rattle.bundle.specs.RecordWords.{as_step}
use Rattle.logic.specs.Tests.{passed}
use Rattle.logic.specs.Rules.{bind_terms_by}
use Rattle.images.specs.LentReading.{step_in}
use Rattle.rules.proofs.SameBundle.{along}
use Rattle.rules.proofs.rules.bind_terms.Goals as goal

pub returns : goal.returns
unfolding passed bind_terms_by
returns c =
    let taken = c.args.taken.now in
    along (λ b. passed (bind_terms_by (step_in taken.bundle taken.bed) b (as_step c.args.s))) c.bundle-bundle.ensures
    (rw (
      ← c.term_field-left_kind.ensures,
      ← c.term_field-right_kind.ensures,
      ← c.term_field-left_body.ensures,
      ← c.term_field-right_body.ensures,
      ← c.first_item-premise.ensures,
      ← c.field-premise_left.ensures,
      ← c.field-premise_right.ensures,
      ← c.is_binder.ensures,
    ))
