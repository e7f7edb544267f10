-- `records::binder_meets` meets its contract: two tests.
use Rattle.logic.specs.ReflWalk.{binder_meets}
use Rattle.crossings.proofs.records.binder_meets.Goals as goal

pub returns : goal.returns
unfolding binder_meets
returns c =
    rw (
      c.sorts_meet-sorts.ensures,
      c.term_field-y.ensures,
      c.term_field-other.ensures,
      c.term_field-x.ensures,
      c.term_field-kind.ensures,
    )
