-- `records::application_meets` meets its contract: two tests.
use Rattle.logic.specs.ReflWalk.{application_meets}
use Rattle.crossings.proofs.records.application_meets.Goals as goal

pub returns : goal.returns
unfolding application_meets
returns c = rw (c.number.ensures, c.term_field-symbol.ensures, c.term_field-kind.ensures, c.term_field-other.ensures)
