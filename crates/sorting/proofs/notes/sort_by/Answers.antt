-- `notes::sort_by` meets its contract: the definition, by the kind.
use Rattle.logic.specs.Sorts.{sort_as, sort_by}
use Rattle.sorting.proofs.SortOf.{signature_is}
use Rattle.sorting.proofs.notes.sort_by.Goals as goal

pub returns-in-Some-Variable : goal.returns-in-Some-Variable
unfolding sort_by sort_as
returns-in-Some-Variable c =
    rw (← c.term_field-kind.ensures, c.of.ensures, c.in-Some-Variable.is, c.in-Some-Variable.field-0-is, ← c.term_field.ensures) c.variable_sort.ensures

pub returns-in-Some-Application : goal.returns-in-Some-Application
unfolding sort_by sort_as
returns-in-Some-Application c =
    rw (
      ← c.term_field-kind.ensures,
      c.of.ensures,
      c.in-Some-Application.is,
      c.in-Some-Application.field-0-is,
      ← c.term_field-in-Some-Application.ensures,
      ← signature_is c.args.bundle.now,
      ← c.signature_of.ensures,
    ) c.result_sort.ensures

pub returns-in-Some-Let : goal.returns-in-Some-Let
unfolding sort_by sort_as
returns-in-Some-Let c =
    rw (← c.term_field-kind.ensures, c.of.ensures, c.in-Some-Let.is, c.in-Some-Let.field-0-is, ← c.term_field-in-Some-Let.ensures) c.sort_in.ensures

pub returns-in-Some-Binder : goal.returns-in-Some-Binder
unfolding sort_by sort_as
returns-in-Some-Binder c =
    rw (← c.term_field-kind.ensures, c.of.ensures, c.in-Some-Binder.is, c.in-Some-Binder.field-0-is, ← c.term_field-in-Some-Binder.ensures) c.binder_sort.ensures

pub returns-in-None : goal.returns-in-None
unfolding sort_by sort_as
returns-in-None c = rw (← c.term_field-kind.ensures, c.of.ensures, c.in-None.is)
