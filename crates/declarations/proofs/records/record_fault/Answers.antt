-- `records::record_fault` meets its contract: the tests of a section's record are those of `link_fault`, `symbol_fault`, `variable_fault`.
use Rattle.declarations.specs.Sections.{record_fault}
use Rattle.declarations.proofs.records.record_fault.Goals as goal

pub returns-in-Links : goal.returns-in-Links
unfolding record_fault
returns-in-Links c =
    rw (c.in-Links.is, ← c.links.ensures.0, ← c.link_field-next.ensures, ← c.good_next.ensures) c.unless.ensures

pub returns-in-Symbols : goal.returns-in-Symbols
unfolding record_fault
returns-in-Symbols c =
    rw (
      c.in-Symbols.is,
      ← c.links-in-Symbols.ensures.0,
      ← c.symbol_field-result.ensures,
      ← c.symbol_field-sorts.ensures,
      ← c.is_sort.ensures,
      ← c.all_sorts.ensures,
    ) c.unless-in-Symbols.ensures

pub returns-in-Variables : goal.returns-in-Variables
unfolding record_fault
returns-in-Variables c =
    rw (c.in-Variables.is, ← c.variable_sort-sort.ensures, ← c.is_sort-in-Variables.ensures) c.unless-in-Variables.ensures
