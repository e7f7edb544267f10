-- The sections that come before the terms.
use Rattle.std.specs.Prelude.{ℕ}
use Rattle.bundle.specs.Bundle.{Bundle}
use Rattle.logic.specs.Tests.{Fault}
use Rattle.logic.specs.Tests.{or_else, or_next}
use Rattle.logic.specs.Checks.{link_fault, symbol_fault, variable_fault, links_fault, symbols_fault, variables_fault}
use Rattle.declarations.specs.declared.Section.{Section}
use Rattle.declarations.specs.declared.Section.TheVariants.{Links, Symbols, Variables}

-- what is wrong with record i of a section
unfoldable pub record_fault : Bundle → Section → ℕ → ℕ
unfolding link_fault symbol_fault variable_fault
record_fault b Links i = link_fault b i
record_fault b Symbols i = symbol_fault b i
record_fault b Variables i = variable_fault b i

-- the first bad record of links, symbols and variables
unfoldable pub declared_fault : Bundle → Fault
unfolding links_fault symbols_fault variables_fault or_else
declared_fault b = or_next (links_fault b) (or_next (symbols_fault b) (variables_fault b))
