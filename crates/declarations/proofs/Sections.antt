-- The first fault of links, symbols and variables, before what comes after them.
--     sections_here, sections_on     there is one; there is none, and the rest says
use mathlib.Core.Path.{◌≡◌, sym, ap, ◌∙◌}
use Rattle.bundle.specs.Bundle.{Bundle}
use Rattle.logic.specs.Tests.{Fault}
use Rattle.logic.specs.Tests.{or_next}
use Rattle.logic.specs.Checks.{links_fault, symbols_fault, variables_fault}
use Rattle.logic.proofs.Firsts.{or_else_on, or_else_here, next_nested}
use Rattle.declarations.specs.Sections.{declared_fault}

module _ (b : Bundle) (rest : Fault) where
  abbrev whole : Fault
  whole = or_next (links_fault b) (or_next (symbols_fault b) (or_next (variables_fault b) rest))

  in_a_row : or_next (declared_fault b) rest ≡ whole
  unfolding declared_fault
  in_a_row =
      next_nested (links_fault b).number (links_fault b).«record» (or_next (symbols_fault b) (variables_fault b)) rest
      ∙ ap (or_next (links_fault b)) (next_nested (symbols_fault b).number (symbols_fault b).«record» (variables_fault b) rest)

  -- r is what the code has found
  module _ (r : Fault) (e : r ≡ declared_fault b) where
    row_is : or_next r rest ≡ whole
    row_is = ap (λ (x : Fault). or_next x rest) e ∙ in_a_row

    pub sections_here : (r.number ≡ 0 → ⊥) → r ≡ whole
    sections_here ne = sym (or_else_here r.number r.«record» rest ne) ∙ row_is

    pub sections_on : r.number ≡ 0 → rest ≡ whole
    sections_on z = sym (or_else_on r.number r.«record» rest z) ∙ row_is
