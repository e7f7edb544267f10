-- What lexemes spell, up to a rest: a formula, parts, variables with a body. Its names are known, whatever known names follow.
use Rattle.std.specs.Prelude.{◌≡◌, Bool, true, false, List, [], ◌∷◌}
use Rattle.bundle.specs.Bundle.{Bundle}
use Rattle.grammar.specs.Grammar.{SortedVariable, Formula, Lexeme, closes, spell, spell_variables}
use Rattle.grammar.specs.Names.{Name, variableOnly, names, variable_names, all_known}
use Rattle.reading.specs.Called.{known_in}
use Rattle.heads.specs.Places.{Part, spell_parts}

abbrev pub Known : Bundle → List Name → Type 0
Known D ns = all_known (known_in D) ns ≡ true

-- the names of parts, and then `rest`
unfoldable pub part_names : Bool → List Part → List Name → List Name
unfolding names
part_names bound [] rest = rest
part_names true (p ∷ ps) rest = record { place = variableOnly; spelled = p.called } ∷ names p.formula (part_names true ps rest)
part_names false (p ∷ ps) rest = names p.formula (part_names false ps rest)

-- a formula
pub record Spelled (D : Bundle) (ls rest : List Lexeme) : Type 0 where
  pub formula : Formula
  pub spells : ls ≡ spell formula rest
  pub known : (ns : List Name) → Known D ns → Known D (names formula ns)

-- parts up to the closing bracket of their list
pub record SpelledParts (D : Bundle) (bound : Bool) (ls rest : List Lexeme) : Type 0 where
  pub parts : List Part
  pub spells : ls ≡ spell_parts bound parts rest
  pub known : (ns : List Name) → Known D ns → Known D (part_names bound parts ns)

-- variables up to the closing bracket of their list, a body and its closing bracket
pub record SpelledUnder (D : Bundle) (ls rest : List Lexeme) : Type 0 where
  pub variables : List SortedVariable
  pub body : Formula
  pub spells : ls ≡ spell_variables variables (spell body (closes ∷ rest))
  pub known : (ns : List Name) → Known D ns → Known D (variable_names variables (names body ns))

-- parts up to the closing bracket of their list, a body and its closing bracket
pub record SpelledLet (D : Bundle) (ls rest : List Lexeme) : Type 0 where
  pub pairs : List Part
  pub body : Formula
  pub spells : ls ≡ spell_parts true pairs (spell body (closes ∷ rest))
  pub known : (ns : List Name) → Known D ns → Known D (part_names true pairs (names body ns))

-- ls starts with parts after which `here` goes on
abbrev pub PartsUpTo : Bundle → Bool → List Lexeme → List Lexeme → Type 0
PartsUpTo D bound ls here = (rest : List Lexeme) → SpelledParts D bound here rest → SpelledParts D bound ls rest
