-- `lexemes::after_lexeme` meets its contract.
use Rattle.lexing.proofs.LexemeLaws.{leaves_all, leaves_next}
use Rattle.lexing.proofs.lexemes.after_lexeme.Goals as goal

pub returns-in-Some : goal.returns-in-Some
returns-in-Some c = leaves_next _ c.in-Some.first c.in-Some.ensures

pub returns-in-None : goal.returns-in-None
returns-in-None c = leaves_all _ c.in-None.ensures
