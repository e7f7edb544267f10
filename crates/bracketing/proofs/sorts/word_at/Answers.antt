-- `sorts::word_at` meets its contract.
use mathlib.Core.Path.{◌∙◌, ap}
use Rattle.lexing.specs.Words.{lexeme_in}
use Rattle.bracketing.proofs.SortLaws.{front_next, front_none, front_other}
use Rattle.bracketing.proofs.sorts.word_at.Goals as goal

pub returns-in_err-word : goal.returns-in_err-word
returns-in_err-word c = rw c.from_residual.ensures (front_none _ c.in_err-word.ensures)

pub returns-in-Word : goal.returns-in-Word
returns-in-Word c = front_next _ _ c.in_ok-word.ensures ∙ ap lexeme_in c.in-Word.is

pub returns-in-Opens : goal.returns-in-Opens
returns-in-Opens c = front_other _ _ c.in_ok-word.ensures c.in-Opens.is
