-- `places::head_at` meets its contract: by its first lexeme.
use mathlib.Core.Path.{ap}
use Rattle.grammar.specs.Grammar.{closes, stray}
use Rattle.lexing.specs.Words.{lexeme_in}
use Rattle.heads.proofs.LexemeLaws as L
use Rattle.heads.proofs.places.head_at.Goals as goal

pub returns-in_err-first : goal.returns-in_err-first
returns-in_err-first c = rw c.from_residual.ensures (L.over_at c.in_err-first.ensures)

pub returns-in-Word : goal.returns-in-Word
returns-in-Word c = L.alone_at c.in_ok-first.ensures _ (ap lexeme_in c.in-Word.is)

pub returns-in-Opens : goal.returns-in-Opens
returns-in-Opens c = L.bracket_at c.in_ok-first.ensures (ap lexeme_in c.in-Opens.is) c.bracketed_at.ensures

pub returns-in-Closes : goal.returns-in-Closes
returns-in-Closes c = L.none_at c.in_ok-first.ensures closes (ap lexeme_in c.in-Closes.is) (λ e. absurd (cc)) (λ w e. absurd (cc))

pub returns-in-Stray : goal.returns-in-Stray
returns-in-Stray c = L.none_at c.in_ok-first.ensures stray (ap lexeme_in c.in-Stray.is) (λ e. absurd (cc)) (λ w e. absurd (cc))
