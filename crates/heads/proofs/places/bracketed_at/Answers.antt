-- `places::bracketed_at` meets its contract: by its first word.
use mathlib.Core.Path.{ap, ◌∙◌}
use Rattle.grammar.specs.Grammar.{word}
use Rattle.lexing.specs.Words.{word_in, lexeme_in}
use Rattle.heads.proofs.LexemeLaws as L
use Rattle.heads.proofs.places.bracketed_at.Goals as goal

pub returns-in_err-next : goal.returns-in_err-next
returns-in_err-next c = rw c.from_residual.ensures (L.over_inside c.in_err-next.ensures)

pub returns-in_default : goal.returns-in_default
returns-in_default c = L.no_word_at c.in_ok-next.ensures (L.other_lexeme _ c.in_default.not-Word)

pub returns-in-Quantifier : goal.returns-in-Quantifier
returns-in-Quantifier c =
    L.quantifier_at c.in_ok-next.ensures _ (ap lexeme_in c.in-Word.is ∙ ap (λ w. word (word_in w)) c.in-Quantifier.is) c.listed_at.ensures

pub returns-in-Let : goal.returns-in-Let
returns-in-Let c =
    L.let_at c.in_ok-next.ensures (ap lexeme_in c.in-Word.is ∙ ap (λ w. word (word_in w)) c.in-Let.is) c.listed_at-in-Let.ensures

pub returns-in_default-word : goal.returns-in_default-word
returns-in_default-word c = L.application_at c.in_ok-next.ensures _ (ap lexeme_in c.in-Word.is) c.in_default-word.not-Quantifier c.in_default-word.not-Let
