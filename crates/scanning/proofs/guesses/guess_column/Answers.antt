-- `guesses::guess_column` meets its contract: an answer for each kind of word.
use mathlib.Core.Path.{◌∙◌, refl, sym, ap}
use Rattle.lexing.specs.Codes.{word_code}
use Rattle.spots.proofs.WordLaws.{sort_code, name_code, no_sort_code, no_name_code}
use Rattle.spots.proofs.GuessLaws.{column_sort, column_symbol, column_variable, column_empty, column_word}
use Rattle.scanning.proofs.guesses.guess_column.Goals as goal

pub returns-in-Sort : goal.returns-in-Sort
returns-in-Sort c = column_sort _ 8 (sym (sort_code c.in-Sort.is) ∙ ap word_code c.word_of.ensures) refl

pub returns-then-run-eq0 : goal.returns-then-run-eq0
returns-then-run-eq0 c = column_empty _ 9 (sym (name_code c.in-Name.is) ∙ ap word_code c.word_of.ensures) refl c.if-run-eq0.true

pub returns-then-run-eq102 : goal.returns-then-run-eq102
returns-then-run-eq102 c = column_symbol _ 9 (sym (name_code c.in-Name.is) ∙ ap word_code c.word_of.ensures) refl c.if-run-eq102.true

pub returns-else-run-eq102 : goal.returns-else-run-eq102
returns-else-run-eq102 c = column_variable _ 9 (sym (name_code c.in-Name.is) ∙ ap word_code c.word_of.ensures) refl c.if-run-eq102.false

pub returns-in_default : goal.returns-in_default
returns-in_default c =
    column_word _ _ (c.code.ensures ∙ ap word_code c.word_of.ensures) (λ e. no_sort_code _ c.in_default.not-Sort (sym c.code.ensures ∙ e))
    (λ e. no_name_code _ c.in_default.not-Name (sym c.code.ensures ∙ e))
