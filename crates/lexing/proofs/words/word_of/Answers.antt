-- `words::word_of` meets its contract: each answer by the law of the run's first byte.
use native.Mathlib.Omega.{arith}
use mathlib.Core.Path.{sym, ◌∙◌}
use Rattle.grammar.specs.Bytes.{bytes}
use Rattle.lexing.proofs.FirstBytes as F
use Rattle.lexing.proofs.words.word_of.Goals as goal

pub returns-then-run-eq0 : goal.returns-then-run-eq0
returns-then-run-eq0 c = F.word_none c.args.run.now c.if-run-eq0.true

pub returns-in-116 : goal.returns-in-116
unfolding bytes
returns-in-116 c = c.word_if.ensures ∙ F.word_true c.args.run.now c.if-run-eq0.false c.in-116.is

pub returns-then-is_word : goal.returns-then-is_word
unfolding bytes
returns-then-is_word c =
    F.two_first _ _ _ _ _ (F.word_false c.args.run.now c.if-run-eq0.false c.in-102.is) (sym c.is_word.ensures ∙ c.if-is_word.true)

pub returns-else-is_word : goal.returns-else-is_word
unfolding bytes
returns-else-is_word c =
    c.word_if-in-102.ensures
    ∙ F.two_second _ _ _ _ _ (F.word_false c.args.run.now c.if-run-eq0.false c.in-102.is) (sym c.is_word.ensures ∙ c.if-is_word.false)

pub returns-in-110 : goal.returns-in-110
unfolding bytes
returns-in-110 c = c.word_if-in-110.ensures ∙ F.word_not c.args.run.now c.if-run-eq0.false c.in-110.is

pub returns-in-97 : goal.returns-in-97
unfolding bytes
returns-in-97 c = c.word_if-in-97.ensures ∙ F.word_and c.args.run.now c.if-run-eq0.false c.in-97.is

pub returns-in-111 : goal.returns-in-111
unfolding bytes
returns-in-111 c = c.word_if-in-111.ensures ∙ F.word_or c.args.run.now c.if-run-eq0.false c.in-111.is

pub returns-then-is_word-2 : goal.returns-then-is_word-2
unfolding bytes
returns-then-is_word-2 c =
    F.two_first _ _ _ _ _ (F.word_equals c.args.run.now c.if-run-eq0.false c.in-61.is) (sym c.is_word-in-61.ensures ∙ c.if-is_word-2.true)

pub returns-else-is_word-2 : goal.returns-else-is_word-2
unfolding bytes
returns-else-is_word-2 c =
    c.word_if-in-61.ensures
    ∙ F.two_second _ _ _ _ _ (F.word_equals c.args.run.now c.if-run-eq0.false c.in-61.is) (sym c.is_word-in-61.ensures ∙ c.if-is_word-2.false)

pub returns-in-101 : goal.returns-in-101
unfolding bytes
returns-in-101 c = c.word_if-in-101.ensures ∙ F.word_exists c.args.run.now c.if-run-eq0.false c.in-101.is

pub returns-in-108 : goal.returns-in-108
unfolding bytes
returns-in-108 c = c.word_if-in-108.ensures ∙ F.word_let c.args.run.now c.if-run-eq0.false c.in-108.is

pub returns-in-66 : goal.returns-in-66
unfolding bytes
returns-in-66 c = c.word_if-in-66.ensures ∙ F.word_bool c.args.run.now c.if-run-eq0.false c.in-66.is

pub returns-in-73 : goal.returns-in-73
unfolding bytes
returns-in-73 c = c.word_if-in-73.ensures ∙ F.word_item c.args.run.now c.if-run-eq0.false c.in-73.is

pub returns-in_default : goal.returns-in_default
returns-in_default c =
    F.word_other c.args.run.now c.if-run-eq0.false (λ e. omega arith) (λ e. omega arith) (λ e. omega arith) (λ e. omega arith) (λ e. omega arith)
    (λ e. omega arith) (λ e. omega arith) (λ e. omega arith) (λ e. omega arith) (λ e. omega arith)
