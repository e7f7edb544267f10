-- `sorts::sort_at` meets its contract.
use Rattle.bracketing.proofs.SortLaws.{sort_over, sort_alone, sort_stops, inside_over, inside_none, inside_result, inside_let}
use Rattle.bracketing.proofs.sorts.sort_at.Goals as goal

pub returns-in_default : goal.returns-in_default
returns-in_default c = sort_over c.loop-l.invariant c.in_default.ensures

pub returns-in-Word : goal.returns-in-Word
returns-in-Word c = sort_alone c.loop-l.invariant c.in-Some.ensures c.in-Word.is c.word_sort.ensures

pub returns-in-Closes : goal.returns-in-Closes
returns-in-Closes c = sort_stops c.loop-l.invariant c.in-Some.ensures c.in-Closes.is

pub returns-in_default-next_lexeme : goal.returns-in_default-next_lexeme
returns-in_default-next_lexeme c =
    inside_over c.loop-l.invariant c.in-Some.ensures c.in-Opens.is c.in_default-next_lexeme.ensures

pub returns-in_default-lexeme : goal.returns-in_default-lexeme
returns-in_default-lexeme c =
    inside_none c.loop-l.invariant c.in-Some.ensures c.in-Opens.is c.in-Some-next_lexeme.ensures c.in_default-lexeme.not-Word

pub returns-in_default-head : goal.returns-in_default-head
returns-in_default-head c =
    inside_result c.loop-l.invariant c.in-Some.ensures c.in-Opens.is c.in-Some-next_lexeme.ensures c.in-Word-lexeme.is
    c.in_default-head.not-Let c.result_of.ensures

pub loop-l-preserved : goal.loop-l-preserved
loop-l-preserved c =
    inside_let c.loop-l.invariant c.in-Some.ensures c.in-Opens.is c.in-Some-next_lexeme.ensures c.in-Word-lexeme.is
    c.in-Let.is c.after_formula-rest.ensures
