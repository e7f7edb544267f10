-- `check` meets its contract: the answer and the area go by what `accepted` finds.
use borrow.Author.Rules.{rules}
use Rattle.checker.proofs.Answers.{answer_is, area_zeros, area_free}
use Rattle.checker.proofs.check.Goals as goal

pub returns-then-is_err : goal.returns-then-is_err
returns-then-is_err c =
    let e = c.accepted-answer.ensures in record {
      value = answer_is _ _ _ e.fault e.acceptance;
      free_after = area_zeros _ _ _ e.fault (search rules) _ _ (search rules) c.clear.ensures;
    }

pub returns-else-is_err : goal.returns-else-is_err
returns-else-is_err c =
    let e = c.accepted-answer.ensures in record {
      value = answer_is _ _ _ e.fault e.acceptance;
      free_after = area_free _ _ _ e.fault (search rules) _ e.free_after;
    }
