-- `sorts::word_sort` meets its contract.
use mathlib.Core.Path.{◌∙◌}
use Rattle.bracketing.proofs.SortLaws.{sort_named, sort_none, sort_other}
use Rattle.bracketing.proofs.sorts.word_sort.Goals.{in-Name+in_default-variable_called, in_default}
use Rattle.bracketing.proofs.sorts.word_sort.Goals as goal

pub returns-in-Some : goal.returns-in-Some
returns-in-Some c =
    let x = c.in-Some.ensures in
    rw c.in-Name.is (sort_named c.args.bundle.now _ c.variables.ensures.0 x.0 x.1 c.variable_sort.ensures)

pub returns : goal.returns
returns c =
    c.result_of.ensures
    ∙ elim c.match-word.branch [
      | in-Name+in_default-variable_called w ↦ rw w.in-Name.is (sort_none c.args.bundle.now _ w.variables.ensures.0 w.in_default-variable_called.ensures)
      | in_default w ↦ sort_other c.args.bundle.now c.args.word w.in_default.not-Name
    ]
