-- `sorts::variable_at` meets its contract.
use mathlib.Core.Path.{◌∙◌, ap}
use Rattle.grammar.specs.Grammar.{word}
use Rattle.lexing.specs.Words.{word_in}
use Rattle.bracketing.proofs.SortLaws.{variable_small, variable_found, variable_other, variable_missing}
use Rattle.bracketing.proofs.sorts.variable_at.Goals as goal

pub returns-in_err-name-clause-called : goal.returns-in_err-name-clause-called
returns-in_err-name-clause-called c =
    rw c.from_residual.ensures (variable_missing c.args.variables c.after_lexeme.ensures c.in_err-name.ensures)

pub returns-in-Name-clause-called : goal.returns-in-Name-clause-called
returns-in-Name-clause-called c =
    let n = c.args.variables in
    let w = c.in-Name.name.now in
    let e = variable_found n c.after_lexeme.ensures w (c.in_ok-name.ensures ∙ ap (λ w. word (word_in w)) c.in-Name.is) in
    rw (← e) c.variable_called.ensures

pub returns-in-Name-clause-small : goal.returns-in-Name-clause-small
returns-in-Name-clause-small c = variable_small c.requires c.in-Name.name.now _ c.variable_called.ensures

pub returns-in_default-clause-called : goal.returns-in_default-clause-called
returns-in_default-clause-called c = variable_other c.args.variables c.after_lexeme.ensures c.in_ok-name.field-0 c.in_default.not-Name c.in_ok-name.ensures
