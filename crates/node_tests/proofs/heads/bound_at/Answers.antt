-- `heads::bound_at` meets its contract.
use native.Mathlib.Omega.{arith}
use mathlib.Core.Path.{sym, ◌∙◌}
use Rattle.lexing.specs.Lexes.{lexemes_of}
use Rattle.bracketing.proofs.SortLaws.{variable_in_is}
use Rattle.node_tests.proofs.HeadLaws.{bound_fits, bound_differs, bound_missing}
use Rattle.node_tests.proofs.heads.bound_at.Goals as goal

pub returns-in_err-x-clause-bound : goal.returns-in_err-x-clause-bound
returns-in_err-x-clause-bound c =
    let b = c.args.bundle.now in
    let v = variable_in_is b c.variables.ensures.0 (lexemes_of c.args.text.now) in
    rw c.from_residual.ensures (bound_missing b _ (sym v ∙ c.in_err-x.ensures.called))

pub returns-then-variable_sort-sort-clause-bound : goal.returns-then-variable_sort-sort-clause-bound
returns-then-variable_sort-sort-clause-bound c =
    let b = c.args.bundle.now in
    let v = variable_in_is b c.variables.ensures.0 (lexemes_of c.args.text.now) in
    let x = c.in_ok-x.ensures.called in
    let e = bound_fits b c.after_name.ensures (x.0 ∙ v) c.variable_sort.ensures c.sort_at-sort.ensures c.if-variable_sort-sort.true in
    (sym e, omega (arith, e, x.0, x.1))

pub returns-else-variable_sort-sort-clause-bound : goal.returns-else-variable_sort-sort-clause-bound
returns-else-variable_sort-sort-clause-bound c =
    let b = c.args.bundle.now in
    let v = variable_in_is b c.variables.ensures.0 (lexemes_of c.args.text.now) in
    bound_differs b c.after_name.ensures (c.in_ok-x.ensures.called.0 ∙ v) c.variable_sort.ensures c.sort_at-sort.ensures
    c.if-variable_sort-sort.false
