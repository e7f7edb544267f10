-- `heads::as_declared` meets its contract.
use mathlib.Core.Path.{◌≡◌, ◌∙◌, sym, ap}
use Rattle.bundle.specs.Bundle.{sort_of_variable}
use Rattle.lexing.specs.Lexes.{lexemes_of}
use Rattle.bracketing.specs.Brackets.{front_of}
use Rattle.bracketing.specs.Nodes.{variable_in, sort_in, as_declared}
use Rattle.bracketing.proofs.SortLaws.{variable_in_is}
use Rattle.node_tests.proofs.HeadLaws.{said_some, said_none}
use Rattle.node_tests.proofs.heads.as_declared.Goals.{in-Some, in-None, in-Some-said_at, in-None-said_at}
use Rattle.node_tests.proofs.heads.as_declared.Goals as goal

pub returns : goal.returns
unfolding as_declared
returns c =
    let b = c.args.bundle.now in
    let ls = lexemes_of c.args.text.now in
    let v = variable_in_is b c.variables.ensures.0 ls in
    let sort : c.match-variable_at.sort ≡ sort_of_variable b (variable_in b ls) =
    elim c.match-variable_at.branch [
      | in-Some w ↦ w.sort-is ∙ (w.variable_sort-sort.ensures ∙ ap (sort_of_variable b) (w.in-Some.ensures.called.0 ∙ v))
      | in-None w ↦ w.sort-is ∙ ap (sort_of_variable b) (sym w.in-None.ensures.called ∙ v)
    ] in
    let said : c.match-said_at.said ≡ sort_in (front_of (lexemes_of c.after_name.result.now)) =
    elim c.match-said_at.branch [
      | in-Some-said_at w ↦ w.said-is ∙ (w.number-said.ensures ∙ said_some _ w.in-Some-said_at.ensures)
      | in-None-said_at w ↦ w.said-is ∙ said_none _ w.in-None-said_at.ensures
    ] in
    rw (sort, said, c.after_name.ensures.lexemes)
