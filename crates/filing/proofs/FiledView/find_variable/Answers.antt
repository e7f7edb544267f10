-- `FiledView::find_variable` meets its contract: the lowest that passes the test, by the test's law.
use mathlib.Core.Path.{sym, ◌∙◌}
use borrow.Author.Rules.{rules}
use Rattle.logic.specs.Lookup.{same_variable}
use Rattle.filing.proofs.FiledTerms.{variable_digest}
use Rattle.filing.proofs.FiledView.find_variable.Goals as goal

pub returns : goal.returns
returns c =
    let a = c.args in
    c.lowest.ensures (same_variable a.y) (λ t r small post. search rules)
    (λ r e. variable_digest a.self.now a.y r e ∙ sym c.requires)
