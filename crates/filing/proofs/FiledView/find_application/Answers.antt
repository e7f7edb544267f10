-- `FiledView::find_application` meets its contract: the lowest that passes the test, by the test's law.
use mathlib.Core.Path.{sym, ◌∙◌}
use mathlib.Core.Bool.{true}
use borrow.Author.Rules.{rules}
use Rattle.logic.specs.Lookup.{same_application}
use Rattle.scratch.specs.Stack.{halves_of}
use Rattle.filing.proofs.FiledTerms.{application_digest}
use Rattle.filing.proofs.FiledView.find_application.Goals as goal

pub returns : goal.returns
returns c =
    let a = c.args in
    let ts = halves_of true a.arguments.now in
    c.lowest.ensures (same_application a.self.now a.symbol ts) (λ t r small post. search rules)
    (λ r e. application_digest a.self.now a.symbol ts r e ∙ sym c.requires)
