-- `FiledView::find_let` meets its contract: the lowest that passes the test, by the test's law.
use mathlib.Core.Path.{sym, ◌∙◌}
use mathlib.Core.Bool.{true, false}
use borrow.Author.Rules.{rules}
use Rattle.logic.specs.Lookup.{same_let}
use Rattle.scratch.specs.Stack.{halves_of}
use Rattle.filing.proofs.FiledTerms.{let_digest_lem}
use Rattle.filing.proofs.FiledView.find_let.Goals as goal

pub returns : goal.returns
returns c =
    let a = c.args in
    let vs = halves_of false a.pairs.now in
    let ts = halves_of true a.pairs.now in
    c.lowest.ensures (same_let a.self.now vs ts a.body) (λ t r small post. search rules)
    (λ r e. let_digest_lem a.self.now vs ts a.body r e ∙ sym c.requires)
