-- `FiledView::find_binder` meets its contract: the lowest that passes the test, by the test's law.
use mathlib.Core.Path.{sym, ap, ◌∙◌}
use Prim.Native.Nat.{ℕ}
use borrow.Author.Rules.{rules}
use Rattle.logic.specs.Lookup.{same_binder}
use Rattle.filing.specs.Filing.{root_digest}
use Rattle.filing.proofs.FiledTerms.{binder_digest}
use Rattle.filing.proofs.FiledView.find_binder.Goals as goal

pub returns : goal.returns
returns c q k =
    let a = c.args in
    c.lowest.ensures (same_binder q a.y a.body) (λ t r small post. search rules)
    (λ r e. binder_digest a.self.now q a.y a.body r e ∙ ap (λ (n : ℕ). root_digest n a.y) (sym k) ∙ sym c.requires)
