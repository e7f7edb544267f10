-- `mixed_items` meets its contract.
use mathlib.Core.Path.{sym, ◌∙◌}
use Rattle.duplicates.proofs.Digests.{mix_on, mix_end}
use Rattle.duplicates.proofs.mixed_items.Goals as goal

pub loop-x-preserved : goal.loop-x-preserved
loop-x-preserved c =
    let s = c.in-Some.ensures.steps in
    c.loop-x.invariant ∙ rw (s.0, c.mixed-sum.ensures) (mix_on _ _ _ _ _ s.1)

pub returns : goal.returns
returns c = sym (c.loop-x.invariant ∙ mix_end _ _ _ (λ some. (c.in-None.ensures.steps some).0))
