-- `Bundle::claim_right` meets its contract: the claim is a word of the header.
use native.Mathlib.Omega.{arith}
use mathlib.Core.Path.{sym, ◌∙◌}
use Rattle.bundle.specs.Limits.{header_words}
use Rattle.bundle.proofs.Fields.{right_is}
use Rattle.bundle.proofs.Bundle.claim_right.Goals as goal

pub claim_right-requires : goal.claim_right-requires
unfolding header_words
claim_right-requires c = omega (arith, c.self.invariant.whole.exact)

pub returns : goal.returns
returns c = (c.claim_right.ensures.0 ∙ rw (← c.self.view_is) (sym (right_is c.self.inside.file.now c.self.inside.counts)), c.claim_right.ensures.1)
