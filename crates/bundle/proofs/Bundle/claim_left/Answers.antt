-- `Bundle::claim_left` meets its contract: the claim is a word of the header.
use native.Mathlib.Omega.{arith}
use mathlib.Core.Path.{sym, ◌∙◌}
use Rattle.bundle.specs.Limits.{header_words}
use Rattle.bundle.proofs.Fields.{left_is}
use Rattle.bundle.proofs.Bundle.claim_left.Goals as goal

pub claim_left-requires : goal.claim_left-requires
unfolding header_words
claim_left-requires c = omega (arith, c.self.invariant.whole.exact)

pub returns : goal.returns
returns c = (c.claim_left.ensures.0 ∙ rw (← c.self.view_is) (sym (left_is c.self.inside.file.now c.self.inside.counts)), c.claim_left.ensures.1)
