-- `Scratch::push_one` meets its contract: a list of one value is one link.
use mathlib.Core.Path.{ap, ◌∙◌}
use native.Mathlib.Omega.{arith}
use lib.ListN.{length}
use Rattle.bundle.specs.Bundle.{Bundle}
use Rattle.logic.specs.Longer.{consecutive}
use Rattle.scratch.proofs.Pushed.{link_more}
use Rattle.scratch.proofs.appends.ScratchAppends.push_one.Goals as goal

pub returns : goal.returns
unfolding consecutive
returns c = (
  c.append_link.ensures,
  c.links.ensures.0 ∙ ap (λ (b : Bundle). length b.links) c.append_link.ensures ∙ link_more c.args.self.now c.args.value 0 ∙ omega arith,
)
