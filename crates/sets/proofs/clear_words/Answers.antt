-- `sets::clear_words` meets its contract. The invariant: the first k words are cleared.
use mathlib.Core.Path.{refl}
use Rattle.sets.specs.Sets.{filled}
use Rattle.sets.proofs.Members.{filled_more}
use Rattle.sets.proofs.clear_words.Goals as goal

pub loop-k-init : goal.loop-k-init
unfolding filled
loop-k-init c = refl

pub loop-k-preserved : goal.loop-k-preserved
loop-k-preserved c = filled_more (λ k. 0) c.args.area.now c.args.at c.loop-k.k 0 c.loop-k.area c.loop-k.invariant refl
