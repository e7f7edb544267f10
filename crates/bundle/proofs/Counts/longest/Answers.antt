-- `Bundle::longest` meets its contract: both sides compute.
use mathlib.Core.Path.{refl}
use Rattle.bundle.specs.Limits.{header_words}
use Rattle.bundle.proofs.Counts.longest.Goals as goal

pub returns : goal.returns
unfolding header_words
returns c = refl
