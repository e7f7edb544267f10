-- `words::header_words` meets its contract. Only this proof and that of `longest` rest on what `header_words` is.
use native.Mathlib.Omega.{arith}
use mathlib.Core.Path.{refl}
use Rattle.bundle.specs.Limits.{header_words}
use Rattle.bundle.proofs.words.header_words.Goals as goal

pub returns : goal.returns
unfolding header_words
returns c = (refl, omega arith)
