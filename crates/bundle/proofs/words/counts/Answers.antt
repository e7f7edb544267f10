-- `words::counts` meets its contract: each field is a word of the header.
use Rattle.bundle.specs.File.{counts_of}
use Rattle.bundle.proofs.words.counts.Goals as goal

pub returns : goal.returns
unfolding counts_of
returns c = cc
