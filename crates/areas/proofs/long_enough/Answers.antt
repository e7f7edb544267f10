-- `areas::long_enough` meets its contract: the tests are those of the three areas.
use Rattle.std.proofs.Common.{rules}
use Rattle.bundle.specs.Limits.{header_words}
use Rattle.expansion.specs.Expansion.{long_enough}
use Rattle.areas.proofs.long_enough.Goals as goal

pub returns : goal.returns
unfolding long_enough header_words
returns c = search rules
