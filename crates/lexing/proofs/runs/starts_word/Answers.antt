-- `runs::starts_word` meets its contract.
use mathlib.Core.Path.{◌∙◌}
use Rattle.lexing.proofs.CommonLaws.{starts_pointwise}
use Rattle.lexing.proofs.runs.starts_word.Goals as goal

pub returns : goal.returns
returns c = c.starts_with.ensures.value ∙ starts_pointwise c.args.run.now c.args.other.now
