-- `runs::is_word` meets its contract.
use mathlib.Core.Path.{ap, ◌∙◌}
use mathlib.Core.Bool.{◌&&◌}
use lib.Dec.{eqb}
use lib.ListN.{length}
use Rattle.lexing.proofs.CommonLaws.{same_common}
use Rattle.lexing.proofs.runs.is_word.Goals as goal

pub returns : goal.returns
returns c =
    let a = c.args in
    ap (λ n. eqb n (length a.run.now) && eqb (length a.run.now) (length a.other.now)) c.in_common-n.ensures
    ∙ same_common a.run.now a.other.now
