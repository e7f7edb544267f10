-- `let_term` meets its contract: by the placement of its term.
use mathlib.Core.Path.{refl}
use Rattle.placing.proofs.Placings.{let_asks}
use Rattle.endings.proofs.EndingLaws.{ended}
use Rattle.endings.proofs.let_term.Goals as goal

pub returns : goal.returns
returns c =
    let p = c.place_let.ensures in
    let d = c.in_ok-term.was in
    (ended p d (record { term = refl; sort = refl; rest = refl }), let_asks _ _ _ _ p d)
