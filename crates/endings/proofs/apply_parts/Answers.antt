-- `apply_parts` meets its contract: by the placement of its term.
use mathlib.Core.Path.{refl}
use Rattle.placing.proofs.Placings.{application_asks}
use Rattle.endings.proofs.EndingLaws.{ended}
use Rattle.endings.proofs.apply_parts.Goals as goal

pub returns : goal.returns
returns c =
    let f = rw c.symbols.ensures.0 at c.symbol_for-f.ensures.0 in
    let p = c.place_application.ensures in
    let d = c.in_ok-term.was in
    rw (← f, ← c.symbol_sort-sort.ensures) (ended p d (record { term = refl; sort = refl; rest = refl }), application_asks _ _ _ p d)
