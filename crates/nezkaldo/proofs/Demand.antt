-- DEMAND 3 WHOLE.
use mathlib.Core.Path.{sym, subst, ◌∙◌}
use mathlib.Core.List.{List}
use lib.ListN.{take}
use Rattle.judgement.proofs.Demands.{accepted_sound}
use Rattle.expansion.specs.Demands.{WrittenWell}
use Rattle.expansion.proofs.Demands.{expansion_right}
use Rattle.nezkaldo.specs.Demand.{CheckedEqual, ExpandedAccepted, DemandThree}

checked_equal : CheckedEqual
checked_equal file free a s e accepted = accepted_sound file _ s (sym e ∙ accepted)

expanded_accepted : ExpandedAccepted
expanded_accepted names job out words sets out' words' sets' reply bytes formed closed fits long left =
    let w = expansion_right names job _ _ _ bytes formed closed fits long in
    let well : WrittenWell job (take w.0 out') = subst (λ (o : List _). WrittenWell job (take w.0 o)) (sym left.output) w.2 in
    (w.0, left.answer ∙ w.1, (λ free a room e. e ∙ well.accepted _ room), well)

pub demand_three : DemandThree
demand_three = (checked_equal, expanded_accepted)
