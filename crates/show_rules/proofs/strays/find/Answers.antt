-- `strays::find` meets its contract: the area holds the free sets.
use Rattle.show_rules.proofs.FreeUnmentioned.{stray_free}
use Rattle.show_rules.proofs.strays.find.Goals as goal

pub returns-in-Some : goal.returns-in-Some
returns-in-Some c =
    let a = c.args in
    let r = c.stray_of.ensures in
    stray_free _ c.of-sets.ensures c.free_sets-area.ensures a.context a.left _ c.in-Some.ensures r.0 r.1

pub returns : goal.returns
returns c =
    let a = c.args in
    let r = c.stray_of-2.ensures in
    stray_free _ c.of-sets.ensures c.free_sets-area.ensures a.context a.right _ c.in_ok-y.ensures r.0 r.1
