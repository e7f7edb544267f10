-- `remove_list` meets its contract.
use native.Mathlib.Omega.{arith}
use Rattle.bundle.specs.Links.{items}
use Rattle.unions.proofs.Puts.{kept_trans, remove_put, removing_turn, removing_end}
use Rattle.free_variables.proofs.remove_list.Goals as goal

pub loop-v-preserved : goal.loop-v-preserved
loop-v-preserved c =
    let a = c.args in
    let l = c.loop-v in
    let put = remove_put l.area c.remove.new.area a.n a.at c.in-Some.v
    (omega (arith, c.requires, l.invariant.kept.long)) c.remove.ensures in
    record {
      kept = kept_trans a.area.now l.area c.remove.new.area a.n a.at l.invariant.kept put.kept;
      removing = removing_turn a.area.now a.n a.at (items a.bundle.now a.list) l.area c.remove.new.area l.v-iterator _ c.in-Some.v
          l.invariant.removing c.in-Some.ensures.steps put;
    }

pub returns : goal.returns
returns c =
    let a = c.args in
    let l = c.loop-v in
    removing_end a.area.now a.n a.at (items a.bundle.now a.list) l.area l.v-iterator l.invariant.kept l.invariant.removing
    c.in-None.ensures.steps.0
