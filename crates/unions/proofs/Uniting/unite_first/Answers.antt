-- `Uniting::unite_first` meets its contract.
use Rattle.bundle.proofs.Walks.{walk_start, walk_start_le, walk_le, walk_cons}
use Rattle.unions.proofs.Puts.{partly_refl, partly_on}
use Rattle.unions.proofs.Uniting.unite_first.Goals as goal

pub loop-init : goal.loop-init
loop-init c =
    let b = c.self.inside.bundle.now in
    let r = c.first_link-i in
    record { link = walk_start_le b c.args.list r.result r.ensures; part = rw (walk_start b c.args.list r.result r.ensures) partly_refl }

pub loop-preserved : goal.loop-preserved
loop-preserved c =
    let b = c.self.inside.bundle.now in
    let l = c.loop in
    record {
      link = walk_le b l.i c.next_link-i.result c.next_link-i.ensures;
      part = partly_on (rw (← c.self.view_is) at c.requires) l.invariant.part
          (walk_cons b l.i c.link_field-term.result c.next_link-i.result c.if-i-eq0.false l.invariant.link c.link_field-term.ensures c.next_link-i.ensures)
          c.unite_term.ensures;
    }
