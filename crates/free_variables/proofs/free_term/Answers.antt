-- `free_term` meets its contract: what a term has besides its list, then its list.
use mathlib.Core.Path.{refl}
use Rattle.bundle.proofs.Walks.{walk_nil}
use Rattle.unions.proofs.Puts.{room_kept}
use Rattle.unions.proofs.ByKind.{both_parts}
use Rattle.unions.proofs.Unions.{below_same}
use Rattle.free_variables.proofs.free_term.Goals as goal

pub unite_list-requires : goal.unite_list-requires
unite_list-requires c =
    let w = c.args.area.now in
    let u = c.args.uniting.now in
    let p = c.requires in
    let own = c.free_own-list in
    let put = rw (c.n-n.ensures, c.t-t.ensures, c.bundle.ensures) at own.ensures.1 in
    rw (c.n-n.ensures, c.t-t.ensures) (
      room_kept w own.new.area u.n u.t _ p.0 put.kept,
      below_same w own.new.area u.n u.t _ u.bundle p.0 put.kept p.2,
    )

pub returns : goal.returns
returns c =
    let w = c.args.area.now in
    let u = c.args.uniting.now in
    let own = c.free_own-list in
    let list = rw (c.n-n.ensures, c.t-t.ensures) at c.unite_list.ensures.put in
    let kept = rw (c.n-n.ensures, c.t-t.ensures, c.bundle.ensures) at own.ensures in (
      both_parts u.bundle w own.new.area c.unite_list.new.area u.n u.t _ own.result (walk_nil u.bundle 0 refl) c.requires.0 kept.0 kept.1 list,
      c.unite_list.ensures.same,
    )
