-- `walk` meets its contract.
use mathlib.Core.List.{[]}
use mathlib.Core.Path.{◌≡◌, refl, sym, ap, subst, ◌∙◌}
use lib.ListN.{length}
use Rattle.free_variables.specs.TermSets.{TermSets, free_in}
use Rattle.images.specs.ContextRows.{image_at}
use Rattle.logic.specs.ReflWalk.{within_by}
use Rattle.pair_walk.specs.Agenda.{Path}
use Rattle.pair_walk.proofs.Visiting.{Visiting, visit_start, visit_differs, open_known, visit_opened, opened_whole, turned_end, turned_pair}
use Rattle.pair_walk.proofs.walk.Goals as goal

pub loop-path-init : goal.loop-path-init
loop-path-init c =
    let a = c.args in
    let s = a.sets.now in
    rw (c.of-path.ensures, c.of.ensures)
    (visit_start (free_in s) (image_at (length s.bundle.variables) a.images.now a.context) s a.most a.left a.right c.requires.4, refl)

pub returns-then-not-meets : goal.returns-then-not-meets
returns-then-not-meets c = visit_differs c.loop-path.invariant.0 c.meets.ensures c.if-not-meets.true

pub open-requires : goal.open-requires
open-requires c = open_known c.loop-path.invariant.0 c.meets.ensures c.if-not-meets.false

pub next-requires : goal.next-requires
next-requires c = rw c.open.ensures (visit_opened c.loop-path.invariant.0 c.meets.ensures c.if-not-meets.false)

pub returns-in-Err : goal.returns-in-Err
returns-in-Err c =
    let a = c.args in
    let p = c.loop-path.path in
    let free = free_in p.sets in
    let image = image_at (length p.sets.bundle.variables) a.images.now a.context in
    turned_end free image c.next.new.path c.loop-path.spare (c.next.ensures.1 free image)
    (rw c.open.ensures (opened_whole c.loop-path.invariant.0 c.meets.ensures c.if-not-meets.false)) c.in-Err.is

pub loop-path-preserved : goal.loop-path-preserved
loop-path-preserved c =
    let a = c.args in
    let p = c.loop-path.path in
    let q = c.next.new.path in
    let s = a.sets.now in
    let free = free_in p.sets in
    let image = image_at (length p.sets.bundle.variables) a.images.now a.context in
    let whole = within_by (free_in s) (image_at (length s.bundle.variables) a.images.now a.context) s.bundle a.left [] a.right a.most in
    let same : q.sets ≡ p.sets = ap (λ (x : Path). x.sets) c.next.ensures.0 ∙ ap (λ (x : Path). x.sets) c.open.ensures in
    let next = (turned_pair free image q c.loop-path.spare (c.next.ensures.1 free image)
    (rw c.open.ensures (opened_whole c.loop-path.invariant.0 c.meets.ensures c.if-not-meets.false)) c.in-Ok.is).0 in (
      subst (λ (x : TermSets). Visiting (free_in x) (image_at (length x.bundle.variables) a.images.now a.context) whole q c.in-Ok.pair.l c.in-Ok.pair.r
          c.in-Ok.pair.left) (sym same) next,
      same ∙ c.loop-path.invariant.1,
    )
