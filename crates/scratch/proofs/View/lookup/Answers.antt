-- `View::lookup` meets its contract: two lists side by side.
use mathlib.Core.Path.{◌≡◌, refl}
use native.Mathlib.Omega.{arith}
use borrow.Author.Tests.{eq-eqb, ne_eqb}
use Rattle.bundle.proofs.Walks.{walk_start, walk_start_le, walk_le, walk_nil, walk_cons}
use Rattle.logic.specs.Contexts.{lookup}
use Rattle.scratch.proofs.View.lookup.Goals as goal

pub loop-v-init : goal.loop-v-init
loop-v-init c =
    let a = c.args in
    let s = c.first_link-j in (
      walk_start_le a.self.now a.terms s.result s.ensures,
      rw (walk_start a.self.now a.terms s.result s.ensures, c.into_iter-v-iterator.ensures.into_iter_gives, c.items-v-items.ensures),
    )

pub returns-then-j-eq0 : goal.returns-then-j-eq0
unfolding lookup
returns-then-j-eq0 c =
    let l = c.loop-v in
    (rw (l.invariant.1, c.in-Some.ensures.steps, walk_nil c.args.self.now l.j c.if-j-eq0.true), λ t e. cc)

pub returns-then-v-x : goal.returns-then-v-x
unfolding lookup
returns-then-v-x c =
    let l = c.loop-v in
    let t = c.link_field in (
      rw (
        l.invariant.1,
        c.in-Some.ensures.steps,
        walk_cons c.args.self.now l.j t.result _ c.if-j-eq0.false l.invariant.0 t.ensures.0 refl,
        eq-eqb _ _ c.if-v-x.true,
      ),
      λ u e. let r : t.result ≡ u = cc in omega arith,
    )

pub loop-v-preserved : goal.loop-v-preserved
unfolding lookup
loop-v-preserved c =
    let b = c.args.self.now in
    let l = c.loop-v in
    let n = c.next_link-j in (
      walk_le b l.j n.result n.ensures,
      rw (
        l.invariant.1,
        c.in-Some.ensures.steps,
        walk_cons b l.j _ n.result c.if-j-eq0.false l.invariant.0 refl n.ensures,
        ne_eqb _ _ c.if-v-x.false,
      ),
    )

pub returns : goal.returns
unfolding lookup
returns c = (rw (c.loop-v.invariant.1, c.in-None.ensures.steps.0), λ t e. cc)
