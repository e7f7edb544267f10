-- `turns::next` meets its contract.
use mathlib.Core.Path.{refl, ap, ◌∙◌}
use mathlib.Core.Logic.{inl, inr}
use Rattle.logic.specs.Named.{kind_in}
use Rattle.pair_walk.proofs.Finishing.{finish_none}
use Rattle.pair_walk.proofs.Turning.{one_none, going_end, leave_known, leave_on, pending_is, takes, take_turn, short_turn, closed_on}
use Rattle.pair_walk.proofs.Turning.{binder_known, binder_turn, let_known, let_turn}
use Rattle.pair_walk.proofs.turns.next.Goals as goal
use Rattle.pair_walk.proofs.turns.next.Goals.{then-top-ne0+else-top-ne0-2, else-top-ne0}

-- ---- variables are left

pub uncross-requires : goal.uncross-requires
uncross-requires c = leave_known c.loop-top.invariant c.in-Some.top c.in-Some.ensures c.if-l-eq0.true

pub loop-top-preserved-then-l-eq0 : goal.loop-top-preserved-then-l-eq0
loop-top-preserved-then-l-eq0 c = leave_on c.loop-top.invariant c.in-Some.top c.in-Some.ensures c.if-l-eq0.true c.uncross.ensures

-- ---- the lists of a pair go on, or one is shorter

pub take-requires : goal.take-requires
take-requires c = takes c.loop-top.invariant c.in-Some.top c.in-Some.ensures c.if-l-eq0.false c.if-top-ne0.true c.if-top-ne0-2.true

pub returns-then-top-ne0-2 : goal.returns-then-top-ne0-2
returns-then-top-ne0-2 c = take_turn c.loop-top.invariant c.in-Some.top c.in-Some.ensures c.if-l-eq0.false c.if-top-ne0.true c.if-top-ne0-2.true c.take.ensures

pub returns-then-top : goal.returns-then-top
returns-then-top c =
    let t = c.in-Some.top in
    short_turn c.loop-top.invariant t c.in-Some.ensures c.if-l-eq0.false
    (one_none t.i t.j
    (elim c.if-top-ne0.branch [ then-top-ne0+else-top-ne0-2 w ↦ inl (w.if-top-ne0.true, w.if-top-ne0-2.false) | else-top-ne0 w ↦ inr w.if-top-ne0.false ])
    c.if-top.true)

-- ---- both lists have ended

pub pop-requires : goal.pop-requires
pop-requires c = pending_is c.loop-top.invariant c.in-Some.top c.in-Some.ensures c.if-l-eq0.false

pub into_body-requires : goal.into_body-requires
into_body-requires c =
    binder_known c.loop-top.invariant c.in-Some.top c.in-Some.ensures c.if-l-eq0.false c.if-top.false c.pop.ensures c.bundle.ensures c.term_field.ensures
    (c.in-Some-Binder.ensures ∙ ap kind_in c.in-Some-Binder.field-0-is)

pub returns-in-Some-Binder : goal.returns-in-Some-Binder
returns-in-Some-Binder c =
    binder_turn c.loop-top.invariant c.in-Some.top c.in-Some.ensures c.if-l-eq0.false c.if-top.false c.pop.ensures c.bundle.ensures c.term_field.ensures
    (c.in-Some-Binder.ensures ∙ ap kind_in c.in-Some-Binder.field-0-is) c.into_body.result c.into_body.ensures

pub into_let-requires : goal.into_let-requires
into_let-requires c =
    let_known c.loop-top.invariant c.in-Some.top c.in-Some.ensures c.if-l-eq0.false c.if-top.false c.pop.ensures c.bundle.ensures c.term_field.ensures
    (c.in-Some-Let.ensures ∙ ap kind_in c.in-Some-Let.field-0-is)

pub returns-in-Some-Let : goal.returns-in-Some-Let
returns-in-Some-Let c =
    let_turn c.loop-top.invariant c.in-Some.top c.in-Some.ensures c.if-l-eq0.false c.if-top.false c.pop.ensures c.bundle.ensures c.term_field.ensures
    (c.in-Some-Let.ensures ∙ ap kind_in c.in-Some-Let.field-0-is) c.into_let.result c.into_let.ensures

pub loop-top-preserved-in-Some-Variable : goal.loop-top-preserved-in-Some-Variable
loop-top-preserved-in-Some-Variable c =
    closed_on c.loop-top.invariant c.in-Some.top c.in-Some.ensures c.if-l-eq0.false c.if-top.false c.pop.ensures c.bundle.ensures c.term_field.ensures
    (c.in-Some-Variable.ensures ∙ ap kind_in c.in-Some-Variable.field-0-is) refl

pub loop-top-preserved-in-Some-Application : goal.loop-top-preserved-in-Some-Application
loop-top-preserved-in-Some-Application c =
    closed_on c.loop-top.invariant c.in-Some.top c.in-Some.ensures c.if-l-eq0.false c.if-top.false c.pop.ensures c.bundle.ensures c.term_field.ensures
    (c.in-Some-Application.ensures ∙ ap kind_in c.in-Some-Application.field-0-is) refl

pub loop-top-preserved : goal.loop-top-preserved
loop-top-preserved c =
    closed_on c.loop-top.invariant c.in-Some.top c.in-Some.ensures c.if-l-eq0.false c.if-top.false c.pop.ensures c.bundle.ensures c.term_field.ensures
    c.in-None.ensures refl

-- ---- nothing is left

pub returns : goal.returns
returns c = going_end c.loop-top.invariant (λ free image. finish_none free image c.loop-top.path.sets.bundle c.loop-top.path.frames c.args.left c.in_default.ensures)
