-- `arrays::variable_meets` meets its contract: bound on the left, or free there.
use mathlib.Core.Path.{ap, ◌∙◌}
use lib.ListN.{length}
use Rattle.bundle.specs.Bundle.{Bundle, term_of}
use Rattle.logic.specs.ReflWalk.{lefts, rights}
use Rattle.crossings.proofs.Places.{left_half, right_half}
use Rattle.crossings.proofs.Captures.{no_captures}
use Rattle.crossings.proofs.Pairs.{bound_meets_lem, free_meets_lem, image_differs}
use Rattle.crossings.proofs.arrays.variable_meets.Goals as goal

pub returns-then-place-ne0 : goal.returns-then-place-ne0
returns-then-place-ne0 c ps known =
    let a = c.args in
    let b = c.bundle-bundle in
    let count = c.variables-count.ensures.0 ∙ ap (λ (x : Bundle). length x.variables) b.ensures in
    let place = rw count at c.place_in-place.ensures in
    let kind = c.term_field-kind.ensures ∙ ap (λ (x : Bundle). (term_of x a.r).kind) b.ensures in
    let z = c.term_field-z.ensures ∙ ap (λ (x : Bundle). (term_of x a.r).a) b.ensures in
    let other = rw count at c.place_in-other.ensures in
    rw (c.number.ensures)
    (bound_meets_lem _ _ _ ps a.x a.r (place (lefts ps) (left_half _ _ _ _ ps known)) c.if-place-ne0.true kind z (other (rights ps) (right_half _ _ _ _ ps known)))

pub returns-then-not-good : goal.returns-then-not-good
returns-then-not-good c ps known =
    let a = c.args in
    let b = c.bundle-bundle in
    let count = c.variables-count.ensures.0 ∙ ap (λ (x : Bundle). length x.variables) b.ensures in
    let place = rw count at c.place_in-place.ensures in
    let image = rw count at c.image_of-image.ensures in
    let good = rw b.ensures at c.image_is-good.ensures in
    (image_differs _ _ _ ps a.x a.r (place (lefts ps) (left_half _ _ _ _ ps known)) c.if-place-ne0.false image good c.if-not-good.true)

pub returns : goal.returns
returns c ps known =
    let a = c.args in
    let b = c.bundle-bundle in
    let count = c.variables-count.ensures.0 ∙ ap (λ (x : Bundle). length x.variables) b.ensures in
    let place = rw count at c.place_in-place.ensures in
    let image = rw count at c.image_of-image.ensures in
    let good = rw b.ensures at c.image_is-good.ensures in
    let words = c.words-words.ensures in
    let small = rw words.0 at words.2 in
    free_meets_lem _ _ _ ps a.x a.r (place (lefts ps) (left_half _ _ _ _ ps known)) c.if-place-ne0.false image good c.if-not-good.false
    (no_captures a.sets.now a.bound.now a.r (rights ps) known.bound small c.is_settled.ensures)
