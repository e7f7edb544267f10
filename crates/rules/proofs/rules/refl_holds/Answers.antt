-- `rules::refl_holds` meets its contract: the same settled term, or else a variable and its image.
use mathlib.Core.Path.{◌≡◌}
use mathlib.Core.Bool.{false, ◌&&◌}
use lib.Dec.{eqb}
use borrow.Author.Tests.{eq-eqb, ne_eqb}
use borrow.Author.Tests.{le-leb}
use Rattle.bundle.specs.RecordWords.{as_step}
use Rattle.free_variables.specs.TermSets.{settled_in, moved_at}
use Rattle.images.specs.LentReading.{images_in, all_settled_in}
use Rattle.logic.specs.Rules.{refl_holds_by}
use Rattle.rules.proofs.SameBundle.{along}
use Rattle.rules.proofs.rules.refl_holds.Goals as goal
use Rattle.rules.proofs.rules.refl_holds.Goals.{After-number, then-left-right+else-is_settled, else-left-right}

-- the first of its two forms does not take it
no_term : (c : After-number)
    → (eqb c.args.s.left c.args.s.right && settled_in c.args.known.now.sets c.args.known.now.scopes (moved_at c.args.known.now.sets.n c.args.s.context) c.args.s.left) ≡ false
no_term c = elim c.if-left-right.branch [
  | then-left-right+else-is_settled w ↦ rw (eq-eqb _ _ w.if-left-right.true, ← w.is_settled.ensures, w.if-is_settled.false)
  | else-left-right w ↦ rw (ne_eqb _ _ w.if-left-right.false)
]

pub returns-then-is_settled : goal.returns-then-is_settled
unfolding refl_holds_by
returns-then-is_settled c =
    rw (
      le-leb _ _ c.requires,
      eq-eqb _ _ c.if-left-right.true,
      ← c.is_settled.ensures,
      c.if-is_settled.true,
    )

pub returns-then-term_field-number : goal.returns-then-term_field-number
unfolding refl_holds_by
returns-then-term_field-number c =
    let k = c.args.known.now in
    let s = c.args.s in
    along (λ b. refl_holds_by (all_settled_in k.sets k.scopes) (images_in k.sets.bundle k.images) b (as_step s)) c.bundle-bundle.ensures
    (rw (le-leb _ _ c.requires, no_term (goal.at.returns-then-term_field-number c).After-number, ← c.term_field.ensures, ne_eqb _ 1 (rw c.number.ensures at c.if-term_field-number.true)))

pub returns : goal.returns
unfolding refl_holds_by
returns c =
    let k = c.args.known.now in
    let s = c.args.s in
    along (λ b. refl_holds_by (all_settled_in k.sets k.scopes) (images_in k.sets.bundle k.images) b (as_step s)) c.bundle-bundle.ensures
    (rw (
      le-leb _ _ c.requires,
      no_term (goal.at.returns c).After-number,
      ← c.term_field.ensures,
      eq-eqb _ 1 (rw c.number.ensures at c.if-term_field-number.false),
      ← c.term_field-variable.ensures,
      ← c.image.ensures,
      ← c.is_image.ensures,
    ))
