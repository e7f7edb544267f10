-- `View::image` meets its contract: by what the entry of each context says.
use mathlib.Core.Path.{sym, ◌∙◌}
use Rattle.logic.proofs.Walked.{image_zero, image_fixed, image_replaced, image_on, image_not_lower}
use Rattle.scratch.proofs.View.image.Goals as goal

pub returns-in-Fixed : goal.returns-in-Fixed
returns-in-Fixed c =
    let l = c.loop-k in
    (sym (l.invariant ∙ image_fixed c.args.self.now l.k c.args.x c.mention.ensures.0 c.in-Fixed.is), λ t e. cc)

pub returns-in-Replaced : goal.returns-in-Replaced
returns-in-Replaced c =
    let l = c.loop-k in (
      sym (l.invariant ∙ image_replaced c.args.self.now l.k c.args.x c.mention.ensures.0 _ c.in-Replaced.is),
      λ t e. c.mention.ensures.1 t (cc),
    )

pub returns-then-parent-k : goal.returns-then-parent-k
returns-then-parent-k c =
    let l = c.loop-k in (
      sym (l.invariant ∙ image_not_lower c.args.self.now l.k c.args.x c.mention.ensures.0 c.in-Absent.is c.context_field-parent.ensures.0 c.if-parent-k.true),
      λ t e. cc,
    )

pub loop-k-preserved : goal.loop-k-preserved
loop-k-preserved c =
    let l = c.loop-k in
    l.invariant ∙ image_on c.args.self.now l.k c.args.x c.mention.ensures.0 c.in-Absent.is c.context_field-parent.ensures.0 c.if-parent-k.false

pub returns : goal.returns
returns c = (sym (c.loop-k.invariant ∙ image_zero c.args.self.now c.loop-k.k c.args.x c.loop-k-test.false), λ t e. cc)
