-- `close_variable` meets its contract: the step ends in what the image gives.
use mathlib.Core.Path.{◌≡◌, refl, sym, ap, subst, ◌∙◌}
use mathlib.Core.List.{[]}
use Prim.Native.Nat.{ℕ, ◌≤◌}
use native.Mathlib.Omega.{arith}
use Rattle.bundle.specs.Words.{largest_word}
use Rattle.logic.specs.declared.Image.{Image}
use Rattle.logic.specs.Contexts.{image}
use Rattle.scratch.proofs.Pushed.{add_none}
use Rattle.expansion.specs.Visit.{concluded, image_term}
use Rattle.placing.specs.Outcomes.{VisitOutcome}
use Rattle.closers.proofs.Closings.{concluded_is, concluded_fits}
use Rattle.closers.proofs.close_variable.Goals.{in-Own, in-Gives}
use Rattle.closers.proofs.close_variable.Goals as goal

pub returns : goal.returns
returns g c =
    let a = c.args in
    let b = g.S.Appends.bundle a.scratch.now in
    let to : Image → ℕ = λ i. image_term i a.term in
    let right : c.match-image.right ≡ to (image b a.context a.x) =
    elim c.match-image.branch
    [ in-Own w ↦ w.right-is ∙ ap to (sym w.in-Own.is ∙ c.image.ensures.0) | in-Gives w ↦ w.right-is ∙ ap to (sym w.in-Gives.is ∙ c.image.ensures.0) ] in
    let word : c.match-image.right ≤ largest_word =
    elim c.match-image.branch [ in-Own w ↦ omega (arith, w.right-is, c.requires.1) | in-Gives w ↦ omega (arith, w.right-is, c.image.ensures.1 _ w.in-Gives.is) ] in
    let o = concluded_is b 1 a.context a.term c.match-image.right [] c.number.ensures (sym (add_none b)) refl c.add_step.ensures in (
      subst (λ (t : ℕ). VisitOutcome (concluded b 1 a.context a.term t []) (g.S.Appends.bundle c.add_step.new.scratch) c.add_step.result) right o,
      concluded_fits b 1 a.context a.term c.match-image.right [] o word,
    )
