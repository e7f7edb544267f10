-- `records::let_meets` meets its contract: the kind, the sorts of the variables, and as many bound terms as variables.
use mathlib.Core.Path.{◌∙◌}
use borrow.Author.Tests.{eq-eqb, ne_eqb}
use Rattle.logic.specs.ReflWalk.{let_meets}
use Rattle.crossings.proofs.records.let_meets.Goals as goal

pub returns-then-kind-number : goal.returns-then-kind-number
unfolding let_meets
returns-then-kind-number c = rw (← c.term_field-kind.ensures, ne_eqb c.term_field-kind.result 5 (rw c.number.ensures at c.if-kind-number.true))

pub returns : goal.returns
unfolding let_meets
returns c =
    let k = c.term_field-kind in
    rw (
      c.all_sorts_meet-sorts.ensures,
      c.same_length-lengths.ensures,
      c.term_field-others.ensures,
      c.term_field-terms.ensures,
      c.term_field-variables.ensures,
      ← k.ensures,
      eq-eqb k.result 5 (c.if-kind-number.false ∙ c.number.ensures),
    )
