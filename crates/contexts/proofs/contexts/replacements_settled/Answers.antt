-- `replacements_settled` meets its contract: only a context that replaces has terms.
use native.Mathlib.Omega.{arith}
use native.Mathlib.Nat.{mul-le-mul_left}
use Prim.Native.Nat.{◌+◌, ◌≤◌}
use mathlib.Core.Path.{ap, ◌∙◌}
use Rattle.bundle.specs.Bundle.{Bundle, context_of}
use Rattle.logic.specs.Contexts.{replacements_settled_as, replacements_settled}
use Rattle.logic.proofs.EntryFacts.{lower_parent}
use Rattle.images.proofs.ContextRows.{scopes_few}
use Rattle.contexts.proofs.contexts.replacements_settled.Goals as goal

pub all_settled-requires : goal.all_settled-requires
all_settled-requires c =
    let a = c.args in
    let s = a.sets.now in
    let p = c.context_field-parent in
    let low : p.result + 1 ≤ a.i =
    rw (p.ensures ∙ ap (λ (b : Bundle). (context_of b a.i).parent) c.requires.0) (omega (arith, lower_parent s.bundle a.i c.requires.3)) in
    (c.requires.1, scopes_few s.bundle a.scopes.now s.n a.i (p.result + 1) low (mul-le-mul_left s.n low) c.requires.2)

pub returns-in-Some-Replaces : goal.returns-in-Some-Replaces
unfolding replacements_settled replacements_settled_as
returns-in-Some-Replaces c =
    rw (
      ← c.requires.0,
      ← c.context_field-kind.ensures,
      c.of.ensures,
      c.in-Some-Replaces.is,
      c.in-Some-Replaces.field-0-is,
      ← c.context_field-terms.ensures,
      ← c.context_field-parent.ensures,
    )
    (rw (← c.requires.0) at c.all_settled.ensures)

pub returns-in-Some-Fixes : goal.returns-in-Some-Fixes
unfolding replacements_settled replacements_settled_as
returns-in-Some-Fixes c =
    rw (← c.requires.0, ← c.context_field-kind.ensures, c.of.ensures, c.in-Some-Fixes.is, c.in-Some-Fixes.field-0-is)

pub returns-in-None : goal.returns-in-None
unfolding replacements_settled replacements_settled_as
returns-in-None c = rw (← c.requires.0, ← c.context_field-kind.ensures, c.of.ensures, c.in-None.is)
