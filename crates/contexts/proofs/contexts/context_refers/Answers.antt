-- `context_refers` meets its contract: in each branch the kind is known, and the tests are those that `context_refers_as` lists for it.
use Prim.Native.Nat.{ℕ}
use mathlib.Core.Path.{◌≡◌}
use Rattle.bundle.specs.Bundle.{Bundle, context_of}
use Rattle.logic.specs.Tests.{passed}
use Rattle.logic.specs.Checks.{lists_agree}
use Rattle.logic.specs.Contexts.{Entry, entry_of, context_refers_as, context_refers}
use Rattle.contexts.proofs.contexts.context_refers.Goals as goal

-- the tests, on the fields as they are read
told : (b : Bundle) (i : ℕ) {k x y p : ℕ} {e : Entry} → k ≡ (context_of b i).kind → x ≡ (context_of b i).a → y ≡ (context_of b i).b
    → p ≡ (context_of b i).parent → entry_of k ≡ e
    → context_refers b i ≡ passed (context_refers_as b e i (record { kind = k; a = x; b = y; parent = p }))
unfolding context_refers
told b i kind first second parent known = rw (← known, kind, first, second, parent)

pub returns-in-Some-Fixes : goal.returns-in-Some-Fixes
unfolding passed context_refers_as
returns-in-Some-Fixes c =
    rw (
      ← c.requires,
      told _ _ c.context_field-kind.ensures c.context_field-first.ensures c.context_field-second.ensures c.context_field-parent.ensures
          (rw (c.in-Some-Fixes.is, c.in-Some-Fixes.field-0-is) at c.of.ensures),
      c.variables-variables.ensures.0,
    )

pub returns-in-Some-Replaces : goal.returns-in-Some-Replaces
unfolding passed context_refers_as lists_agree
returns-in-Some-Replaces c =
    rw (
      ← c.requires,
      told _ _ c.context_field-kind.ensures c.context_field-first.ensures c.context_field-second.ensures c.context_field-parent.ensures
          (rw (c.in-Some-Replaces.is, c.in-Some-Replaces.field-0-is) at c.of.ensures),
      ← c.variables-variables.ensures.0,
      ← c.terms-terms.ensures.0,
      ← c.links-links.ensures.0,
      ← c.all_numbers-replaced.ensures,
      ← c.all_numbers-replacing.ensures,
      ← c.some_different-distinct.ensures,
      ← (rw (← c.requires) at c.variables_fit-fit.ensures),
    )

pub returns-in-None : goal.returns-in-None
unfolding passed context_refers_as
returns-in-None c =
    rw (
      ← c.requires,
      told _ _ c.context_field-kind.ensures c.context_field-first.ensures c.context_field-second.ensures c.context_field-parent.ensures
          (rw c.in-None.is at c.of.ensures),
    )
