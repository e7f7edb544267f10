-- `View::mention` meets its contract: in each arm the entry is known, and `mention_as` says what the code returns.
use borrow.Author.Tests.{eq-eqb, ne_eqb}
use Rattle.logic.specs.Contexts.{mention}
use Rattle.scratch.proofs.View.mention.Goals as goal

pub returns-then-first-x : goal.returns-then-first-x
unfolding mention
returns-then-first-x c = (
  rw (
    ← c.context_field.ensures.0,
    c.of.ensures,
    c.in-Some-Fixes.is,
    c.in-Some-Fixes.field-0-is,
    ← c.context_field-first.ensures.0,
    eq-eqb _ _ c.if-first-x.true,
  ),
  λ t e. cc,
)

pub returns-else-first-x : goal.returns-else-first-x
unfolding mention
returns-else-first-x c = (
  rw (
    ← c.context_field.ensures.0,
    c.of.ensures,
    c.in-Some-Fixes.is,
    c.in-Some-Fixes.field-0-is,
    ← c.context_field-first.ensures.0,
    ne_eqb _ _ c.if-first-x.false,
  ),
  λ t e. cc,
)

pub returns-in-Some-Replaces : goal.returns-in-Some-Replaces
unfolding mention
returns-in-Some-Replaces c = (
  rw (
    ← c.context_field.ensures.0,
    c.of.ensures,
    c.in-Some-Replaces.is,
    c.in-Some-Replaces.field-0-is,
    ← c.context_field-first.ensures.0,
    ← c.context_field-second.ensures.0,
  ) c.lookup.ensures.0,
  c.lookup.ensures.1,
)

pub returns-in-None : goal.returns-in-None
unfolding mention
returns-in-None c = (rw (← c.context_field.ensures.0, c.of.ensures, c.in-None.is), λ t e. cc)
