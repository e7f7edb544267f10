-- `mention_of` meets its contract: the place of the variable in the row of the context.
use native.Mathlib.Omega.{arith}
use mathlib.Core.Path.{sym, ◌∙◌}
use Rattle.images.proofs.ContextRows.{mention_zero, mention_past, mention_some, as_absent, as_fixed, as_replaced}
use Rattle.images.proofs.images.mention_of.Goals as goal

pub returns-then-x-eq0 : goal.returns-then-x-eq0
returns-then-x-eq0 c = sym (mention_zero _ _ _ _ c.if-x-eq0.true)

pub returns-then-x-variables : goal.returns-then-x-variables
returns-then-x-variables c = sym (mention_past _ _ _ _ c.if-x-variables.true)

pub returns-then-t-eq0 : goal.returns-then-t-eq0
returns-then-t-eq0 c = sym (mention_some _ _ _ _ (omega arith) c.if-x-variables.false c.from-t.ensures ∙ as_absent _ c.if-t-eq0.true)

pub returns-then-t-eq-FIXED : goal.returns-then-t-eq-FIXED
returns-then-t-eq-FIXED c = sym (mention_some _ _ _ _ (omega arith) c.if-x-variables.false c.from-t.ensures ∙ as_fixed _ c.if-t-eq-FIXED.true)

pub returns : goal.returns
returns c = sym (mention_some _ _ _ _ (omega arith) c.if-x-variables.false c.from-t.ensures ∙ as_replaced _ c.if-t-eq0.false c.if-t-eq-FIXED.false)
