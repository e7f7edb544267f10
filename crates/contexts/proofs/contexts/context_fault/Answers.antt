-- `context_fault` meets its contract: what is wrong is the first of the two tests that fails.
use mathlib.Core.Path.{sym, ◌∙◌}
use Rattle.logic.specs.Contexts.{context_fault}
use Rattle.contexts.proofs.contexts.context_fault.Goals as goal

pub returns-then-not-context_refers : goal.returns-then-not-context_refers
unfolding context_fault
returns-then-not-context_refers c = rw (← c.context_refers.ensures, c.if-not-context_refers.true)

pub replacements_settled-requires : goal.replacements_settled-requires
replacements_settled-requires c =
    let p = c.requires in
    let r = c.context_refers in
    (p.0 ∙ sym p.1, p.2, rw p.1 p.3, rw p.1 (sym r.ensures ∙ c.if-not-context_refers.false))

pub returns-then-not-replacements_settled : goal.returns-then-not-replacements_settled
unfolding context_fault
returns-then-not-replacements_settled c =
    let r = c.context_refers in
    let s = c.replacements_settled in
    rw (← r.ensures, c.if-not-context_refers.false, ← (rw c.requires.1 at s.ensures), c.if-not-replacements_settled.true)

pub returns : goal.returns
unfolding context_fault
returns c =
    let r = c.context_refers in
    let s = c.replacements_settled in
    rw (← r.ensures, c.if-not-context_refers.false, ← (rw c.requires.1 at s.ensures), c.if-not-replacements_settled.false)
