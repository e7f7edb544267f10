-- `Judging::scoped_fault` meets its contract: 22, then the rest.
use Prim.Native.Nat.{ℕ, ◌≤◌}
use mathlib.Core.Path.{◌≡◌, ◌∙◌}
use mathlib.Core.Bool.{Bool, ◌&&◌}
use mathlib.Core.List.{List}
use lib.ListN.{length}
use Rattle.bundle.specs.Bundle.{Step}
use Rattle.logic.specs.Rules.{scoped_by}
use Rattle.free_variables.specs.TermSets.{in_scope_in, mentioned_at}
use Rattle.bundle.specs.RecordWords.{as_step}
use Rattle.images.specs.LentReading.{Known, reading_in}
use Rattle.steps.proofs.Verdicts.{scope_read, stray_judged, in_scope_judged}
use Rattle.steps.proofs.steps.Judging.scoped_fault.Goals as goal

-- what the code asks of the sides is what the reading asks, as one step
scoped_is : (k : Known) (bed : List ℕ) (s : Step) {p : Bool} → s.context ≤ length k.sets.bundle.contexts
    → p ≡ (in_scope_in k.sets k.scopes (mentioned_at k.sets.n s.context) s.left && in_scope_in k.sets k.scopes (mentioned_at k.sets.n s.context) s.right)
    → p ≡ scoped_by (reading_in k bed).in_scope s
scoped_is k bed s here e = e ∙ scope_read k bed s here

pub returns-then-not-scoped : goal.returns-then-not-scoped
returns-then-not-scoped c =
    let i = c.self.inside in
    let k = i.known.now in
    let s = as_step c.args.s in
    let p = rw (← c.self.view_is) at c.requires in
    let scoped = scoped_is k i.bed.now s p.0 (rw (c.sets.ensures.0, c.scopes.ensures.0) at c.both_in_scope-scoped.ensures) in
    rw (← c.self.view_is)
    (stray_judged (reading_in k i.bed.now) k.sets.bundle s scoped c.if-not-scoped.true)

pub returns : goal.returns
returns c =
    let i = c.self.inside in
    let k = i.known.now in
    let s = as_step c.args.s in
    let p = rw (← c.self.view_is) at c.requires in
    let scoped = scoped_is k i.bed.now s p.0 (rw (c.sets.ensures.0, c.scopes.ensures.0) at c.both_in_scope-scoped.ensures) in
    rw (← c.self.view_is)
    (in_scope_judged (reading_in k i.bed.now) k.sets.bundle s scoped _ c.if-not-scoped.false
    (rw (← c.self.view_is) at c.rule_fault.ensures))
