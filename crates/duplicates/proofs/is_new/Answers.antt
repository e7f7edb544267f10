-- `is_new` meets its contract.
use native.Mathlib.Omega.{arith}
use mathlib.Core.Path.{◌≡◌, refl, sym, ◌∙◌}
use Rattle.bundle.proofs.Filed.{sought_start, sought_miss}
use Rattle.duplicates.proofs.Digests.{same_digest, same, new_at_end, not_new}
use Rattle.duplicates.proofs.is_new.Goals as goal

pub loop-j-init : goal.loop-j-init
loop-j-init c =
    let a = c.args in
    let b = a.bundle.now in
    sought_start c.requires.0 (same b a.i) a.d (omega (arith, c.place.ensures)) (λ j t. same_digest b _ _ t ∙ sym c.requires.2) (rw (← c.place.ensures.0) c.from-j.ensures)

pub returns-then-same_term : goal.returns-then-same_term
returns-then-same_term c =
    let a = c.args in
    let l = c.loop-j in
    let some : l.j ≡ 0 → ⊥ = c.loop-j-test.true in
    sym (not_new a.bundle.now a.i l.j (omega arith) (omega (arith, l.invariant.stands))
    (sym c.same_term.ensures ∙ c.if-same_term.true))

pub loop-j-preserved : goal.loop-j-preserved
loop-j-preserved c =
    let l = c.loop-j in
    sought_miss c.requires.0 l.invariant c.loop-j-test.true c.from-j-in-loop-j.ensures
    c.same_term.ensures c.if-same_term.false refl

pub returns : goal.returns
returns c =
    let a = c.args in
    let l = c.loop-j in
    sym (new_at_end a.bundle.now _ a.i l.j l.invariant c.loop-j-test.false)
