-- `free_terms` meets its contract.
use native.Mathlib.Omega.{arith}
use Prim.Native.Nat.{ℕ, ◌+◌, ◌*◌, ◌-◌, ◌≤◌}
use mathlib.Core.Path.{refl, ap, ◌∙◌}
use mathlib.Core.List.{List}
use lib.ListN.{length}
use Rattle.bundle.proofs.Fields.{record_within}
use Rattle.unions.specs.Put.{SetRoom}
use Rattle.unions.specs.Unions.{Uniting}
use Rattle.unions.proofs.Unions.{below_on}
use Rattle.free_variables.proofs.free_terms.Goals as goal

set_room : (w : List ℕ) (n t terms : ℕ) → 1 ≤ t → t ≤ terms → n * terms ≤ length w → SetRoom w n t (n * (t - 1))
set_room w n t terms one low room =
    record { one = one; start = refl; room = omega (arith, record_within n terms t (λ z. omega arith) low) }

pub loop-preserved : goal.loop-preserved
loop-preserved c =
    let a = c.args in
    let b = a.bundle.now in
    let l = c.loop in
    let put = rw l.invariant.next at c.free_term.ensures.0 in
    let low : l.counter + 1 ≤ length b.terms = omega (arith, c.loop-test.true, c.terms-terms.ensures.0) in
    let room : SetRoom l.area a.n (l.counter + 1) (a.n * (l.counter + 1 - 1)) =
    set_room l.area a.n (l.counter + 1) (length b.terms) (omega arith) low (omega (arith, c.requires.1, l.invariant.long)) in
    record {
      long = put.kept.long ∙ l.invariant.long;
      below = below_on l.area c.free_term.new.area a.n (l.counter + 1) (a.n * (l.counter + 1 - 1)) b room l.invariant.below put;
      next = c.next.ensures ∙ ap (λ (u : Uniting). record u { t = u.t + 1 }) (c.free_term.ensures.1 ∙ l.invariant.next);
    }
