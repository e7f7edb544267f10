-- `contexts_fault` meets its contract.
use native.Mathlib.Omega.{arith}
use Prim.Native.Nat.{◌+◌, ◌≤◌}
use mathlib.Core.Path.{◌≡◌, refl, sym, ◌∙◌}
use lib.ListN.{length}
use Rattle.std.proofs.lemmas.Nat.{column_fits}
use Rattle.logic.specs.Contexts.{contexts_fault}
use Rattle.logic.proofs.CheckNumbers.{number_some}
use Rattle.logic.proofs.Firsts.{rest_start, rest_on, rest_here, rest_end}
use Rattle.logic.proofs.EntryFacts.{refers_passed}
use Rattle.free_variables.proofs.FreeWords.{known_room}
use Rattle.contexts.proofs.contexts.contexts_fault.Goals as goal

pub loop-i-init : goal.loop-i-init
unfolding contexts_fault
loop-i-init c =
    let q = c.requires.same in
    let p = c.requires.fact in
    record { rest = rest_start _ _; bundle = q.1; n = q.2; images_long = refl; scopes_long = refl; images = p.4; scopes = p.5 }

pub context_fault-requires : goal.context_fault-requires
context_fault-requires c = (c.bundle-bundle.ensures, c.requires.same.0, c.requires.fact.0, rw c.scopes.ensures c.loop-i.invariant.scopes)

pub returns-in-Err-clause-value : goal.returns-in-Err-clause-value
returns-in-Err-clause-value c =
    let few : c.loop-i.i ≤ length c.args.sorted.now.contexts = omega (arith, rw c.bundle-bundle.ensures at c.contexts-i-end.ensures.0) in
    sym (c.loop-i.invariant.rest ∙ rest_here _ _ _ c.in-Err.ensures few (number_some c.in-Err.check))

pub enter-requires : goal.enter-requires
enter-requires c =
    let b = c.args.sorted.now in
    let n = c.args.sets.now.n in
    let l = c.loop-i in
    let inv = l.invariant in
    let p = c.requires.fact in
    let few : l.i ≤ length b.contexts = omega (arith, rw c.bundle-bundle.ensures at c.contexts-i-end.ensures.0) in
    rw (inv.bundle, inv.n) (
      inv.images,
      inv.scopes,
      record {
        row = omega (arith, known_room (length b.variables) l.i (length b.contexts) (length c.args.rows.now.images) few p.2, inv.images_long);
        words = omega (arith, p.3, inv.scopes_long, column_fits n l.i n (length b.contexts + 1) (omega arith) (omega arith));
      },
      p.1,
      refers_passed b l.i (sym c.in_default.ensures),
    )

pub loop-i-preserved : goal.loop-i-preserved
loop-i-preserved c =
    let l = c.loop-i in
    let e = c.enter.ensures in
    let few : l.i ≤ length c.args.sorted.now.contexts = omega (arith, rw c.bundle-bundle.ensures at c.contexts-i-end.ensures.0) in
    record {
      rest = l.invariant.rest ∙ rest_on _ _ _ c.in_default.ensures few refl;
      bundle = e.same.0 ∙ l.invariant.bundle;
      n = e.same.1 ∙ l.invariant.n;
      images_long = e.same.2 ∙ l.invariant.images_long;
      scopes_long = e.same.3 ∙ l.invariant.scopes_long;
      images = rw l.invariant.bundle at e.entered.0;
      scopes = rw (l.invariant.bundle, l.invariant.n) at e.entered.1;
    }

pub returns : goal.returns
returns c =
    let l = c.loop-i in
    let all : l.i ≡ length c.args.sorted.now.contexts + 1 = omega (arith, rw c.bundle-bundle.ensures at c.contexts-i-end.ensures.0) in
    record {
      value = sym (l.invariant.rest ∙ rest_end _ _ _ (omega arith));
      fact = (rw (← all) l.invariant.images, rw (← all) l.invariant.scopes);
    }
