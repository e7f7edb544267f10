-- `replace` meets its contract.
use native.Mathlib.Omega.{arith}
use mathlib.Core.Path.{◌≡◌, sym, ap, ◌∙◌}
use mathlib.Core.Bool.{true, not}
use mathlib.Core.List.{List, ◌∷◌}
use Prim.Native.Nat.{ℕ, ◌≤◌}
use lib.ListN.{length}
use Rattle.bundle.specs.Bundle.{Bundle}
use Rattle.bundle.specs.Lists.{numbers, each, different}
use Rattle.logic.specs.Contexts.{lookup, or_above, is_variable, as_image, moved_by}
use Rattle.logic.proofs.Tests.{numbers_of_lem, and_left, and_right}
use Rattle.images.specs.ContextRows.{as_mention, mention_in}
use Rattle.images.proofs.ContextRows.{untouched_trans, room_on, replacing_on, different_rest, as_replaced}
use Rattle.images.proofs.rows.Rows.replace.Goals as goal

each_head : (n x : ℕ) (xs : List ℕ) → each (numbers n) (x ∷ xs) ≡ true → (1 ≤ x) × (x ≤ n)
unfolding each
each_head n x xs e = numbers_of_lem n x (and_left (numbers n x) (each (numbers n) xs) e)

each_rest : (n x : ℕ) (xs : List ℕ) → each (numbers n) (x ∷ xs) ≡ true → each (numbers n) xs ≡ true
unfolding each
each_rest n x xs e = and_right (numbers n x) (each (numbers n) xs) e

moved_if : (b : Bundle) (t x : ℕ) → 1 ≤ t → t ≤ 1024 → not (is_variable b t x) ≡ moved_by b (as_image (as_mention t)) x
unfolding moved_by as_image
moved_if b t x one few = sym (ap (λ m. moved_by b (as_image m) x) (as_replaced t (λ z. omega arith) (λ z. omega arith)))

pub returns-in_default : goal.returns-in_default
unfolding lookup or_above
returns-in_default c =
    let l = c.loop-x in
    record {
      lower = l.invariant.lower;
      mentions = λ y. rw (c.in-Some.ensures.steps, c.in_default.ensures.steps.0) at (l.invariant.whole y);
      agrees = l.invariant.agrees;
    }

pub set_image-requires : goal.set_image-requires
set_image-requires c =
    let l = c.loop-x.invariant in
    let p = c.requires in
    let x = c.in-Some.x in
    let t = c.in-Some-next.t in
    let v = each_head _ x _ (rw c.in-Some.ensures.steps at l.variables) in
    let u = each_head _ t _ (rw c.in-Some-next.ensures.steps at l.terms) in
    let b = ap (λ r. r.bundle) c.self.view_is in
    let few : t ≤ 1024 = omega (arith, u.1, rw b at c.terms-terms.ensures.0, c.terms-terms.ensures.1) in (
      room_on _ c.loop-x.self c.args.k l.lower p.0,
      v.0,
      rw l.lower.bundle v.1,
      rw (l.lower.bundle, l.lower.n) p.1,
      u.0,
      omega (arith, few),
      rw l.lower.bundle ((rw b at (ap not c.is_variable-own.ensures)) ∙ moved_if _ t x u.0 few),
      l.agrees,
    )

pub loop-x-preserved : goal.loop-x-preserved
loop-x-preserved c =
    let a = c.args in
    let l = c.loop-x.invariant in
    let x = c.in-Some.x in
    let t = c.in-Some-next.t in
    let set = c.set_image.ensures in
    let i = c.in-Some.ensures.steps in
    let j = c.in-Some-next.ensures.steps in
    let last : ℕ = length a.self.now.bundle.variables in
    let vs : each (numbers last) (x ∷ _) ≡ true = rw i at l.variables in
    let ts : each (numbers (length a.self.now.bundle.terms)) (t ∷ _) ≡ true = rw j at l.terms in
    let ds : different (x ∷ _) ≡ true = rw i at l.different in
    let u = each_head _ t _ ts in
    let b = ap (λ r. r.bundle) c.self.view_is in
    let some = as_replaced t (λ z. omega (arith, u.0)) (λ z. omega (arith, u.1, rw b at c.terms-terms.ensures.0, c.terms-terms.ensures.1)) in
    record {
      lower = untouched_trans a.self.now c.loop-x.self _ a.k l.lower set.lower;
      agrees = set.agrees;
      whole =
          λ y. replacing_on x t _ _ (mention_in a.self.now.bundle c.loop-x.self.images a.k) _ ds some (λ z. rw l.lower.bundle at (set.mentions z)) y
          ∙ (rw (i, j) at (l.whole y));
      variables = each_rest last x _ vs;
      terms = each_rest _ t _ ts;
      different = different_rest x _ ds;
    }

pub returns : goal.returns
unfolding lookup or_above
returns c =
    let l = c.loop-x in
    record {
      lower = l.invariant.lower;
      mentions = λ y. rw c.in-None.ensures.steps.0 at (l.invariant.whole y);
      agrees = l.invariant.agrees;
    }
