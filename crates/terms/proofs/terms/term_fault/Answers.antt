-- `terms::term_fault` meets its contract: what is wrong is the first of the three tests that fails, and each `return` knows which that is.
use Prim.Native.Nat.{ℕ}
use mathlib.Core.Path.{◌≡◌, refl}
use mathlib.Core.Bool.{Bool, cond}
use Rattle.bundle.specs.Bundle.{Bundle, TermRecord, term_of}
use Rattle.logic.specs.Terms.{kind_of}
use Rattle.logic.specs.Tests.{passed}
use Rattle.logic.specs.Checks.{refers_as, sorted_as, is_new, term_fault}
use Rattle.bundle.specs.RecordWords.{as_term}
use Rattle.terms.proofs.terms.term_fault.Goals as goal

-- what is wrong, by what the three tests on the term's record give
told : (b : Bundle) (i : ℕ) (r : TermRecord) {p q n : Bool} → r ≡ term_of b i → p ≡ passed (refers_as b (kind_of r.kind) i r)
    → q ≡ sorted_as b (kind_of r.kind) r → n ≡ is_new b i → term_fault b i ≡ cond p (cond q (cond n 0 9) 8) 7
unfolding term_fault
told b i r e refers sorted new = rw (refers, sorted, new, e)

pub returns-then-not-term_refers : goal.returns-then-not-term_refers
returns-then-not-term_refers c =
    let refers = rw c.bundle-bundle.ensures at c.term_refers.ensures.0 in
    (rw (told _ _ (as_term c.args.w) c.requires.fact.4 refers refl refl, c.if-not-term_refers.true), tt)

pub returns-then-not-term_sorted : goal.returns-then-not-term_sorted
returns-then-not-term_sorted c =
    let refers = rw c.bundle-bundle.ensures at c.term_refers.ensures.0 in (
      rw (
        told _ _ (as_term c.args.w) c.requires.fact.4 refers c.term_sorted.ensures.0 refl,
        c.if-not-term_refers.false,
        c.if-not-term_sorted.true,
      ),
      tt,
    )

pub returns-then-not-is_new : goal.returns-then-not-is_new
returns-then-not-is_new c =
    let refers = rw c.bundle-bundle.ensures at c.term_refers.ensures.0 in
    let new = rw c.bundle-bundle.ensures at c.is_new.ensures in (
      rw (
        told _ _ (as_term c.args.w) c.requires.fact.4 refers c.term_sorted.ensures.0 new,
        c.if-not-term_refers.false,
        c.if-not-term_sorted.false,
        c.if-not-is_new.true,
      ),
      tt,
    )

pub returns : goal.returns
returns c =
    let refers = rw c.bundle-bundle.ensures at c.term_refers.ensures in
    let new = rw c.bundle-bundle.ensures at c.is_new.ensures in
    let fit = c.term_sorted.ensures in
    let referring = c.if-not-term_refers.false in
    let fitting = c.if-not-term_sorted.false in
    (rw (told _ _ (as_term c.args.w) c.requires.fact.4 refers.0 fit.0 new, referring, fitting, c.if-not-is_new.false), (refers.1 referring, fit.1 fitting))
