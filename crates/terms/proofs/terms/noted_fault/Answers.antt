-- `terms::noted_fault` meets its contract.
use borrow.Author.Rules.{rules}
use native.Mathlib.Omega.{arith}
use Prim.Native.Nat.{◌+◌, ◌-◌}
use mathlib.Core.Path.{refl, sym, ap, ◌∙◌}
use lib.ListN.{length}
use Rattle.bundle.specs.LinkNotes.{AllTo}
use Rattle.bundle.proofs.LinkNotes.{noted_none, lower_up}
use Rattle.logic.specs.Checks.{terms_fault}
use Rattle.logic.proofs.Firsts.{rest_start, rest_on, rest_here, rest_end}
use Rattle.logic.proofs.CheckNumbers.{number_some}
use Rattle.duplicates.specs.Digests.{term_digest}
use Rattle.sorting.specs.Notes.{SortsFit}
use Rattle.terms.proofs.terms.noted_fault.Goals as goal

pub loop-i-init : goal.loop-i-init
unfolding terms_fault
loop-i-init c =
    let a = c.args in (
      ap length c.none-earlier.ensures.1,
      c.none-earlier.ensures.0 a.sorted.now,
      rest_start _ _,
      noted_none (AllTo a.sorted.now 0) (length a.sorted.now.links) a.lower.now c.requires.1
          c.requires.0,
      noted_none (SortsFit a.sorted.now) (length a.sorted.now.links) a.fitting.now c.requires.3
          c.requires.2,
      refl,
      refl,
    )

pub returns-in-Err : goal.returns-in-Err
returns-in-Err c =
    sym (c.loop-i.invariant.2 ∙ rest_here _ _ _ c.in-Err.ensures.0 (omega (arith, rw c.bundle-bundle.ensures at c.terms-i-end.ensures.0)) (number_some c.in-Err.check))

pub loop-i-preserved : goal.loop-i-preserved
loop-i-preserved c =
    let d = c.digest-d in
    let w = c.term_words-w in
    let l = c.loop-i in
    let b = c.args.sorted.now in
    let noted = c.in_default.ensures.1 in
    let same = c.bundle-bundle.ensures in
    let terms = rw same at c.terms-i-end.ensures.0 in
    let filed = c.file.ensures in (
      filed.1 ∙ l.invariant.0,
      filed.0 b l.invariant.1 ((rw same at d.ensures) ∙ ap (term_digest b) (rw same at w.ensures)),
      l.invariant.2 ∙ rest_on _ _ _ c.in_default.ensures.0 (omega (arith, terms)) refl,
      lower_up c.args.sorted.now (l.i - 1) (l.i + 1 - 1) _ (omega arith) noted.0,
      noted.1,
      search rules,
      search rules,
    )

pub returns : goal.returns
returns c = sym (c.loop-i.invariant.2 ∙ rest_end _ _ _ (omega (arith, rw c.bundle-bundle.ensures at c.terms-i-end.ensures.0)))
