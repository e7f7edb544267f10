-- `header::opened` meets its contract: at each `return` the tests that led there say which test of `header_fault` is the first that fails.
use borrow.Author.Tests.{eq-eqb, ne_eqb, le-leb, lt-leb}
use mathlib.Core.Path.{◌≡◌, sym, ◌∙◌}
use mathlib.Core.Bool.{true, cond}
use mathlib.Core.List.{List}
use Prim.Native.Nat.{ℕ, ◌≤◌}
use lib.ListN.{length}
use lib.Dec.{eqb, leb}
use Rattle.bundle.specs.declared.Counts.{Counts}
use Rattle.bundle.specs.Limits.{bytes_of, within_of}
use Rattle.bundle.specs.File.{counts_of}
use Rattle.logic.specs.Checks.{header_fault}
use Rattle.logic.proofs.Headers.{header_is, bundle_is}
use Rattle.declarations.proofs.header.opened.Goals as goal

-- past the tests of the length, the version and the counts b: what is left to test
past_within : (f : List ℕ) (lent required : ℕ) (b : Counts) → b ≡ counts_of f → 36 ≤ length f → b.version ≡ 1 → within_of b ≡ true
    → header_fault f lent required ≡ cond (eqb (length f) (bytes_of b)) (cond (leb required lent) 0 4) 1
past_within f lent required b e long one within =
    rw (header_is f lent required b e, le-leb _ _ long, eq-eqb _ _ one, within)

pub returns-then-file-lt-LEAST-clause-number : goal.returns-then-file-lt-LEAST-clause-number
unfolding header_fault
returns-then-file-lt-LEAST-clause-number c = rw (lt-leb _ _ c.if-file-lt-LEAST.true)

pub returns-then-b-ne1-clause-number : goal.returns-then-b-ne1-clause-number
returns-then-b-ne1-clause-number c =
    let a = c.args in
    rw (
      header_is a.file.now a.lent a.required _ c.counts-b.ensures,
      le-leb _ _ c.if-file-lt-LEAST.false,
      ne_eqb _ _ c.if-b-ne1.true,
    )

pub returns-then-not-within-clause-number : goal.returns-then-not-within-clause-number
returns-then-not-within-clause-number c =
    let a = c.args in
    rw (
      header_is a.file.now a.lent a.required _ c.counts-b.ensures,
      le-leb _ _ c.if-file-lt-LEAST.false,
      eq-eqb _ _ c.if-b-ne1.false,
      ← c.within.ensures,
      c.if-not-within.true,
    )

pub returns-then-file-bytes-clause-number : goal.returns-then-file-bytes-clause-number
returns-then-file-bytes-clause-number c =
    let a = c.args in
    let h = past_within a.file.now a.lent a.required _ c.counts-b.ensures c.if-file-lt-LEAST.false c.if-b-ne1.false
    (sym c.within.ensures ∙ c.if-not-within.false) in
    rw (h, ← c.bytes.ensures, ne_eqb _ _ c.if-file-bytes.true)

pub returns-then-lent-required-clause-number : goal.returns-then-lent-required-clause-number
returns-then-lent-required-clause-number c =
    let a = c.args in
    let h = past_within a.file.now a.lent a.required _ c.counts-b.ensures c.if-file-lt-LEAST.false c.if-b-ne1.false
    (sym c.within.ensures ∙ c.if-not-within.false) in
    rw (h, ← c.bytes.ensures, eq-eqb _ _ c.if-file-bytes.false, lt-leb _ _ c.if-lent-required.true)

pub returns-clause-number : goal.returns-clause-number
returns-clause-number c =
    let a = c.args in
    let h = past_within a.file.now a.lent a.required _ c.counts-b.ensures c.if-file-lt-LEAST.false c.if-b-ne1.false
    (sym c.within.ensures ∙ c.if-not-within.false) in
    rw (h, ← c.bytes.ensures, eq-eqb _ _ c.if-file-bytes.false, le-leb _ _ c.if-lent-required.false)

pub returns-clause-bundle : goal.returns-clause-bundle
returns-clause-bundle c = c.of.ensures ∙ bundle_is _ c.counts-b.ensures
