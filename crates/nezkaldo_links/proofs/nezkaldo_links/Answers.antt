-- `nezkaldo_links` meets its contract: past the header's tests the bundle is the file's, and the walk of a CONG reads few links.
use borrow.Author.Tests.{ne_eqb}
use native.Mathlib.Omega.{arith}
use mathlib.Core.Path.{◌≡◌, ap, sym, fun_ext, ◌∙◌}
use mathlib.Core.Bool.{cond}
use mathlib.Core.List.{List}
use Prim.Native.Nat.{ℕ, ◌*◌, ◌≤◌, ◌<◌}
use lib.ListN.{length}
use lib.Dec.{eqb}
use Rattle.logic.proofs.CheckNumbers.{number_some}
use Rattle.bundle.specs.Limits.{limits}
use Rattle.bundle.specs.Bundle.{Bundle, Step, step_of}
use Rattle.bundle.specs.File.{bundle_of, counts_of}
use Rattle.bundle.specs.RecordWords.{as_step}
use Rattle.logic.specs.declared.Walk.{Walk}
use Rattle.logic.specs.Checks.{header_fault}
use Rattle.logic.specs.Rules.{cong_walk_by, cong_walk}
use Rattle.logic.proofs.Headers.{header_exactly}
use Rattle.images.specs.LentReading.{step_in}
use Rattle.images.proofs.ReadingRight.{step_right}
use Rattle.nezkaldo_links.specs.Links.{walk_number, step_number, links_number}
use Rattle.nezkaldo_links.proofs.Links.{links_short, few_links}
use Rattle.nezkaldo_links.proofs.nezkaldo_links.Goals as goal

refused : (f : List ℕ) (k : ℕ) {n : ℕ} → n ≡ header_fault f 0 0 → (n ≡ 0 → ⊥) → 4294967296 * n ≡ links_number f k
unfolding links_number
refused f k {n} e ne = rw (← e, ne_eqb n 0 ne)

-- past the header's tests
module _ (f : List ℕ) (b : Bundle) (none : 0 ≡ header_fault f 0 0) (p : b ≡ bundle_of f) where
  few : length b.links ≤ limits.links
  unfolding bundle_of
  few = rw p (few_links f (counts_of f) ((header_exactly f 0 0).0 (sym none)).0.whole)

  counted : (k : ℕ) → links_number f k ≡ step_number b (step_of b k)
  unfolding links_number
  counted k = rw (← none) (ap (λ (x : Bundle). step_number x (step_of x k)) (sym p))

-- of a step s, as the code has it
module _ (b : Bundle) (s s' : Step) (same : s ≡ s') where
  no_cong : (s.rule ≡ 2 → ⊥) → step_number b s' ≡ 4294967296 * 12
  unfolding step_number
  no_cong ne = rw (← same, ne_eqb s.rule 2 ne)

  cong_number : (w : Walk) → s.rule ≡ 2 → w ≡ cong_walk b s → step_number b s' ≡ walk_number w
  unfolding step_number
  cong_number w e d =
      ap (step_number b) (sym same) ∙ (λ i. cond (eqb (e i) 2) (walk_number (cong_walk b s)) (4294967296 * 12)) ∙ ap walk_number (sym d)

-- a bed that is shorter than a step has none
plain : (b : Bundle) (bed : List ℕ) (s : Step) → length bed < 5 → cong_walk_by (step_in b bed) b s ≡ cong_walk b s
unfolding cong_walk
plain b bed s short = ap (λ (step : ℕ → Step). cong_walk_by step b s) (fun_ext (step_right b bed short))

pub returns-in-Err : goal.returns-in-Err
returns-in-Err c =
    c.told.ensures ∙ refused c.args.file.now c.args.step c.in-Err.ensures.number (number_some c.in-Err.check)

pub returns-then-s-number : goal.returns-then-s-number
returns-then-s-number c =
    let a = c.args in
    let b = c.in-Ok.bundle in
    let s = c.step_words-s in
    c.told-then-s-number.ensures
    ∙ sym (counted a.file.now b c.in-Ok.ensures.number c.in-Ok.ensures.bundle a.step
    ∙ no_cong b (as_step s.result) (step_of b a.step) s.ensures (λ e. c.if-s-number.true (e ∙ sym c.number.ensures)))

pub walk_number-requires : goal.walk_number-requires
walk_number-requires c =
    let b = c.in-Ok.bundle in
    let s = as_step c.step_words-s.result in
    let walked = rw c.of.ensures at c.step_walk-walked.ensures.value in
    omega (
      arith,
      ap (λ (x : Walk). x.links) (walked (c.if-s-number.false ∙ c.number.ensures) ∙ plain b _ s (omega arith)),
      links_short b s (few c.args.file.now b c.in-Ok.ensures.number c.in-Ok.ensures.bundle),
    )

pub returns : goal.returns
returns c =
    let a = c.args in
    let b = c.in-Ok.bundle in
    let s = c.step_words-s in
    let cong = c.if-s-number.false ∙ c.number.ensures in
    let walked = rw c.of.ensures at c.step_walk-walked.ensures.value in
    c.walk_number.ensures
    ∙ sym (counted a.file.now b c.in-Ok.ensures.number c.in-Ok.ensures.bundle a.step
    ∙ cong_number b (as_step s.result) (step_of b a.step) s.ensures c.step_walk-walked.result cong
    (walked cong ∙ plain b _ (as_step s.result) (omega arith)))
