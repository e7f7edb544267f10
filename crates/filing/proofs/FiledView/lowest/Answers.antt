-- `FiledView::lowest` meets its contract.
use native.Mathlib.Omega.{arith}
use mathlib.Core.Path.{◌≡◌, refl, ap, ◌∙◌}
use lib.ListN.{length}
use Rattle.bundle.specs.declared.Counts.{Counts}
use Rattle.bundle.specs.Bundle.{Bundle, term_of}
use Prim.Native.Nat.{◌<◌}
use Rattle.bundle.specs.Filed.{digests}
use Rattle.bundle.proofs.Filed.{sought_start, sought_less, sought_hit, sought_miss}
use Rattle.filing.specs.Filing.{found}
use Rattle.filing.proofs.FiledTerms.{held_own, found_some, sought_end}
use Rattle.filing.proofs.FiledView.lowest.Goals as goal
use Rattle.filing.proofs.FiledView.lowest.Goals.{then-same, else-same}

pub loop-t-init : goal.loop-t-init
loop-t-init g c =
    let a = c.args in
    let filed = held_own c.self.view_is c.self.invariant in
    let small : a.d < digests = omega (arith, c.place.ensures) in (
      omega (arith, filed.low a.d small, rw c.place.ensures.0 at c.from-t.ensures, ap (λ (k : Counts). k.terms) c.counts.ensures.0, c.counts.ensures.1.terms, ap (λ (b : Bundle). length b.terms) c.self.view_is),
      λ p same own. (0, refl, sought_start filed (λ j. p (term_of a.self.now j)) a.d small (λ j t. own (term_of a.self.now j) t) (rw c.place.ensures.0 at c.from-t.ensures)),
    )

pub loop-t-smaller : goal.loop-t-smaller
loop-t-smaller g c =
    let filed = held_own c.self.view_is c.self.invariant in
    sought_less filed c.loop-t-test.true c.from-t-in-loop-t.ensures

pub loop-t-preserved : goal.loop-t-preserved
loop-t-preserved g c =
    let a = c.args in
    let filed = held_own c.self.view_is c.self.invariant in
    let l = c.loop-t in
    let some = c.loop-t-test.true in
    let e = c.from-t-in-loop-t.ensures in (
      omega (arith, l.invariant.0, sought_less filed some e),
      λ p same own.
          let k = l.invariant.1 p same own in
          let test : c.same.result ≡ p (term_of a.self.now l.t) = same l.t c.same.result l.invariant.0 c.same.ensures in
          elim c.if-same.branch [
            | then-same w ↦ (l.t, w.lowest-is ∙ found_some l.t some, sought_hit filed k.2 some e test w.if-same.true refl)
            | else-same w ↦ (k.0, w.lowest-is ∙ k.1, sought_miss filed k.2 some e test w.if-same.false refl)
          ],
    )

pub returns : goal.returns
returns g c p same own =
    let k = c.loop-t.invariant.1 p same own in
    k.1 ∙ ap found (sought_end c.args.self.now p c.self.inside.index.now k.2 c.loop-t-test.false)
