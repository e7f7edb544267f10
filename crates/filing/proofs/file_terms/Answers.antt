-- `file_terms` meets its contract.
use native.Mathlib.Omega.{arith}
use Prim.Native.Nat.{ℕ, suc, ◌+◌, ◌-◌}
use mathlib.Core.Path.{◌≡◌, ◌∙◌, sym, ap, subst}
use mathlib.Core.List.{List}
use lib.ListN.{length}
use Rattle.bundle.specs.declared.Counts.{Counts}
use Rattle.bundle.specs.Bundle.{Bundle}
use Rattle.bundle.specs.File.{own_counts}
use Rattle.filing.specs.Filing.{FiledTo}
use Rattle.filing.proofs.FiledTerms.{formed_digested, filed_none, filed_on}
use Rattle.filing.proofs.file_terms.Goals as goal

-- as many terms as counted
counted : (b : Bundle) {k : Counts} → k ≡ own_counts b → k.terms ≡ length b.terms
counted b e = ap (λ (k : Counts). k.terms) e

pub loop-t-init : goal.loop-t-init
loop-t-init c =
    let b = c.args.scratch.now in
    subst (λ (ix : List ℕ). FiledTo b ix 0) (sym c.requires.1) (filed_none b)

pub loop-t-preserved : goal.loop-t-preserved
loop-t-preserved c =
    let b = c.args.scratch.now in
    let l = c.loop-t in
    let d = c.digest in
    let n : l.t ≡ suc (l.t - 1) = omega arith in
    let k = c.counts-t-end.ensures in
    subst (λ (ix : List ℕ). FiledTo b ix (l.t + 1 - 1)) (sym c.file_term.ensures)
    (filed_on b l.index (l.t - 1) d.result l.invariant l.t (l.t + 1 - 1) n (omega arith)
    (λ B longer. formed_digested c.requires.0 B longer l.t (omega (arith, counted b k.0)) ∙ sym d.ensures)
    (omega (arith, counted b k.0, k.1.terms)))

pub returns : goal.returns
returns c =
    let b = c.args.scratch.now in
    let l = c.loop-t in
    let e : l.t - 1 ≡ length b.terms = omega (arith, counted b c.counts-t-end.ensures.0) in
    subst (FiledTo b l.index) e l.invariant
