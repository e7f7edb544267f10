-- The cycle of calls {read_formula, read_let, read_parts, read_quantified}. Each answer cites a law of FormulaTurns or PartTurns.
use native.Mathlib.Omega.{arith}
use mathlib.Core.Path.{◌≡◌, refl, ap}
use Prim.Native.Nat.{suc, ◌-◌, ◌≤◌, ◌<◌}
use lib.ListN.{length}
use Rattle.bundle.specs.Limits.{limits}
use Rattle.logic.specs.Named.{binder_in}
use Rattle.lexing.specs.Lexes.{Tail}
use Rattle.lexing.specs.Words.{word_in}
use Rattle.lexing.proofs.Tails.{tail_after}
use Rattle.heads.specs.Places.{head_in}
use Rattle.placing.proofs.Pairs.{Pair, below_same}
use Rattle.endings.specs.declared.ReadTerm.{ReadTerm}
use Rattle.endings.specs.declared.ReadParts.{ReadParts}
use Rattle.formulas.proofs.FormulaTurns as F
use Rattle.formulas.proofs.PartTurns as P
use Rattle.formulas.proofs.reading_terms.+read_formula_read_let_read_parts_read_quantified.Goals as goal

-- ---- a formula

pub read_formula-returns-then-left-eq0 : goal.read_formula-returns-then-left-eq0
read_formula-returns-then-left-eq0 t c = (F.none_leaves (below_same _ _), F.deep_reads _ _ c.if-left-eq0.true)

pub read_formula-returns-in-Alone : goal.read_formula-returns-in-Alone
read_formula-returns-in-Alone t c =
    let h = c.in_ok-found.ensures in
    let g = c.place_word.ensures in
    (F.placed_leaves (below_same _ _) g.0 g.1 h.tail h.fewer, F.word_reads h c.args.bundle.now (word_in c.in-Alone.word) (ap head_in c.in-Alone.is) g.0)

pub read_formula-returns-in_err-parts-in-Application : goal.read_formula-returns-in_err-parts-in-Application
read_formula-returns-in_err-parts-in-Application t c =
    let h = c.in_ok-found.ensures in
    let D = c.args.bundle.now in
    let w = word_in c.in-Application.word in
    let n : c.args.left ≡ suc (c.args.left - 1) = omega (arith, c.if-left-eq0.false) in
    let p = c.read_parts.ensures in
    rw c.from_residual-in_err-parts-in-Application.ensures (
      F.none_leaves p.0.kept,
      F.application_reads h D w (F.applied_none h D w c.in_err-parts-in-Application.was) n (ap head_in c.in-Application.is) p.1,
    )

pub read_formula-returns-in_ok-parts-in-Application : goal.read_formula-returns-in_ok-parts-in-Application
read_formula-returns-in_ok-parts-in-Application t c =
    let h = c.in_ok-found.ensures in
    let D = c.args.bundle.now in
    let w = word_in c.in-Application.word in
    let n : c.args.left ≡ suc (c.args.left - 1) = omega (arith, c.if-left-eq0.false) in
    let p = c.read_parts.ensures in
    let d = c.in_ok-parts-in-Application.was in
    let g = c.apply_parts.ensures in
    let z = F.at_some (λ (x : ReadParts). length x.rest.now ≤ length c.in_ok-found.found.rest.now) d p.0.fewer in
    let u = F.at_some (λ (x : ReadParts). Tail c.in_ok-found.found.rest.now x.rest.now) d p.0.tail in (
      F.placed_leaves p.0.kept g.0 g.1 (tail_after h.tail u) (omega (arith, h.fewer, z)),
      F.application_reads h D w (F.applied h D w d g.0) n (ap head_in c.in-Application.is) p.1,
    )

pub read_formula-returns-in-Quantifier : goal.read_formula-returns-in-Quantifier
read_formula-returns-in-Quantifier t c =
    let h = c.in_ok-found.ensures in
    let p = c.read_quantified.ensures in (
      F.later_leaves h.tail (omega (arith, h.fewer)) p.0,
      F.quantifier_reads h c.args.bundle.now (binder_in c.in-Quantifier.q) (ap head_in c.in-Quantifier.is) p.1,
    )

pub read_formula-returns-in-Let : goal.read_formula-returns-in-Let
read_formula-returns-in-Let t c =
    let h = c.in_ok-found.ensures in
    let n : c.args.left ≡ suc (c.args.left - 1) = omega (arith, c.if-left-eq0.false) in
    let p = c.read_let.ensures in
    (F.later_leaves h.tail (omega (arith, h.fewer)) p.0, F.let_reads h c.args.bundle.now n (ap head_in c.in-Let.is) p.1)

-- ---- a let

pub read_let-returns-in_err-parts : goal.read_let-returns-in_err-parts
read_let-returns-in_err-parts t c =
    let p = c.read_parts.ensures in
    rw c.from_residual.ensures (P.let_none c.args.bundle.now p.0 p.1 c.in_err-parts.was)

pub read_let-returns-in_err-body : goal.read_let-returns-in_err-body
read_let-returns-in_err-body t c =
    let p = c.read_parts.ensures in
    let g = c.read_formula.ensures in
    rw c.from_residual-in_err-body.ensures (P.body_none c.args.bundle.now p.0 p.1 c.in_ok-parts.was c.requires.places g.0 g.1 c.in_err-body.was)

pub read_let-returns : goal.read_let-returns
read_let-returns t c =
    let p = c.read_parts.ensures in
    let g = c.read_formula.ensures in
    let x = c.let_term.ensures in
    P.let_gives c.args.bundle.now p.0 p.1 c.in_ok-parts.was c.requires.places g.0 g.1 c.in_ok-body.was c.closed.result c.closed.ensures x.1 x.0

-- ---- parts

pub read_parts-returns-then-top-ge-LINKS : goal.read_parts-returns-then-top-ge-LINKS
read_parts-returns-then-top-ge-LINKS t c =
    let a = c.args in
    let l = c.loop-part in
    let v = l.invariant in
    let g = v.on _ _ _ (P.no_more_places a.bundle.now a.left a.bound v.asks v.at l.first c.in-Some.is c.if-top-ge-LINKS.true) in
    (g.leaves, g.reads)

pub read_parts-returns-in_err-read : goal.read_parts-returns-in_err-read
read_parts-returns-in_err-read t c =
    let a = c.args in
    let l = c.loop-part in
    let v = l.invariant in
    let p = c.read_formula.ensures in
    let g = v.on _ _ _ (P.part_none a.bundle.now a.left a.bound v.asks v.at l.first c.in-Some.is p.0 p.1 c.in_err-read.was) in
    rw c.from_residual.ensures (g.leaves, g.reads)

pub read_parts-loop-part-preserved : goal.read_parts-loop-part-preserved
read_parts-loop-part-preserved t c =
    let a = c.args in
    let l = c.loop-part in
    let v = l.invariant in
    let on = c.in-Some.is in
    let room : l.top < limits.links = omega (arith, c.if-top-ge-LINKS.false) in
    let p = c.read_formula.ensures in
    let d = c.in_ok-read.was in
    let pair : Pair c.pack.result c.in_ok-read.read.term c.in-Some.variable = record { upper = c.pack.ensures.0; lower = c.pack.ensures.1 } in
    let z = c.part_end.ensures in
    let later : length c.part_end.result.now < length l.part.rest.now =
    P.part_later a.bundle.now a.left a.bound v.asks v.at l.first on p.0 p.1 d room pair z in
    record {
      here = c.part_end.result.now;
      from = omega (arith, v.from, v.at.item.fewer, later);
      asks = P.part_asks a.bundle.now a.left a.bound v.asks v.at l.first on p.0 p.1 d room pair z;
      at = rw c.variables-variables.ensures.0 at c.part_at-part-in-Some.ensures;
      on = λ b' st' r g. v.on b' st' r (P.part_more a.bundle.now a.left a.bound v.asks v.at l.first on p.0 p.1 d room pair z c.unwrap_or.ensures g);
    }

pub read_parts-returns : goal.read_parts-returns
read_parts-returns t c =
    let a = c.args in
    let l = c.loop-part in
    let v = l.invariant in
    let g = v.on _ _ _ (P.parts_end a.bundle.now a.left a.bound v.asks v.at l.first c.in_default.is refl c.unwrap_or-2.ensures refl) in
    (g.leaves, g.reads)

-- ---- the variables of a quantifier

pub read_quantified-returns-in_err-body : goal.read_quantified-returns-in_err-body
read_quantified-returns-in_err-body t c =
    let v = rw c.variables.ensures.0 at c.variable_at-item.ensures in
    let p = c.read_formula.ensures in
    rw c.from_residual.ensures (
      F.none_leaves p.0.kept,
      F.last_quantified c.args.bundle.now v (binder_in c.args.q) (λ τ s rest o. F.closed_none c.in_err-body.was o) c.in_default.is p.1,
    )

pub read_quantified-returns-in_default : goal.read_quantified-returns-in_default
read_quantified-returns-in_default t c =
    let v = rw c.variables.ensures.0 at c.variable_at-item.ensures in
    let p = c.read_formula.ensures in
    let d = c.in_ok-body.was in
    let k = c.closed.ensures in (
      F.closed_leaves v.item.tail v.item.fewer p.0 d k,
      F.last_quantified c.args.bundle.now v (binder_in c.args.q) (λ τ s rest o. F.closed_outcome d k o) c.in_default.is p.1,
    )

pub read_quantified-returns-then-left-eq0 : goal.read_quantified-returns-then-left-eq0
read_quantified-returns-then-left-eq0 t c =
    let v = rw c.variables.ensures.0 at c.variable_at-item.ensures in
    (F.none_leaves (below_same _ _), F.no_quantified c.args.bundle.now v (binder_in c.args.q) c.in-Some.is c.if-left-eq0.true)

pub read_quantified-returns-in_err-body-2 : goal.read_quantified-returns-in_err-body-2
read_quantified-returns-in_err-body-2 t c =
    let D = c.args.bundle.now in
    let q = binder_in c.args.q in
    let v = rw c.variables.ensures.0 at c.variable_at-item.ensures in
    let is = c.in-Some.is in
    let n : c.args.left ≡ suc (c.args.left - 1) = omega (arith, c.if-left-eq0.false) in
    let p = c.read_quantified.ensures in
    rw c.from_residual-in_err-body-2.ensures
    (F.none_leaves p.0.kept, F.next_quantified D v q is (F.bound_none D v q is c.in_err-body-2.was) n p.1)

pub read_quantified-returns : goal.read_quantified-returns
read_quantified-returns t c =
    let D = c.args.bundle.now in
    let q = binder_in c.args.q in
    let v = rw c.variables.ensures.0 at c.variable_at-item.ensures in
    let is = c.in-Some.is in
    let n : c.args.left ≡ suc (c.args.left - 1) = omega (arith, c.if-left-eq0.false) in
    let p = c.read_quantified.ensures in
    let d = c.in_ok-body-2.was in
    let g = c.bind_term.ensures in
    let left = c.variable_at-item.result.rest.now in
    let x = F.at_some (λ (y : ReadTerm). length y.rest.now < length left) d p.0.fewer in
    let l = F.at_some (λ _. length left < length c.args.text.now) is v.further in
    let u = tail_after v.item.tail (F.at_some (λ (y : ReadTerm). Tail left y.rest.now) d p.0.tail) in
    (F.placed_leaves p.0.kept g.0 g.1 u (omega (arith, l, x)), F.next_quantified D v q is (F.bound D v q is d g.0) n p.1)
