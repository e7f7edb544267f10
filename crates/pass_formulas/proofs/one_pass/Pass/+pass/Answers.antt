-- Each answer cites a law of PassTurns; here its arguments are only fetched from `c`. After a call the declarations are what they were (`same`).
use native.Mathlib.Omega.{arith}
use mathlib.Core.Path.{refl, sym, ap, ◌∙◌}
use mathlib.Core.List.{List, ◌∷◌}
use Rattle.std.proofs.lemmas.Option.{IfSome_then}
use Rattle.logic.specs.Named.{binder_in}
use Rattle.grammar.specs.Grammar.{Lexeme, opens}
use Rattle.pass_formulas.proofs.PassTurns as P
use Rattle.pass_formulas.proofs.one_pass.Pass.+pass.Goals as goal

pub applied-loop-self-init : goal.applied-loop-self-init
applied-loop-self-init t c =
    (refl, P.applying_first c.args.self.now.bundle.now c.args.filed.now c.height-height.ensures c.skip_blanks.ensures)

pub applied-loop-self-preserved : goal.applied-loop-self-preserved
applied-loop-self-preserved t c =
    let (k, v) = c.loop-self.invariant in (
      c.formula.ensures.same ∙ k,
      P.applying_on c.args.self.now.bundle.now v (rw k at c.in_ok-formula.ensures.gives) c.skip_blanks-in-loop-self.ensures,
    )

pub applied-returns-clause-gives : goal.applied-returns-clause-gives
applied-returns-clause-gives t c = λ w is.
    let (k, v) = c.loop-self.invariant in
    IfSome_then c.apply.result c.apply.ensures
    (λ u p. P.applied_gives c.args.self.now.bundle.now c.args.symbol c.equal_on.result c.equal_on.ensures v
    (sym c.first.ensures ∙ c.loop-self-test.false) c.skip.ensures c.above-arguments.ensures c.if-arguments-eq0.false c.half-first.ensures.0
    (omega (arith, c.if-first-gt1.false)) (rw k at p) w is)

pub bound-returns-clause-gives : goal.bound-returns-clause-gives
bound-returns-clause-gives t c =
    IfSome_then c.name_pair.result c.name_pair.ensures
    (λ u n. P.bound_gives c.args.self.now.bundle.now c.in_ok-x.ensures c.above.ensures (sym c.is_new.ensures ∙ c.if-not-is_new.false)
    c.in_ok-formula.ensures.gives (rw c.formula.ensures.same at n))

pub bracketed-returns-in-Symbol-clause-gives : goal.bracketed-returns-in-Symbol-clause-gives
bracketed-returns-in-Symbol-clause-gives t c =
    let D = c.args.self.now.bundle.now in
    let h = c.in_ok-f.ensures in
    let v = P.heads_as D h c.in-Symbol.is in
    IfSome_then c.applied.result (c.applied.ensures.gives v.1.0 v.1.2)
    (λ u g. P.gives_from D h.tail (ap (λ (l : List Lexeme). opens ∷ l) (sym v.1.1)) g)

pub bracketed-returns-in-Binder-clause-gives : goal.bracketed-returns-in-Binder-clause-gives
bracketed-returns-in-Binder-clause-gives t c =
    let D = c.args.self.now.bundle.now in
    let h = c.in_ok-f.ensures in
    let v = P.heads_as D h c.in-Binder.is in
    IfSome_then c.quantified.result c.quantified.ensures.gives (λ u g. P.quantifier_gives D h.tail v.1 v.2 g)

pub formula-returns-then-first-eq40-clause-gives : goal.formula-returns-then-first-eq40-clause-gives
formula-returns-then-first-eq40-clause-gives t c =
    IfSome_then c.bracketed.result c.bracketed.ensures.gives
    (λ u g. P.bracket_gives c.args.self.now.bundle.now (sym c.first.ensures ∙ c.if-first-eq40.true) c.skip.ensures g)

pub formula-returns-clause-gives : goal.formula-returns-clause-gives
formula-returns-clause-gives t c =
    IfSome_then c.place_alone.result c.place_alone.ensures (λ u p. P.alone_gives c.args.self.now.bundle.now c.in_ok-meaning.ensures p)

pub local-loop-self-init : goal.local-loop-self-init
local-loop-self-init t c =
    (refl, P.letting_first c.args.self.now.bundle.now c.args.filed.now c.height-height.ensures c.skip_blanks.ensures)

pub local-loop-self-preserved : goal.local-loop-self-preserved
local-loop-self-preserved t c =
    let (k, v) = c.loop-self.invariant in (
      c.bound.ensures.same ∙ k,
      P.letting_on c.args.self.now.bundle.now v (rw k at c.in_ok-bound.ensures.gives) c.skip_blanks-in-loop-self.ensures,
    )

pub local-returns-clause-gives : goal.local-returns-clause-gives
local-returns-clause-gives t c = λ ls starts.
    let (k, v) = c.loop-self.invariant in
    IfSome_then c.place_named.result c.place_named.ensures
    (λ u p. P.let_gives c.args.self.now.bundle.now v (sym c.first.ensures ∙ c.loop-self-test.false) c.skip.ensures c.skip_blanks-2.ensures
    (rw k at c.in_ok-formula.ensures.gives) p ls starts)

pub quantified-returns-then-first-eq41-clause-gives : goal.quantified-returns-then-first-eq41-clause-gives
quantified-returns-then-first-eq41-clause-gives t c =
    IfSome_then c.closed_truth.result c.closed_truth.ensures
    (λ u z. P.last_under c.args.self.now.bundle.now (binder_in c.args.q) c.skip_blanks.ensures (sym c.first.ensures ∙ c.if-first-eq41.true)
    c.skip.ensures c.skip_blanks-then-first-eq41.ensures c.in_ok-formula.ensures.gives z)

pub quantified-returns-clause-gives : goal.quantified-returns-clause-gives
quantified-returns-clause-gives t c =
    IfSome_then c.place_bound.result c.place_bound.ensures
    (λ u p. P.next_under c.args.self.now.bundle.now c.args.q c.skip_blanks.ensures c.in_ok-x.ensures c.in_ok-quantified.ensures.gives p)
