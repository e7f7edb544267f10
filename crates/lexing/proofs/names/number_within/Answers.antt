-- `names::number_within` meets its contract. The invariant: the digits so far are read as n, which is not too high.
use native.Mathlib.Omega.{arith}
use mathlib.Core.Path.{sym, ◌∙◌}
use Prim.Native.Nat.{◌+◌}
use Rattle.lexing.proofs.NumeralLaws as N
use Rattle.lexing.proofs.names.number_within.Goals as goal

pub returns-then-run-lt2 : goal.returns-then-run-lt2
returns-then-run-lt2 c = let a = c.args in sym (N.nothing_short a.letter a.low a.high a.run.now c.if-run-lt2.true)

pub returns-then-run-letter : goal.returns-then-run-letter
returns-then-run-letter c = let a = c.args in sym (N.nothing_letter a.letter a.low a.high a.run.now c.if-run-letter.true)

pub returns-then-run-eq48 : goal.returns-then-run-eq48
returns-then-run-eq48 c = let a = c.args in sym (N.nothing_zero a.letter a.low a.high a.run.now c.if-run-eq48.true)

pub loop-digit-init : goal.loop-digit-init
loop-digit-init c =
    let a = c.args in
    N.counting_start a.letter a.low a.high a.run.now c.if-run-lt2.false c.if-run-letter.false
    c.if-run-eq48.false

pub returns-then-c-lt48 : goal.returns-then-c-lt48
returns-then-c-lt48 c =
    let a = c.args in
    sym (N.nothing_below a.letter a.low a.high a.run.now c.loop-digit.n (c.loop-digit.digit-index + 1) c.loop-digit.invariant (omega arith)
    c.from-c.result (c.from-c.ensures ∙ N.later_byte a.run.now c.loop-digit.digit-index (omega arith)) c.if-c-lt48.true)

pub returns-then-c-gt57 : goal.returns-then-c-gt57
returns-then-c-gt57 c =
    let a = c.args in
    sym (N.nothing_above a.letter a.low a.high a.run.now c.loop-digit.n (c.loop-digit.digit-index + 1) c.loop-digit.invariant (omega arith)
    c.from-c.result (c.from-c.ensures ∙ N.later_byte a.run.now c.loop-digit.digit-index (omega arith)) c.if-c-gt57.true)

pub returns-then-n-high : goal.returns-then-n-high
returns-then-n-high c =
    let a = c.args in
    sym (N.nothing_high a.letter a.low a.high a.run.now c.loop-digit.n (c.loop-digit.digit-index + 1) c.loop-digit.invariant (omega arith)
    c.from-c.result (c.from-c.ensures ∙ N.later_byte a.run.now c.loop-digit.digit-index (omega arith)) c.if-c-lt48.false c.if-c-gt57.false c.if-n-high.true)

pub loop-digit-preserved : goal.loop-digit-preserved
loop-digit-preserved c =
    let a = c.args in
    N.counting_on a.letter a.low a.high a.run.now c.loop-digit.n (c.loop-digit.digit-index + 1) c.loop-digit.invariant (omega arith)
    c.from-c.result (c.from-c.ensures ∙ N.later_byte a.run.now c.loop-digit.digit-index (omega arith)) c.if-c-lt48.false c.if-c-gt57.false c.if-n-high.false

pub returns-then-n-low : goal.returns-then-n-low
returns-then-n-low c =
    let a = c.args in
    sym (N.nothing_low a.letter a.low a.high a.run.now c.loop-digit.n (c.loop-digit.digit-index + 1) c.loop-digit.invariant (omega arith) c.if-n-low.true)

pub returns : goal.returns
returns c =
    let a = c.args in
    let is = N.counted a.letter a.low a.high a.run.now c.loop-digit.n (c.loop-digit.digit-index + 1) c.loop-digit.invariant (omega arith) c.if-n-low.false in
    (is, omega (arith, c.requires.1, c.if-n-low.false, is))
