-- The formula of a whole text.
--     text_reads              from what reading its formula gives
--     too_large_never_fits    THE THEOREM: what is too large does not fit
use Prim.Native.Nat.{ℕ}
use native.Mathlib.Omega.{arith}
use mathlib.Core.Path.{◌≡◌, subst}
use mathlib.Core.List.{List, []}
use Rattle.std.specs.Prelude.{Option}
use Rattle.bundle.specs.File.{own_counts}
use Rattle.bundle.specs.Bundle.{Bundle}
use Rattle.bundle.specs.Limits.{limits, Within}
use Rattle.grammar.specs.Grammar.{spelling, lexemes}
use Rattle.reading.specs.Local.{head_sort, plain}
use Rattle.reading.proofs.Jobs.{not_deep}
use Rattle.endings.specs.declared.ReadTerm.{ReadTerm}
use Rattle.formulas.specs.ReadGives.{TooLarge, ReadOutcome, TextOutcome, Leaves, Reads, ReadsText, TooLargeNeverFits}
use Rattle.formulas.proofs.Weights.{pending_never_fits}

pub text_reads : (D : Bundle) {text st : List ℕ} {b b' : Bundle} {n : ℕ} {st' : List ℕ} {r : Option ReadTerm} → n ≡ limits.terms → Within (own_counts b')
    → Leaves text st 0 st' r → Reads D text b 0 n b' r → ReadsText D text b b' r
unfolding spelling lexemes
text_reads D {text} {st} {b} {b'} {n} {st'} {r} en within left gave = (λ φ reads. go φ (gave φ [] reads), left.word)
  where
    go : (φ : _) → ReadOutcome (plain D φ) (head_sort D φ) [] b 0 n b' r → TextOutcome D φ b b' r
    go φ (ReadOutcome.done x is d) = TextOutcome.done (subst (λ (y : Bundle). Within (own_counts y)) d.bundle within) x is d
    go φ (ReadOutcome.full o d) = TextOutcome.full (subst (λ (m : ℕ). TooLarge (plain D φ) b 0 m) en o) d

pub too_large_never_fits : TooLargeNeverFits
too_large_never_fits f text φ d r (TooLarge.records o) fit = o fit
too_large_never_fits f text φ d r (TooLarge.waiting l) fit = pending_never_fits f text φ d r (omega (arith, l)) fit
too_large_never_fits f text φ d r (TooLarge.deep l) fit = omega (arith, l, not_deep f text φ d r fit)
