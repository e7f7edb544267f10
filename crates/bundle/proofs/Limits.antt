-- The test of the counts says that each is within its limit; sections by their number.
--     within_all, within_true    `within_of` as a test, and `Within` as facts
--     within_words               the words of counts within the limits
--     header_ends, section_ends  where sections stand: after the header, and before a later one
--     extent_within              a section is no longer than its limit
--     section_fits               so it fits in the file and in the scratch
use Prim.Native.Nat.{ℕ, zero, suc, ◌+◌, ◌<◌, ◌≤◌}
use mathlib.Core.Path.{◌≡◌}
use mathlib.Core.Logic.{⊎_elim}
use mathlib.Core.Bool.{true}
use native.Mathlib.Nat.{le_refl, not-suc-le-zero, le_of_suc-le-suc, eq-or-lt_of_le}
use native.Mathlib.Omega.{arith}
use borrow.Author.Tests.{leb-true, le-leb}
use Rattle.std.proofs.lemmas.Bool.{and_parts}
use Rattle.bundle.specs.declared.Counts.{Counts}
use Rattle.bundle.specs.Limits.{limits, header_words, symbols_at, words_of, sections, extent_of, place_of, Within, within_of}

pub within_all : (c : Counts) → within_of c ≡ true → Within c
within_all c e =
    let s = and_parts _ _ e in
    let x = and_parts _ _ s.0 in
    let l = and_parts _ _ x.0 in
    let t = and_parts _ _ l.0 in
    let v = and_parts _ _ t.0 in
    record {
      symbols = leb-true _ _ v.0;
      variables = leb-true _ _ v.1;
      terms = leb-true _ _ t.1;
      links = leb-true _ _ l.1;
      contexts = leb-true _ _ x.1;
      steps = leb-true _ _ s.1;
    }

pub within_true : (c : Counts) → Within c → within_of c ≡ true
within_true c w =
    rw (le-leb _ _ w.symbols, le-leb _ _ w.variables, le-leb _ _ w.terms, le-leb _ _ w.links, le-leb _ _ w.contexts, le-leb _ _ w.steps)

pub within_words : (c : Counts) → Within c → words_of c ≤ words_of limits
unfolding header_words
within_words c h = omega arith

-- ---- sections by their number

-- a section stands after the header, and ends before a later one starts; `place_of c sections` is `words_of c`
pub header_ends : (c : Counts) (s : ℕ) → symbols_at c ≤ place_of c s
unfolding place_of
header_ends c zero = le_refl _
header_ends c (suc s) = omega (arith, header_ends c s)

pub section_ends : (c : Counts) (r s : ℕ) → r < s → place_of c r + extent_of c r ≤ place_of c s
unfolding place_of
section_ends c r zero h = absurd (not-suc-le-zero h)
section_ends c r (suc s) h = ⊎_elim (λ e. rw e (le_refl _)) (λ l. omega (arith, section_ends c r s l)) (eq-or-lt_of_le (le_of_suc-le-suc h))

pub extent_within : (c : Counts) → Within c → (s : ℕ) → extent_of c s ≤ extent_of limits s
extent_within c h zero = omega arith
extent_within c h (suc zero) = omega arith
extent_within c h (suc (suc zero)) = omega arith
extent_within c h (suc (suc (suc zero))) = omega arith
extent_within c h (suc (suc (suc (suc zero)))) = omega arith
extent_within c h (suc (suc (suc (suc (suc zero))))) = omega arith
extent_within c h (suc (suc (suc (suc (suc (suc s)))))) = omega arith

-- a section of a file within the limits ends within the file, and at its place in the scratch within what the limits ask for
pub section_fits : (c : Counts) → Within c → (s : ℕ) → s < sections
    → (place_of c s + extent_of c s ≤ words_of c) × (place_of limits s + extent_of c s ≤ place_of limits s + extent_of limits s)
    × (place_of limits s + extent_of limits s ≤ words_of limits)
unfolding place_of
section_fits c h s l = (section_ends c s sections l, omega (arith, extent_within c h s), section_ends limits s sections l)
