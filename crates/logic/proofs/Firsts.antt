-- Laws of the first fault of a section, for a loop that counts i up from 1 to n and returns at the first record that is bad.
-- `rest_fault f n i` is the first fault from record i on. A loop's invariant says that the first fault of all is that one.
--     or_else_on, or_else_here     nothing is wrong: the rest says; something is: it is that
--     next_nested                  faults in a row
--     rest_start, rest_on, rest_here, rest_end     a loop's start, a good record, a bad one, no record left
--     none_bad, none_bad_first     nothing is wrong in a section exactly where nothing is wrong with each record
--     next_both, both_next         nothing is wrong in two sections exactly where nothing is wrong in each
use mathlib.Core.Path.{◌≡◌, refl, sym, ap, subst, ◌∙◌}
use mathlib.Core.Logic.{⊎_elim}
use native.Mathlib.Nat.{eq-or-lt_of_le}
use Prim.Native.Nat.{ℕ, zero, suc, ◌+◌, ◌-◌, ◌<◌, ◌≤◌}
use native.Mathlib.Numerals.{add-one}
use native.Mathlib.Omega.{arith}
use Rattle.logic.specs.Tests.{Fault}
use Rattle.logic.specs.Tests.{fault, or_else, or_next, first_from, first_fault}

pub rest_fault : (ℕ → ℕ) → ℕ → ℕ → Fault
rest_fault f n i = first_from f i (n + 1 - i)

pub or_else_on : (m i : ℕ) (rest : Fault) → m ≡ 0 → or_else m i rest ≡ rest
unfolding or_else
or_else_on zero i rest e = refl
or_else_on (suc m) i rest e = absurd (omega arith)

-- a fault, or else a second, or else a third
pub next_nested : (n i : ℕ) (second third : Fault) → or_next (or_else n i second) third ≡ or_else n i (or_next second third)
unfolding or_else
next_nested zero i second third = refl
next_nested (suc n) i second third = refl

pub or_else_here : (m i : ℕ) (rest : Fault) → (m ≡ 0 → ⊥) → or_else m i rest ≡ fault m i
unfolding or_else
or_else_here zero i rest ne = absurd (ne refl)
or_else_here (suc m) i rest ne = refl

module _ (f : ℕ → ℕ) (n : ℕ) where
  pub rest_start : first_fault f n ≡ rest_fault f n 1
  unfolding first_fault rest_fault
  rest_start = let e : n + 1 - 1 ≡ n = omega arith in rw e

  module _ (i : ℕ) where
    one_more : i ≤ n → rest_fault f n i ≡ or_else (f i) i (rest_fault f n (i + 1))
    unfolding rest_fault first_from
    one_more l =
        let e : n + 1 - i ≡ suc (n + 1 - (i + 1)) = omega arith in
        rw (e, add-one i)

    -- the code found m at record i. It is 0: look further
    pub rest_on : {m : ℕ} → m ≡ f i → i ≤ n → m ≡ 0 → rest_fault f n i ≡ rest_fault f n (i + 1)
    rest_on e l z = one_more l ∙ or_else_on (f i) i _ (sym e ∙ z)

    -- it is not 0: record i is bad
    pub rest_here : {m : ℕ} → m ≡ f i → i ≤ n → (m ≡ 0 → ⊥) → rest_fault f n i ≡ fault m i
    rest_here e l ne = rw e (one_more l ∙ or_else_here (f i) i _ (λ z. ne (e ∙ z)))

    -- no record is left
    pub rest_end : n < i → rest_fault f n i ≡ fault 0 0
    unfolding rest_fault first_from
    rest_end l = let e : n + 1 - i ≡ 0 = omega arith in rw e

-- Where no record is bad, each is good.
none_from : (f : ℕ → ℕ) (k left : ℕ) → (first_from f k left).number ≡ 0 → (i : ℕ) → k ≤ i → i < k + left → f i ≡ 0
unfolding first_from or_else
none_from f k zero e i a b = absurd (omega arith)
none_from f k (suc left) e i a b = go (f k) refl e (λ later l. none_from f (suc k) left later i l (omega arith))
  where
    go : (m : ℕ) → f k ≡ m → (or_else m k (first_from f (suc k) left)).number ≡ 0
        → ((first_from f (suc k) left).number ≡ 0 → suc k ≤ i → f i ≡ 0) → f i ≡ 0
    go zero p e rest = ⊎_elim (λ q. subst (λ (j : ℕ). f j ≡ 0) q p) (rest e) (eq-or-lt_of_le a)
    go (suc m) p e rest = absurd (omega arith)

pub none_bad : (f : ℕ → ℕ) (n : ℕ) → (first_fault f n).number ≡ 0 → (i : ℕ) → 1 ≤ i → i ≤ n → f i ≡ 0
unfolding first_fault
none_bad f n e i a b = none_from f 1 n e i a (omega arith)

-- Where each is good, no record is bad.
good_from : (f : ℕ → ℕ) (k left : ℕ) → ((i : ℕ) → k ≤ i → i < k + left → f i ≡ 0) → first_from f k left ≡ fault 0 0
unfolding first_from
good_from f k zero h = refl
good_from f k (suc left) h =
    or_else_on (f k) k (first_from f (suc k) left) (h k (omega arith) (omega arith))
    ∙ good_from f (suc k) left (λ i a b. h i (omega arith) (omega arith))

pub none_bad_first : (f : ℕ → ℕ) (n : ℕ) → ((i : ℕ) → 1 ≤ i → i ≤ n → f i ≡ 0) → first_fault f n ≡ fault 0 0
unfolding first_fault
none_bad_first f n h = good_from f 1 n (λ i a b. h i a (omega arith))

-- two sections
pub next_both : (a rest : Fault) → (or_next a rest).number ≡ 0 → (a.number ≡ 0) × (rest.number ≡ 0)
unfolding or_else
next_both a rest = go a.number
  where
    go : (m : ℕ) → (or_else m a.«record» rest).number ≡ 0 → (m ≡ 0) × (rest.number ≡ 0)
    go zero e = (refl, e)
    go (suc m) e = absurd (omega arith)

pub both_next : (a rest : Fault) → a.number ≡ 0 → rest.number ≡ 0 → (or_next a rest).number ≡ 0
both_next a rest e r = ap (λ (x : Fault). x.number) (or_else_on a.number a.«record» rest e) ∙ r
