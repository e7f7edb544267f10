-- Laws of tests: how they are put together and taken apart.
--     and_left, and_right, not_in     of truth values
--     numbers_of_lem, numbers_in                 a number 1 to n, as a test and as two facts
--     passed_each, tested, all_passed        all tests of a list passed: each did (test i too), and the other way round
--     passed_same                            lists that are the same wherever one passes pass together
--     up_to_lem, up_to_all, up_to_more           the same of the numbers 1 to n; and where there are more of them, which pass
--     failing_none, none_failing             no test fails: each holds, and the other way round
--     same_list_lem, list_same                   lists that are the same, item by item, are equal
--     each_has, has_each                     a test of every item, by member
use mathlib.Core.Path.{◌≡◌, refl, sym, ap, ◌∙◌}
use Prim.Native.Nat.{ℕ, zero, suc, ◌≤◌, ◌<◌}
use mathlib.Core.Bool.{Bool, true, false, cond, not, ◌&&◌, false≢true}
use mathlib.Core.Logic.{◌⊎◌, inl, inr}
use mathlib.Core.List.{List, [], ◌∷◌}
use native.Mathlib.Omega.{arith}
use native.Mathlib.Decide.{ℕ_discrete, dec_le}
use lib.Dec.{eqb, ltb, leb}
use lib.ListN.{get_or}
use borrow.Author.Tests.{eqb-true, eq-eqb, ltb-true, leb-true, lt-ltb, le-leb}
use Rattle.std.proofs.lemmas.Bool.{or_cases, and_from, or_left, or_right}
use Rattle.std.specs.Cmp.{both_ways}
use Rattle.bundle.specs.Lists.{same_list, numbers, each, has}
use Rattle.logic.specs.Tests.{passed_from, passed, up_to, Test, first_failing}

-- ---- truth values

pub and_left : (p q : Bool) → (p && q) ≡ true → p ≡ true
and_left true q e = refl
and_left false q e = e

pub and_right : (p q : Bool) → (p && q) ≡ true → q ≡ true
and_right true q e = e
and_right false q e = absurd (false≢true e)

-- a test that fails, and holds
pub not_in {ℓ} : {A : Type ℓ} (p : Bool) → not p ≡ true → p ≡ true → A
not_in true n e = absurd (false≢true n)
not_in false n e = absurd (false≢true e)

-- ---- a record's number

pub numbers_of_lem : (n x : ℕ) → numbers n x ≡ true → (1 ≤ x) × (x ≤ n)
numbers_of_lem n x e = (ltb-true 0 x (and_left (ltb 0 x) (leb x n) e), leb-true x n (and_right (ltb 0 x) (leb x n) e))

pub numbers_in : (n x : ℕ) → 1 ≤ x → x ≤ n → numbers n x ≡ true
numbers_in n x a b = and_from (ltb 0 x) (leb x n) (lt-ltb 0 x a) (le-leb x n b)

-- ---- all tests of a list

from_first : (p : Bool) (ts : List Bool) → passed_from p ts ≡ true → p ≡ true
unfolding passed_from
from_first p [] e = e
from_first p (t ∷ ts) e = and_left p t (from_first (p && t) ts e)

-- each of the tests passes
abbrev pub Each : List Bool → Type 0
Each [] = Unit {0}
Each (t ∷ ts) = (t ≡ true) × Each ts

from_each : (p : Bool) (ts : List Bool) → passed_from p ts ≡ true → Each ts
unfolding passed_from
from_each p [] e = tt
from_each p (t ∷ ts) e = (and_right p t (from_first (p && t) ts e), from_each (p && t) ts e)

pub passed_each : (ts : List Bool) → passed ts ≡ true → Each ts
unfolding passed
passed_each [] e = tt
passed_each (t ∷ ts) e = (from_first t ts e, from_each t ts e)

each_from : (p : Bool) (ts : List Bool) → p ≡ true → Each ts → passed_from p ts ≡ true
unfolding passed_from
each_from p [] e h = e
each_from p (t ∷ ts) e h = each_from (p && t) ts (and_from p t e h.0) h.1

pub all_passed : (ts : List Bool) → Each ts → passed ts ≡ true
unfolding passed
all_passed [] h = refl
all_passed (t ∷ ts) h = each_from t ts h.0 h.1

-- test i, counted from 0
each_test : (ts : List Bool) → Each ts → (i : ℕ) → get_or ts i true ≡ true
each_test [] h i = refl
each_test (t ∷ ts) h zero = h.0
each_test (t ∷ ts) h (suc i) = each_test ts h.1 i

pub tested : (ts : List Bool) → passed ts ≡ true → (i : ℕ) → get_or ts i true ≡ true
tested ts e i = each_test ts (passed_each ts e) i

pub passed_same : (ts us : List Bool) → (Each ts → ts ≡ us) → (Each us → ts ≡ us) → passed ts ≡ passed us
passed_same ts us f g =
    both_ways (passed ts) (passed us) (λ e. sym (ap passed (f (passed_each ts e))) ∙ e) (λ e. ap passed (g (passed_each us e)) ∙ e)

-- ---- the numbers 1 to n

pub up_to_lem : (n : ℕ) (p : ℕ → Bool) → up_to n p ≡ true → (x : ℕ) → 1 ≤ x → x ≤ n → p x ≡ true
unfolding up_to
up_to_lem zero p e x a b = absurd (omega arith)
up_to_lem (suc n) p e x a b = go (up_to_lem n p (and_right (p (suc n)) (up_to n p) e) x a) (ℕ_discrete x (suc n))
  where
    go : (x ≤ n → p x ≡ true) → Dec (x ≡ suc n) → p x ≡ true
    go ih (yes q) = rw q (and_left (p (suc n)) (up_to n p) e)
    go ih (no q) = ih (omega arith)

pub up_to_all : (n : ℕ) (p : ℕ → Bool) → ((x : ℕ) → 1 ≤ x → x ≤ n → p x ≡ true) → up_to n p ≡ true
unfolding up_to
up_to_all zero p h = refl
up_to_all (suc n) p h =
    and_from (p (suc n)) (up_to n p) (h (suc n) (omega arith) (omega arith)) (up_to_all n p (λ x a b. h x a (omega arith)))

pub up_to_more : (n m : ℕ) (p q : ℕ → Bool) → n ≤ m → ((x : ℕ) → q x ≡ p x) → ((x : ℕ) → n < x → p x ≡ true) → up_to m q ≡ up_to n p
up_to_more n m p q h same more =
    both_ways (up_to m q) (up_to n p)
    (λ e. up_to_all n p (λ x a b. sym (same x) ∙ up_to_lem m q e x a (omega arith)))
    (λ e. up_to_all m q (λ x a b. same x ∙ go e x a (dec_le x n)))
  where
    go : up_to n p ≡ true → (x : ℕ) → 1 ≤ x → Dec (x ≤ n) → p x ≡ true
    go e x a (yes l) = up_to_lem n p e x a l
    go e x a (no l) = more x (omega arith)

-- ---- numbered tests

-- each number is that of a refusal. At a list that is written out this is `refl`
abbrev pub numbered : List Test → Bool
numbered [] = true
numbered (t ∷ ts) = ltb 0 t.number && numbered ts

-- each of them holds
abbrev pub Hold : List Test → Type 0
Hold [] = Unit {0}
Hold (t ∷ ts) = (t.holds ≡ true) × Hold ts

pub failing_none : (ts : List Test) → numbered ts ≡ true → first_failing ts ≡ 0 → Hold ts
unfolding first_failing
failing_none [] n e = tt
failing_none (t ∷ ts) n e = go t.holds refl e (λ later. failing_none ts (and_right (ltb 0 t.number) (numbered ts) n) later)
  where
    go : (p : Bool) → t.holds ≡ p → cond p (first_failing ts) t.number ≡ 0 → (first_failing ts ≡ 0 → Hold ts) → (t.holds ≡ true) × Hold ts
    go true q e rest = (q, rest e)
    go false q e rest =
        let l : 0 < t.number = ltb-true 0 t.number (and_left (ltb 0 t.number) (numbered ts) n) in
        absurd (omega arith)

pub none_failing : (ts : List Test) → Hold ts → first_failing ts ≡ 0
unfolding first_failing
none_failing [] h = refl
none_failing (t ∷ ts) h = rw h.0 (none_failing ts h.1)

-- ---- lists of numbers

pub same_list_lem : (xs ys : List ℕ) → same_list xs ys ≡ true → xs ≡ ys
unfolding same_list
same_list_lem [] [] e = refl
same_list_lem [] (y ∷ ys) e = absurd (false≢true e)
same_list_lem (x ∷ xs) [] e = absurd (false≢true e)
same_list_lem (x ∷ xs) (y ∷ ys) e =
    let h : x ≡ y = eqb-true x y (and_left (eqb x y) (same_list xs ys) e) in
    let t : xs ≡ ys = same_list_lem xs ys (and_right (eqb x y) (same_list xs ys) e) in
    cc

pub list_same : (xs ys : List ℕ) → xs ≡ ys → same_list xs ys ≡ true
unfolding same_list
list_same xs ys e = rw (← e) (self xs)
  where
    self : (xs : List ℕ) → same_list xs xs ≡ true
    self [] = refl
    self (x ∷ xs) = and_from (eqb x x) (same_list xs xs) (eq-eqb x x refl) (self xs)

-- a test of every item, by member
pub each_has : (p : ℕ → Bool) (xs : List ℕ) → each p xs ≡ true → (x : ℕ) → has x xs ≡ true → p x ≡ true
unfolding each has
each_has p [] e x h = absurd (false≢true h)
each_has p (y ∷ ys) e x h = go (or_cases (eqb x y) (has x ys) h) (each_has p ys (and_right (p y) (each p ys) e) x)
  where
    go : (eqb x y ≡ true) ⊎ (has x ys ≡ true) → (has x ys ≡ true → p x ≡ true) → p x ≡ true
    go (inl q) ih = rw (eqb-true x y q) (and_left (p y) (each p ys) e)
    go (inr q) ih = ih q

pub has_each : (p : ℕ → Bool) (xs : List ℕ) → ((x : ℕ) → has x xs ≡ true → p x ≡ true) → each p xs ≡ true
unfolding each has
has_each p [] h = refl
has_each p (y ∷ ys) h =
    and_from (p y) (each p ys) (h y (or_left (eqb y y) (has y ys) (eq-eqb y y refl)))
    (has_each p ys (λ x m. h x (or_right (eqb x y) (has x ys) m)))
