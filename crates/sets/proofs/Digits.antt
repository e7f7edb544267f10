-- Bits of words after `or`, `xor` and `and`, and of one bit alone.
--     bit_or_lem, bit_xor_lem, bit_and_lem     a bit of the result, from the bits of the operands
--     bit_pow                      2 ^ j has bit j and no other
--     bit_with, bit_without        one bit set, one bit cleared
--     bit_none                     0 has no bit
--     bit_shift                    bit j of a word shifted right by k is bit k + j
--     trailing_below, trailing_here     the trailing zeros of a word stand below its lowest bit that is set
--     bits_same                    two numbers below 2 ^ n with the same n lowest bits are equal
use mathlib.Core.Path.{◌≡◌, refl, sym, ap, ◌∙◌}
use mathlib.Core.Bool.{Bool, true, false, not, ◌&&◌, ◌||◌, false≢true, or_comm}
use Prim.Native.Nat.{ℕ, zero, suc, ◌+◌, ◌-◌, ◌*◌, ◌/◌, ◌%◌, ◌^◌, ◌≤◌, ◌<◌, min, max}
use native.Mathlib.Nat.{mod-lt, div-eq_of_lt, one-mul, zero-div, sub-add_cancel, pow-succ', div-div-eq-div-mul, div-one}
use native.Mathlib.Omega.{arith}
use native.Mathlib.Decide.{dec_lt, ℕ_discrete}
use lib.Dec.{eqb}
use lib.Arith.{digits_mod}
use lib.Pow.{pow-lt, pow-add, shl-shr}
use lib.Count.{under, count_trailing_zeros}
use lib.Bits.{bit_and, bit_or, bit_xor, differ, and_step, or_step, xor_step, and_shr, or_shr, xor_shr, shifted_even}
use borrow.Author.Tests.{eq-eqb, ne_eqb}
use Rattle.sets.specs.Sets.{bit_at, with_bit, without_bit}

abbrev odd : ℕ → Bool
odd x = eqb (x % 2) 1

-- Of an operation whose digits are f of the operands' digits, and a test g that f is on digits.
module _ (op : ℕ → ℕ → ℕ) (f : ℕ → ℕ → ℕ) (g : Bool → Bool → Bool) (step : (a b : ℕ) → op a b ≡ op (a / 2) (b / 2) * 2 + f (a % 2) (b % 2))
    (f00 : f 0 0 ≡ 0) (g00 : g false false ≡ false)
    (f01 : f 0 1 < 2) (g01 : eqb (f 0 1) 1 ≡ g false true)
    (f10 : f 1 0 < 2) (g10 : eqb (f 1 0) 1 ≡ g true false)
    (f11 : f 1 1 < 2) (g11 : eqb (f 1 1) 1 ≡ g true true) where
  digit : (a b p q r : ℕ) → a % 2 ≡ p → b % 2 ≡ q → f p q ≡ r → r < 2 → op a b % 2 ≡ r
  digit a b p q r d e h l = rw (step, d, e, h) (digits_mod (op (a / 2) (b / 2)) l)

  odd_op : (a b : ℕ) → odd (op a b) ≡ g (odd a) (odd b)
  odd_op a b = go (a % 2) (b % 2) refl refl (mod-lt a (omega arith)) (mod-lt b (omega arith))
    where
      go : (p q : ℕ) → a % 2 ≡ p → b % 2 ≡ q → p < 2 → q < 2 → odd (op a b) ≡ g (eqb p 1) (eqb q 1)
      go zero zero d e l m = rw (digit a b 0 0 0 d e f00 (omega arith)) (sym g00)
      go zero (suc zero) d e l m = rw (digit a b 0 1 (f 0 1) d e refl f01) g01
      go (suc zero) zero d e l m = rw (digit a b 1 0 (f 1 0) d e refl f10) g10
      go (suc zero) (suc zero) d e l m = rw (digit a b 1 1 (f 1 1) d e refl f11) g11
      go zero (suc (suc q)) d e l m = absurd (omega arith)
      go (suc zero) (suc (suc q)) d e l m = absurd (omega arith)
      go (suc (suc p)) q d e l m = absurd (omega arith)

abbrev unlike : Bool → Bool → Bool
unlike true b = not b
unlike false b = b

pub bit_or_lem : (a b k : ℕ) → bit_at (bit_or a b) k ≡ (bit_at a k || bit_at b k)
bit_or_lem a b k = rw (or_shr a b k) (odd_op bit_or max ◌||◌ or_step refl refl (omega arith) refl (omega arith) refl (omega arith) refl (a / 2 ^ k) (b / 2 ^ k))

pub bit_and_lem : (a b k : ℕ) → bit_at (bit_and a b) k ≡ (bit_at a k && bit_at b k)
bit_and_lem a b k = rw (and_shr a b k) (odd_op bit_and min ◌&&◌ and_step refl refl (omega arith) refl (omega arith) refl (omega arith) refl (a / 2 ^ k) (b / 2 ^ k))

bit_xor_lem : (a b k : ℕ) → bit_at (bit_xor a b) k ≡ unlike (bit_at a k) (bit_at b k)
bit_xor_lem a b k =
    rw (xor_shr a b k) (odd_op bit_xor differ unlike xor_step refl refl (omega arith) refl (omega arith) refl (omega arith) refl (a / 2 ^ k) (b / 2 ^ k))

-- 2 ^ j has bit j and no other
odd_power : (m : ℕ) → odd (2 ^ m) ≡ eqb m 0
odd_power zero = refl
odd_power (suc m) =
    let e : 2 ^ suc m % 2 ≡ 0 = rw one-mul at (shifted_even 1 m) in
    rw e (sym (ne_eqb (suc m) 0 (λ z. omega arith)))

pub bit_pow : (j k : ℕ) → bit_at (2 ^ j) k ≡ eqb k j
bit_pow j k = go (dec_lt j k)
  where
    same : Dec (k ≡ j) → k ≤ j → eqb (j - k) 0 ≡ eqb k j
    same (yes e) l = eq-eqb (j - k) 0 (omega arith) ∙ sym (eq-eqb k j e)
    same (no n) l = ne_eqb (j - k) 0 (λ z. n (omega arith)) ∙ sym (ne_eqb k j n)

    go : Dec (j < k) → bit_at (2 ^ j) k ≡ eqb k j
    go (yes h) =
        let low : 2 ^ j / 2 ^ k ≡ 0 = div-eq_of_lt (pow-lt h) in
        rw low (sym (ne_eqb k j (λ e. omega arith)))
    go (no h) =
        let le : k ≤ j = omega arith in
        let e : (j - k) + k ≡ j = sub-add_cancel le in
        let p : 2 ^ j ≡ 2 ^ (j - k) * 2 ^ k = ap (λ (m : ℕ). 2 ^ m) (sym e) ∙ pow-add 2 (j - k) k in
        let q : 2 ^ j / 2 ^ k ≡ 2 ^ (j - k) = ap (λ (m : ℕ). m / 2 ^ k) p ∙ shl-shr (2 ^ (j - k)) k in
        ap odd q ∙ odd_power (j - k) ∙ same (ℕ_discrete k j) le

but : (p q : Bool) → unlike p (p && q) ≡ (not q && p)
but true true = refl
but true false = refl
but false true = refl
but false false = refl

pub bit_with : (x k j : ℕ) → bit_at (with_bit x k) j ≡ (eqb j k || bit_at x j)
bit_with x k j = bit_or_lem x (2 ^ k) j ∙ rw (bit_pow k j) (or_comm (bit_at x j) (eqb j k))

pub bit_without : (x k j : ℕ) → bit_at (without_bit x k) j ≡ (not (eqb j k) && bit_at x j)
bit_without x k j = bit_xor_lem x (bit_and x (2 ^ k)) j ∙ rw (bit_and_lem x (2 ^ k) j, bit_pow k j) (but (bit_at x j) (eqb j k))

pub bit_none : (k : ℕ) → bit_at 0 k ≡ false
bit_none k = rw (zero-div (2 ^ k))

-- bit k of the half is bit k + 1
pub bit_half : (x k : ℕ) → bit_at (x / 2) k ≡ bit_at x (suc k)
bit_half x k = rw (div-div-eq-div-mul x 2 (2 ^ k), pow-succ' 2 k)

pub bit_shift : (x k j : ℕ) → bit_at (x / 2 ^ k) j ≡ bit_at x (k + j)
bit_shift x k j = rw (div-div-eq-div-mul x (2 ^ k) (2 ^ j), pow-add 2 k j)

-- the lowest bit
bit_low : (x d : ℕ) → x % 2 ≡ d → bit_at x 0 ≡ eqb d 1
bit_low x d e = rw (div-one x, e)

pub trailing_below : (k x j : ℕ) → j < count_trailing_zeros k x → bit_at x j ≡ false
unfolding count_trailing_zeros
trailing_below zero x j h = absurd (omega arith)
trailing_below (suc k) x j h = go (x % 2) refl j h (trailing_below k (x / 2))
  where
    go : (d : ℕ) → x % 2 ≡ d → (j : ℕ) → j < under d (count_trailing_zeros k (x / 2)) → ((i : ℕ) → i < count_trailing_zeros k (x / 2) → bit_at (x / 2) i ≡ false)
        → bit_at x j ≡ false
    go zero e zero l ih = bit_low x 0 e
    go zero e (suc i) l ih = sym (bit_half x i) ∙ ih i (omega arith)
    go (suc d) e i l ih = absurd (omega arith)

pub trailing_here : (k x : ℕ) → count_trailing_zeros k x < k → bit_at x (count_trailing_zeros k x) ≡ true
unfolding count_trailing_zeros
trailing_here zero x h = absurd (omega arith)
trailing_here (suc k) x h = go (x % 2) refl (mod-lt x (omega arith)) h (trailing_here k (x / 2))
  where
    go : (d : ℕ) → x % 2 ≡ d → d < 2 → under d (count_trailing_zeros k (x / 2)) < suc k
        → (count_trailing_zeros k (x / 2) < k → bit_at (x / 2) (count_trailing_zeros k (x / 2)) ≡ true) → bit_at x (under d (count_trailing_zeros k (x / 2))) ≡ true
    go zero e m l ih = sym (bit_half x (count_trailing_zeros k (x / 2))) ∙ ih (omega arith)
    go (suc zero) e m l ih = bit_low x 1 e
    go (suc (suc d)) e m l ih = absurd (omega arith)

same_digit : (x y : ℕ) → odd x ≡ odd y → x % 2 ≡ y % 2
same_digit x y = go (x % 2) (y % 2) (mod-lt x (omega arith)) (mod-lt y (omega arith))
  where
    go : (p q : ℕ) → p < 2 → q < 2 → eqb p 1 ≡ eqb q 1 → p ≡ q
    go zero zero l m e = refl
    go zero (suc zero) l m e = absurd (false≢true e)
    go (suc zero) zero l m e = absurd (false≢true (sym e))
    go (suc zero) (suc zero) l m e = refl
    go zero (suc (suc q)) l m e = absurd (omega arith)
    go (suc zero) (suc (suc q)) l m e = absurd (omega arith)
    go (suc (suc p)) q l m e = absurd (omega arith)

pub bits_same : (n x y : ℕ) → x < 2 ^ n → y < 2 ^ n → ((k : ℕ) → k < n → bit_at x k ≡ bit_at y k) → x ≡ y
bits_same zero x y l m same = omega arith
bits_same (suc n) x y l m same =
    let p : 2 ^ suc n ≡ 2 * 2 ^ n = pow-succ' 2 n in
    let half : x / 2 ≡ y / 2 =
    bits_same n (x / 2) (y / 2) (omega arith) (omega arith) (λ k h. bit_half x k ∙ same (suc k) (omega arith) ∙ sym (bit_half y k)) in
    let digit : x % 2 ≡ y % 2 = same_digit x y (rw (div-one x, div-one y) at (same 0 (omega arith))) in
    omega arith
