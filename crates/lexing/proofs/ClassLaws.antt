-- Laws of the numbers of classes.
--     letter_class, .., byte_class     the class of a byte by ranges, as code tests them
--     class_small, is_class            there are eight; a class by its number
--     class_by, symbol_or              the class of a byte by its number
--     coded, not_coded                 the number of a byte's class, by the class as code names it
use Prim.Native.Nat.{ℕ, suc, ◌-◌, ◌≤◌, ◌<◌}
use native.Mathlib.Omega.{arith}
use mathlib.Core.Path.{◌≡◌, refl, sym, ap, ◌∙◌}
use mathlib.Core.Bool.{Bool, true, false, cond, not, ◌&&◌, ◌||◌}
use mathlib.Core.List.{[], ◌∷◌}
use lib.ListN.{get_or}
use lib.Dec.{eqb, ltb}
use borrow.Author.Tests.{eqb-true, ne_eqb, lt-ltb, le-ltb}
use Rattle.logic.specs.Tests.{up_to}
use Rattle.logic.proofs.Tests.{up_to_lem}
use Rattle.grammar.specs.Bytes.{Class, space, lineEnd, semicolon, opening, closing, digit, symbol, other, class_of}
use Rattle.lexing.specs.Codes.{class_code}
use Rattle.lexing.specs.Words.{class_in}
use Rattle.lexing.specs.declared.runs.Class.{Class as Named}

-- ---- the classes of all bytes, as `runs::class_of` and `runs::low_class` test for them

abbrev pub letter_like : ℕ → Bool
letter_like x = ltb x 123 || eqb x 126

abbrev pub capital_like : ℕ → Bool
capital_like x = (ltb x 91 || eqb x 94) || eqb x 95

abbrev pub sign_like : ℕ → Bool
sign_like x = (eqb x 33 || (ltb 35 x && ltb x 39)) || (ltb 41 x && not (eqb x 44))

abbrev pub low_code : ℕ → ℕ
low_code x =
    cond (eqb x 32) 0
    (cond (eqb x 40) 3 (cond (eqb x 41) 4 (cond (eqb x 10) 1 (cond (eqb x 13) 1 (cond (eqb x 9) 0 (cond (sign_like x) 6 7))))))

abbrev pub high_code : ℕ → ℕ
high_code x =
    cond (ltb 96 x) (cond (letter_like x) 6 7)
    (cond (ltb 59 x) (cond (capital_like x) 6 7) (cond (ltb x 48) (low_code x) (cond (eqb x 59) 2 (cond (eqb x 58) 7 5))))

class_table : up_to 256 (λ b. eqb (high_code (b - 1)) (class_code (class_of (b - 1)))) ≡ true
unfolding up_to class_code class_of
class_table = refl

module _ (x : ℕ) (l : x < 256) where
  pub in_ranges : high_code x ≡ class_code (class_of x)
  in_ranges =
      let h = up_to_lem 256 (λ b. eqb (high_code (b - 1)) (class_code (class_of (b - 1)))) class_table (suc x) (omega arith) (omega arith) in
      let q : suc x - 1 ≡ x = omega arith in
      eqb-true (high_code x) (class_code (class_of x)) (rw q at h)

  pub letter_class : 96 < x → cond (letter_like x) 6 7 ≡ class_code (class_of x)
  letter_class a = rw (lt-ltb 96 x a) at in_ranges

  pub capital_class : x ≤ 96 → 59 < x → cond (capital_like x) 6 7 ≡ class_code (class_of x)
  capital_class a b = rw (le-ltb 96 x a, lt-ltb 59 x b) at in_ranges

  pub digit_class : 48 ≤ x → x ≤ 59 → (x ≡ 59 → ⊥) → (x ≡ 58 → ⊥) → 5 ≡ class_code (class_of x)
  digit_class a b c d = rw (le-ltb 96 x (omega arith), le-ltb 59 x b, le-ltb x 48 a, ne_eqb x 59 c, ne_eqb x 58 d) at in_ranges

pub low_ranges : (x : ℕ) → x < 48 → low_code x ≡ class_code (class_of x)
low_ranges x l = rw (le-ltb 96 x (omega arith), le-ltb 59 x (omega arith), lt-ltb x 48 l) at (in_ranges x (omega arith))

pub sign_class : (x : ℕ) → x < 48 → (x ≡ 32 → ⊥) → (x ≡ 40 → ⊥) → (x ≡ 41 → ⊥) → (x ≡ 10 → ⊥) → (x ≡ 13 → ⊥) → (x ≡ 9 → ⊥)
    → cond (sign_like x) 6 7 ≡ class_code (class_of x)
sign_class x l a b c d e f =
    rw (ne_eqb x 32 a, ne_eqb x 40 b, ne_eqb x 41 c, ne_eqb x 10 d, ne_eqb x 13 e, ne_eqb x 9 f) at (low_ranges x l)

-- a byte that is known
pub byte_class : (x n k : ℕ) → x ≡ n → n < 256 → eqb (high_code n) k ≡ true → k ≡ class_code (class_of x)
byte_class x n k e l t = sym (eqb-true (high_code n) k t) ∙ in_ranges n l ∙ ap (λ z. class_code (class_of z)) (sym e)

pub class_small : (k : Class) → class_code k < 8
unfolding class_code
class_small space = omega arith
class_small lineEnd = omega arith
class_small semicolon = omega arith
class_small opening = omega arith
class_small closing = omega arith
class_small digit = omega arith
class_small symbol = omega arith
class_small other = omega arith

-- the class of a number
abbrev pub numbered : ℕ → Class
numbered n = get_or (space ∷ lineEnd ∷ semicolon ∷ opening ∷ closing ∷ digit ∷ symbol ∷ other ∷ []) n other

code_class : (k : Class) → numbered (class_code k) ≡ k
unfolding class_code
code_class space = refl
code_class lineEnd = refl
code_class semicolon = refl
code_class opening = refl
code_class closing = refl
code_class digit = refl
code_class symbol = refl
code_class other = refl

pub is_class : (k : Class) (n : ℕ) → class_code k ≡ n → k ≡ numbered n
is_class k n e = sym (code_class k) ∙ ap numbered e

-- the class of a byte, by its number
pub class_by : (x k : ℕ) → k ≡ class_code (class_of x) → numbered k ≡ class_of x
class_by x k e = sym (is_class (class_of x) k (sym e))

pub symbol_or : (x : ℕ) (p : Bool) → cond p 6 7 ≡ class_code (class_of x) → cond p symbol other ≡ class_of x
symbol_or x true e = class_by x 6 e
symbol_or x false e = class_by x 7 e

-- ---- classes as code names them

named : ℕ → Named
named n = get_or (Named.Space ∷ Named.LineEnd ∷ Named.Semicolon ∷ Named.Opening ∷ Named.Closing ∷ Named.Digit ∷ Named.Symbol ∷ Named.Other ∷ []) n Named.Other

code_named : (k : Named) → named (class_code (class_in k)) ≡ k
unfolding class_code named
code_named Named.Space = refl
code_named Named.LineEnd = refl
code_named Named.Semicolon = refl
code_named Named.Opening = refl
code_named Named.Closing = refl
code_named Named.Digit = refl
code_named Named.Symbol = refl
code_named Named.Other = refl

pub coded : {c : Class} (k n : Named) → class_in k ≡ c → k ≡ n → class_code c ≡ class_code (class_in n)
coded k n is e = ap class_code (sym is ∙ ap class_in e)

pub not_coded : {c : Class} (k n : Named) → class_in k ≡ c → (k ≡ n → ⊥) → class_code c ≡ class_code (class_in n) → ⊥
not_coded k n is not_n e = not_n (sym (code_named k) ∙ ap named (ap class_code is ∙ e) ∙ code_named n)
