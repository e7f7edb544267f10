-- Laws of a letter and a numeral, digit by digit, as `names::number_within` reads them; and the names of a bundle by its counts.
--     later_byte                                           a byte after the letter
--     nothing_short, nothing_letter, nothing_zero          runs that are no letter and numeral
--     counting_start, counting_on                          digits so far
--     nothing_below, nothing_above, nothing_high           a byte that is no digit; a number that is too high
--     nothing_low, counted                                 the run's end
--     within_le                                            no number is too high
--     numbered_some, numbered_or                           there is a number where it is not 0
--     known_symbol, known_variable, known_either           the kind due, by its number
--     counts_suffice                                       THE LAW: the counts of a bundle say as much as the bundle
use Prim.Native.Nat.{ℕ, suc, ◌+◌, ◌-◌, ◌*◌, ◌≤◌, ◌<◌}
use native.Mathlib.Omega.{arith}
use native.Mathlib.Numerals.{add-one}
use mathlib.Core.Path.{◌≡◌, refl, sym, ap, ◌∙◌}
use mathlib.Core.Bool.{Bool, true, false, cond, ◌&&◌, ◌||◌, and-false}
use mathlib.Core.List.{List, [], ◌∷◌}
use lib.ListN.{length, get_or, take, drop, drop_of_length-le}
use lib.Seq.{drop-cons, get_or-take, get_or-drop}
use lib.Dec.{eqb, leb, ltb}
use borrow.Author.Tests.{eq-eqb, ne_eqb, lt-ltb, le-leb, leb-true, lt-leb}
use Rattle.std.specs.Prelude.{Option, Some, None, is_some, unwrap_or}
use Rattle.bundle.specs.Lists.{each}
use Rattle.grammar.specs.Names.{Place, either, symbolOnly, variableOnly}
use Rattle.reading.specs.Called.{decimal, is_digit, is_numeral, number_after, variable_called, symbol_called, known_as}
use Rattle.lexing.specs.Counted.{number_within, variable_among, symbol_among, place_of, known_among, Numbered, CountsSuffice}

cond_same : (p : Bool) (n : ℕ) → cond p n n ≡ n
cond_same true n = refl
cond_same false n = refl

-- digits only add to a number
decimal_rises : (n : ℕ) (ds : List ℕ) → n ≤ decimal n ds
unfolding decimal
decimal_rises n [] = omega arith
decimal_rises n (c ∷ cs) = let h = decimal_rises (10 * n + (c - 48)) cs in omega (arith, h)

pub later_byte : (w : List ℕ) (k : ℕ) → k + 1 < length w → get_or (take (length w - 1) (drop 1 w)) k 0 ≡ get_or w (k + 1) 0
later_byte w k l =
    let m : k < length w - 1 = omega arith in
    let e : 1 + k ≡ k + 1 = omega arith in
    get_or-take (length w - 1) (drop 1 w) k 0 m ∙ get_or-drop 1 w k 0 ∙ rw e

module _ (letter low high : ℕ) where
  -- the digits before j are read as n
  pub record Counting (w : List ℕ) (n j : ℕ) : Type 0 where
    pub inside : j ≤ length w
    pub small : n ≤ high
    pub rest : number_after letter w ≡ cond (each is_digit (drop j w)) (decimal n (drop j w)) 0

  nothing : (w : List ℕ) → number_after letter w ≡ 0 → 0 ≡ number_within letter low high w
  unfolding number_within
  nothing w e = rw e (sym (cond_same (leb low 0 && leb 0 high) 0))

  too_high : (w : List ℕ) → high < number_after letter w → 0 ≡ number_within letter low high w
  unfolding number_within
  too_high w l = rw (lt-leb (number_after letter w) high l, and-false (leb low (number_after letter w)))

  pub nothing_short : (w : List ℕ) → length w < 2 → 0 ≡ number_within letter low high w
  unfolding number_after is_numeral
  nothing_short [] l = nothing [] refl
  nothing_short (c ∷ []) l = nothing (c ∷ []) (rw (and-false (eqb c letter)))
  nothing_short (c ∷ d ∷ w) l = absurd (omega (arith, l))

  pub nothing_letter : (w : List ℕ) → (get_or w 0 0 ≡ letter → ⊥) → 0 ≡ number_within letter low high w
  unfolding number_after
  nothing_letter [] e = nothing [] refl
  nothing_letter (c ∷ w) e = nothing (c ∷ w) (rw (ne_eqb c letter e))

  pub nothing_zero : (w : List ℕ) → get_or w 1 0 ≡ 48 → 0 ≡ number_within letter low high w
  unfolding number_after is_numeral
  nothing_zero [] e = nothing [] refl
  nothing_zero (c ∷ []) e = nothing (c ∷ []) (rw (and-false (eqb c letter)))
  nothing_zero (c ∷ d ∷ w) e = nothing (c ∷ d ∷ w) (rw (eq-eqb d 48 e, and-false (eqb c letter)))

  pub counting_start : (w : List ℕ) → 2 ≤ length w → get_or w 0 0 ≡ letter → (get_or w 1 0 ≡ 48 → ⊥) → Counting w 0 1
  unfolding number_after is_numeral
  counting_start [] l e z = absurd (omega arith)
  counting_start (c ∷ []) l e z = absurd (omega arith)
  counting_start (c ∷ d ∷ w) l e z = record { inside = omega arith; small = omega arith; rest = rw (eq-eqb c letter e, ne_eqb d 48 z) }

  module _ (w : List ℕ) (n j : ℕ) (h : Counting w n j) where
    module _ (l : j < length w) (c : ℕ) (same : c ≡ get_or w j 0) where
      -- one byte more
      next : number_after letter w ≡ cond (is_digit c && each is_digit (drop (suc j) w)) (decimal (10 * n + (c - 48)) (drop (suc j) w)) 0
      unfolding each decimal
      next = rw same (h.rest ∙ ap (λ ds. cond (each is_digit ds) (decimal n ds) 0) (drop-cons w j 0 l))

      pub nothing_below : c < 48 → 0 ≡ number_within letter low high w
      nothing_below k = nothing w (rw (lt-leb 48 c k) at next)

      pub nothing_above : 57 < c → 0 ≡ number_within letter low high w
      nothing_above k = nothing w (rw (lt-leb c 57 k, and-false (leb 48 c)) at next)

      digits : 48 ≤ c → c ≤ 57 → number_after letter w ≡ cond (each is_digit (drop (suc j) w)) (decimal (10 * n + (c - 48)) (drop (suc j) w)) 0
      digits k m = rw (le-leb 48 c k, le-leb c 57 m) at next

      pub nothing_high : 48 ≤ c → c ≤ 57 → high < 10 * n + (c - 48) → 0 ≡ number_within letter low high w
      nothing_high k m over = go (each is_digit (drop (suc j) w)) (digits k m)
        where
          go : (b : Bool) → number_after letter w ≡ cond b (decimal (10 * n + (c - 48)) (drop (suc j) w)) 0 → 0 ≡ number_within letter low high w
          go true e = too_high w (omega (arith, e, over, decimal_rises (10 * n + (c - 48)) (drop (suc j) w)))
          go false e = nothing w e

      pub counting_on : 48 ≤ c → c ≤ 57 → 10 * n + (c - 48) ≤ high → Counting w (10 * n + (c - 48)) (j + 1)
      counting_on k m s = rw (add-one j) (record { inside = l; small = s; rest = digits k m })

    module _ (past : length w ≤ j) where
      whole : number_after letter w ≡ n
      unfolding each decimal
      whole = rw (drop_of_length-le w past) at h.rest

      pub nothing_low : n < low → 0 ≡ number_within letter low high w
      unfolding number_within
      nothing_low k = rw (whole, lt-leb low n k)

      pub counted : low ≤ n → n ≡ number_within letter low high w
      unfolding number_within
      counted k = rw (whole, le-leb low n k, le-leb n high h.small)

-- it is no higher than it may be
pub within_le : (letter low high : ℕ) (w : List ℕ) → number_within letter low high w ≤ high
unfolding number_within
within_le letter low high w = go (leb low (number_after letter w)) (leb (number_after letter w) high) refl
  where
    go : (p q : Bool) → leb (number_after letter w) high ≡ q → cond (p && q) (number_after letter w) 0 ≤ high
    go true true k = leb-true (number_after letter w) high k
    go true false k = omega arith
    go false true k = omega arith
    go false false k = omega arith

-- ---- the kind due, as `names::known_as` tests it

-- there is a number where it is not 0
pub numbered_some : (n : ℕ) (r : Option ℕ) → Numbered n r → is_some r ≡ ltb 0 n
numbered_some n None e = rw e
numbered_some n (Some x) h = sym (lt-ltb 0 n (omega (arith, h.1)))

-- and else 0 stands for it
pub numbered_or : (n : ℕ) (r : Option ℕ) → Numbered n r → unwrap_or r 0 ≡ n
numbered_or n None e = sym e
numbered_or n (Some x) h = h.0

module _ (symbols variables place : ℕ) (w : List ℕ) (x f : Option ℕ) (isX : Numbered (variable_among variables w) x) (isF : Numbered (symbol_among symbols w) f) where
  pub known_symbol : place ≡ 1 → is_some f ≡ known_among symbols variables (place_of place) w
  unfolding known_among
  known_symbol e = rw (e, numbered_some _ f isF)

  pub known_variable : (place ≡ 1 → ⊥) → place ≡ 2 → is_some x ≡ known_among symbols variables (place_of place) w
  unfolding known_among
  known_variable ne e = rw (e, numbered_some _ x isX)

  pub known_either : (place ≡ 1 → ⊥) → (place ≡ 2 → ⊥) → (is_some x || is_some f) ≡ known_among symbols variables (place_of place) w
  unfolding known_among
  known_either ne nf = rw (ne_eqb place 1 ne, ne_eqb place 2 nf, numbered_some _ x isX, numbered_some _ f isF)

-- ---- bundles

pub counts_suffice : CountsSuffice
unfolding variable_called symbol_called known_as number_within known_among
counts_suffice b w = record { variable = refl; symbol = refl; known = known }
  where
    known : (p : Place) → known_as b p w ≡ known_among (length b.symbols) (length b.variables) p w
    known either = refl
    known symbolOnly = refl
    known variableOnly = refl
