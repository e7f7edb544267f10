-- Laws of the search for a lexeme, byte by byte.
--     step, past                                        one byte; the text's end
--     skip_start, skip_on, skip_here, skip_end          white space and comments, as `lexemes::skipped` goes over them
--     run_start, run_on, run_stopped, run_past   a run of symbol characters, as `lexemes::run_end` goes over it
--     part_more, grows, stops                           one byte more in a run; one that ends it
use Prim.Native.Nat.{ℕ, zero, suc, ◌+◌, ◌-◌, ◌*◌, ◌≤◌, ◌<◌}
use native.Mathlib.Omega.{arith}
use native.Mathlib.Numerals.{add-one}
use mathlib.Core.Path.{◌≡◌, refl, sym, ap, ◌∙◌}
use mathlib.Core.Bool.{Bool, true, false, cond, ◌||◌, true≢false, false≢true}
use mathlib.Core.Logic.{◌⊎◌, inl, inr}
use mathlib.Core.List.{List, [], ◌∷◌, ◌++◌}
use lib.ListN.{length, get_or, take, drop, length-drop, drop_of_length-le}
use lib.Seq.{drop-cons, take-suc, get_or-drop}
use lib.Dec.{eqb}
use Rattle.grammar.specs.Bytes.{Class, space, lineEnd, semicolon, opening, closing, digit, symbol, other, class_of, word_of}
use Rattle.grammar.specs.Grammar.{word, Mode, between, comment, within, bracket, ends, outside, onwards, last, lexemes_from}
use Rattle.lexing.specs.Codes.{class_code}
use Rattle.lexing.specs.Words.{class_in}
use Rattle.lexing.specs.declared.runs.Class.{Class as Named}
use Rattle.lexing.specs.Lexes.{lexemes_of, part, Skipped, RunEnds, skips}
use Rattle.lexing.proofs.ClassLaws.{class_small, is_class}
use Rattle.lexing.proofs.Tails.{tail_at}

-- ---- one byte

module _ (text : List ℕ) (j : ℕ) where
  abbrev pub class_at : Class
  class_at = class_of (get_or text j 0)

  pub step : j < length text → (m : Mode) → lexemes_from m (drop j text) ≡ ends m class_at ++ lexemes_from (onwards m (get_or text j 0) class_at) (drop (suc j) text)
  unfolding lexemes_from
  step l m = rw (drop-cons text j 0 l)

  pub past : length text ≤ j → (m : Mode) → lexemes_from m (drop j text) ≡ last m
  unfolding lexemes_from
  past l m = rw (drop_of_length-le text l)

-- ---- white space and comments

-- between lexemes or in a comment, by number
abbrev skipping : ℕ → Mode
skipping m = cond (eqb m 1) comment between

pub record Skipping (text : List ℕ) (m j : ℕ) : Type 0 where
  pub inside : j ≤ length text
  pub mode : m < 2
  pub same : lexemes_of text ≡ lexemes_from (skipping m) (drop j text)

pub skip_start : (text : List ℕ) → Skipping text 0 0
skip_start text = record { inside = omega arith; mode = omega arith; same = refl }

abbrev mode_after : ℕ → Class → ℕ
mode_after m k = get_or skips (8 * m + class_code k) 0

-- what goes on
goes_on_lem : (m c : ℕ) (k : Class) (cs : List ℕ) → m < 2 → (mode_after m k ≡ 2 → ⊥)
    → ends (skipping m) k ++ lexemes_from (onwards (skipping m) c k) cs ≡ lexemes_from (skipping (mode_after m k)) cs
unfolding ends onwards bracket outside class_code
goes_on_lem zero c space cs l ne = refl
goes_on_lem zero c lineEnd cs l ne = refl
goes_on_lem zero c semicolon cs l ne = refl
goes_on_lem zero c opening cs l ne = absurd (ne refl)
goes_on_lem zero c closing cs l ne = absurd (ne refl)
goes_on_lem zero c digit cs l ne = absurd (ne refl)
goes_on_lem zero c symbol cs l ne = absurd (ne refl)
goes_on_lem zero c other cs l ne = absurd (ne refl)
goes_on_lem (suc zero) c space cs l ne = refl
goes_on_lem (suc zero) c lineEnd cs l ne = refl
goes_on_lem (suc zero) c semicolon cs l ne = refl
goes_on_lem (suc zero) c opening cs l ne = refl
goes_on_lem (suc zero) c closing cs l ne = refl
goes_on_lem (suc zero) c digit cs l ne = refl
goes_on_lem (suc zero) c symbol cs l ne = refl
goes_on_lem (suc zero) c other cs l ne = refl
goes_on_lem (suc (suc m)) c k cs l ne = absurd (omega (arith, l))

-- the table has 0, 1 and 2
mode_small : (m : ℕ) (k : Class) → m < 2 → (mode_after m k ≡ 2 → ⊥) → mode_after m k < 2
unfolding class_code
mode_small zero space l ne = omega arith
mode_small zero lineEnd l ne = omega arith
mode_small zero semicolon l ne = omega arith
mode_small zero opening l ne = absurd (ne refl)
mode_small zero closing l ne = absurd (ne refl)
mode_small zero digit l ne = absurd (ne refl)
mode_small zero symbol l ne = absurd (ne refl)
mode_small zero other l ne = absurd (ne refl)
mode_small (suc zero) space l ne = omega arith
mode_small (suc zero) lineEnd l ne = omega arith
mode_small (suc zero) semicolon l ne = omega arith
mode_small (suc zero) opening l ne = omega arith
mode_small (suc zero) closing l ne = omega arith
mode_small (suc zero) digit l ne = omega arith
mode_small (suc zero) symbol l ne = omega arith
mode_small (suc zero) other l ne = omega arith
mode_small (suc (suc m)) k l ne = absurd (omega arith)

-- 2 is only where a lexeme starts
starts_here : (m : ℕ) (k : Class) → m < 2 → mode_after m k ≡ 2 → (m ≡ 0) × (3 ≤ class_code k)
unfolding class_code
starts_here zero space l e = absurd (omega arith)
starts_here zero lineEnd l e = absurd (omega arith)
starts_here zero semicolon l e = absurd (omega arith)
starts_here zero opening l e = (refl, omega arith)
starts_here zero closing l e = (refl, omega arith)
starts_here zero digit l e = (refl, omega arith)
starts_here zero symbol l e = (refl, omega arith)
starts_here zero other l e = (refl, omega arith)
starts_here (suc zero) space l e = absurd (omega arith)
starts_here (suc zero) lineEnd l e = absurd (omega arith)
starts_here (suc zero) semicolon l e = absurd (omega arith)
starts_here (suc zero) opening l e = absurd (omega arith)
starts_here (suc zero) closing l e = absurd (omega arith)
starts_here (suc zero) digit l e = absurd (omega arith)
starts_here (suc zero) symbol l e = absurd (omega arith)
starts_here (suc zero) other l e = absurd (omega arith)
starts_here (suc (suc m)) k l e = absurd (omega arith)

rest_first : (text : List ℕ) (j : ℕ) → get_or (drop j text) 0 0 ≡ get_or text j 0
rest_first text j = let e : j + 0 ≡ j = omega arith in get_or-drop j text 0 0 ∙ ap (λ k. get_or text k 0) e

module _ (text : List ℕ) (m j : ℕ) (h : Skipping text m j) where
  -- the table's index
  pub skip_index : (k : ℕ) → k ≡ class_code (class_of (get_or text j 0)) → 8 * m + k < 16
  skip_index k isClass = omega (arith, h.mode, isClass, class_small (class_of (get_or text j 0)))

  module _ (l : j < length text) (k n : ℕ) (isClass : k ≡ class_code (class_of (get_or text j 0))) (isMode : n ≡ get_or skips (8 * m + k) 0) where
    mode_is : n ≡ mode_after m (class_of (get_or text j 0))
    mode_is = isMode ∙ ap (λ x. get_or skips (8 * m + x) 0) isClass

    pub skip_on : (n ≡ 2 → ⊥) → Skipping text n (j + 1)
    skip_on ne =
        let q : mode_after m (class_of (get_or text j 0)) ≡ 2 → ⊥ = λ e. ne (mode_is ∙ e) in
        rw (add-one j, mode_is) (record {
          inside = l;
          mode = mode_small m (class_of (get_or text j 0)) h.mode q;
          same = h.same ∙ step text j l (skipping m) ∙ goes_on_lem m (get_or text j 0) (class_of (get_or text j 0)) (drop (suc j) text) h.mode q;
        })

    pub skip_here : n ≡ 2 → Skipped text (drop j text)
    skip_here e =
        let f = starts_here m (class_of (get_or text j 0)) h.mode (sym mode_is ∙ e) in
        record {
          tail = tail_at text j h.inside;
          fewer = omega (arith, length-drop j text);
          same = rw f.0 at h.same;
          starts = λ x. omega (arith, f.1, ap (λ c. class_code (class_of c)) (rest_first text j));
        }

  pub skip_end : length text ≤ j → Skipped text []
  unfolding last lexemes_from
  skip_end l = record {
    tail = rw (drop_of_length-le text l) at (tail_at text j h.inside);
    fewer = omega arith;
    same = h.same ∙ past text j l (skipping m) ∙ nothing (eqb m 1);
    starts = λ x. absurd (omega arith);
  }
    where
      nothing : (b : Bool) → last (cond b comment between) ≡ last between
      nothing true = refl
      nothing false = refl

-- ---- runs

pub part_more : (text : List ℕ) (s j : ℕ) → s ≤ j → j < length text → part text s (suc j) ≡ part text s j ++ (get_or text j 0 ∷ [])
part_more text s j o l =
    let q : suc j - s ≡ suc (j - s) = omega arith in
    let p : s + (j - s) ≡ j = omega arith in
    rw q
    (take-suc (drop s text) (j - s) 0 (omega (arith, length-drop s text))
    ∙ ap (λ x. take (j - s) (drop s text) ++ (x ∷ [])) (get_or-drop s text (j - s) 0 ∙ ap (λ j. get_or text j 0) p))

pub record Running (text : List ℕ) (j : ℕ) : Type 0 where
  pub some : 0 < j
  pub inside : j ≤ length text
  pub same : lexemes_of text ≡ lexemes_from (within (take j text)) (drop j text)

pub run_start : (text : List ℕ) → 0 < length text → class_code (class_of (get_or text 0 0)) ≡ 6 → Running text 1
unfolding ends onwards bracket outside
run_start text l e =
    record {
      some = omega arith;
      inside = l;
      same = step text 0 l between ∙ first (class_of (get_or text 0 0)) (is_class (class_of (get_or text 0 0)) 6 e);
    }
  where
    one : take 1 text ≡ get_or text 0 0 ∷ []
    one = take-suc text 0 0 l

    first : (k : Class) → k ≡ symbol
        → ends between k ++ lexemes_from (onwards between (get_or text 0 0) k) (drop 1 text) ≡ lexemes_from (within (take 1 text)) (drop 1 text)
    first k e = rw (e, one)

-- a byte that goes on a run; one that ends it
pub grows : (w : List ℕ) (c : ℕ) (k : Class) (cs : List ℕ) → 5 ≤ class_code k → (class_code k ≡ 7 → ⊥)
    → ends (within w) k ++ lexemes_from (onwards (within w) c k) cs ≡ lexemes_from (within (w ++ (c ∷ []))) cs
unfolding ends onwards class_code
grows w c space cs l ne = absurd (omega arith)
grows w c lineEnd cs l ne = absurd (omega arith)
grows w c semicolon cs l ne = absurd (omega arith)
grows w c opening cs l ne = absurd (omega arith)
grows w c closing cs l ne = absurd (omega arith)
grows w c digit cs l ne = refl
grows w c symbol cs l ne = refl
grows w c other cs l ne = absurd (ne refl)

pub stops : (w : List ℕ) (c : ℕ) (k : Class) (cs : List ℕ) → (class_code k < 5) ⊎ (class_code k ≡ 7)
    → ends (within w) k ++ lexemes_from (onwards (within w) c k) cs ≡ word (word_of w) ∷ (ends between k ++ lexemes_from (onwards between c k) cs)
unfolding ends onwards class_code
stops w c space cs h = refl
stops w c lineEnd cs h = refl
stops w c semicolon cs h = refl
stops w c opening cs h = refl
stops w c closing cs h = refl
stops w c digit cs (inl l) = absurd (omega arith)
stops w c digit cs (inr e) = absurd (omega arith)
stops w c symbol cs (inl l) = absurd (omega arith)
stops w c symbol cs (inr e) = absurd (omega arith)
stops w c other cs h = refl

-- the same by the test that code makes
goes : (k : Class) → (eqb (class_code k) 5 || eqb (class_code k) 6) ≡ true → (5 ≤ class_code k) × (class_code k ≡ 7 → ⊥)
unfolding class_code
goes space g = absurd (false≢true g)
goes lineEnd g = absurd (false≢true g)
goes semicolon g = absurd (false≢true g)
goes opening g = absurd (false≢true g)
goes closing g = absurd (false≢true g)
goes digit g = (omega arith, λ e. omega arith)
goes symbol g = (omega arith, λ e. omega arith)
goes other g = absurd (false≢true g)

halts : (k : Class) → (eqb (class_code k) 5 || eqb (class_code k) 6) ≡ false → (class_code k < 5) ⊎ (class_code k ≡ 7)
unfolding class_code
halts space f = inl (omega arith)
halts lineEnd f = inl (omega arith)
halts semicolon f = inl (omega arith)
halts opening f = inl (omega arith)
halts closing f = inl (omega arith)
halts digit f = absurd (true≢false f)
halts symbol f = absurd (true≢false f)
halts other f = inr refl

module _ (text : List ℕ) (j : ℕ) (h : Running text j) where
  module _ (l : j < length text) (k : Named) (isClass : class_in k ≡ class_of (get_or text j 0)) where
    pub run_on : (eqb (class_code (class_in k)) 5 || eqb (class_code (class_in k)) 6) ≡ true → Running text (j + 1)
    run_on g =
        rw (add-one j) (record {
          some = omega arith;
          inside = l;
          same =
              h.same ∙ step text j l (within (take j text))
              ∙ grows (take j text) (get_or text j 0) (class_of (get_or text j 0)) (drop (suc j) text) (goes (class_of (get_or text j 0)) (rw isClass at g)).0 (goes (class_of (get_or text j 0)) (rw isClass at g)).1
              ∙ ap (λ w. lexemes_from (within w) (drop (suc j) text)) (sym (take-suc text j 0 l));
        })

    pub run_stopped : (eqb (class_code (class_in k)) 5 || eqb (class_code (class_in k)) 6) ≡ false → RunEnds text j
    run_stopped f = record {
      some = h.some;
      inside = h.inside;
      whole =
          h.same ∙ step text j l (within (take j text))
          ∙ stops (take j text) (get_or text j 0) (class_of (get_or text j 0)) (drop (suc j) text) (halts (class_of (get_or text j 0)) (rw isClass at f))
          ∙ ap (λ xs. word (word_of (take j text)) ∷ xs) (sym (step text j l between));
    }

  pub run_past : length text ≤ j → RunEnds text j
  unfolding last
  run_past l = record {
    some = h.some;
    inside = h.inside;
    whole = h.same ∙ past text j l (within (take j text)) ∙ ap (λ xs. word (word_of (take j text)) ∷ xs) (sym (past text j l between));
  }
