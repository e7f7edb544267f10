-- Laws of white space, comments and brackets, byte by byte.
--     line_on, line_feed, line_return, line_past     a comment up to its line's end, as `blanks::line_end` goes over it
--     Skipping, on_space, on_other, comment_on       white space and comments, as `skip_blanks` goes over them
--     tail_from, skipped                             what is left behind them
--     opens_next, closes_next                        brackets
use Prim.Native.Nat.{ℕ, suc, ◌+◌, ◌-◌, ◌≤◌, ◌<◌}
use native.Mathlib.Omega.{arith}
use native.Mathlib.Numerals.{add-one}
use mathlib.Core.Path.{◌≡◌, refl, sym, ap, ◌∙◌}
use mathlib.Core.Bool.{Bool, true, false, cond, not, ◌&&◌, ◌||◌, false≢true}
use mathlib.Core.Logic.{◌⊎◌, inl, inr}
use mathlib.Core.List.{List, [], ◌∷◌, ◌++◌}
use lib.ListN.{length, get_or, drop, length-drop}
use lib.Seq.{drop-drop}
use lib.Dec.{eqb, leb}
use borrow.Author.Tests.{eqb-true, ne_eqb}
use Rattle.grammar.specs.Bytes.{Class, space, lineEnd, semicolon, opening, closing, digit, symbol, other, is_symbol, class_of}
use Rattle.grammar.specs.Grammar.{Lexeme, opens, closes, Mode, between, comment, bracket, ends, outside, onwards, last, lexemes_from}
use Rattle.lexing.specs.Lexes.{lexemes_of, lexemes_at, Tail}
use Rattle.lexing.proofs.SkipLaws.{step, past}
use Rattle.pass_tokens.specs.Tokens.{LineEnd, Blanks}

-- one byte of a known class
module _ (text : List ℕ) (j : ℕ) (l : j < length text) (m : Mode) (k : Class) where
  step_class : class_of (get_or text j 0) ≡ k → lexemes_from m (drop j text) ≡ ends m k ++ lexemes_from (onwards m (get_or text j 0) k) (drop (suc j) text)
  step_class e = step text j l m ∙ ap (λ c. ends m c ++ lexemes_from (onwards m (get_or text j 0) c) (drop (suc j) text)) e

-- ---- comments

-- 10 and 13 end a line, and no other byte
in_line : (x c : ℕ) → (c ≡ 10 → ⊥) → (c ≡ 13 → ⊥) → onwards comment x (class_of c) ≡ comment
unfolding class_of onwards
in_line x c a b = rw (ne_eqb c 10 a, ne_eqb c 13 b) (go (eqb c 9 || eqb c 32) (eqb c 59) (eqb c 40) (eqb c 41) (leb 48 c && leb c 57) (is_symbol c))
  where
    go : (p q r s t u : Bool)
        → onwards comment x (cond p space (cond q semicolon (cond r opening (cond s closing (cond t digit (cond u symbol other)))))) ≡ comment
    go true q r s t u = refl
    go false true r s t u = refl
    go false false true s t u = refl
    go false false false true t u = refl
    go false false false false true u = refl
    go false false false false false true = refl
    go false false false false false false = refl

-- the comment goes on up to j
pub record Commenting (text : List ℕ) (i j : ℕ) : Type 0 where
  pub after : i ≤ j
  pub inside : j ≤ length text
  pub same : lexemes_from comment (drop i text) ≡ lexemes_from comment (drop j text)

module _ (text : List ℕ) (i j : ℕ) (h : Commenting text i j) where
  module _ (l : j < length text) where
    pub line_on : (get_or text j 0 ≡ 10 → ⊥) → (get_or text j 0 ≡ 13 → ⊥) → Commenting text i (j + 1)
    unfolding ends
    line_on a b =
        rw (add-one j) (record {
          after = omega (arith, h.after);
          inside = l;
          same = h.same ∙ step text j l comment ∙ ap (λ m. lexemes_from m (drop (suc j) text)) (in_line (get_or text j 0) (get_or text j 0) a b);
        })

    line_ends : class_of (get_or text j 0) ≡ lineEnd → LineEnd text i j
    unfolding ends onwards bracket outside
    line_ends e = record {
      after = h.after;
      inside = h.inside;
      same = h.same ∙ step_class text j l comment lineEnd e ∙ sym (step_class text j l between lineEnd e);
    }

    pub line_feed : get_or text j 0 ≡ 10 → LineEnd text i j
    unfolding class_of
    line_feed e = line_ends (ap class_of e)

    pub line_return : get_or text j 0 ≡ 13 → LineEnd text i j
    unfolding class_of
    line_return e = line_ends (ap class_of e)

  pub line_past : length text ≤ j → LineEnd text i j
  unfolding last
  line_past l = record { after = h.after; inside = h.inside; same = h.same ∙ past text j l comment ∙ sym (past text j l between) }

-- ---- white space and comments

-- they stand from i up to j
pub record Skipping (text : List ℕ) (i j : ℕ) : Type 0 where
  pub after : i ≤ j
  pub inside : j ≤ length text
  pub same : lexemes_at text i ≡ lexemes_at text j

-- byte j stands behind what is left from byte i on
pub tail_from : (text : List ℕ) (i j : ℕ) → i ≤ j → j ≤ length text → Tail (drop i text) (drop j text)
tail_from text i j l k =
    let q : i + (j - i) ≡ j = omega arith in
    (j - i, omega (arith, length-drop i text), ap (λ (n : ℕ). drop n text) (sym q) ∙ sym (drop-drop (j - i) i text))

pub skipped : {text : List ℕ} {i j : ℕ} → Skipping text i j → Blanks (drop i text) (drop j text)
skipped {text} {i} {j} h = record {
  tail = tail_from text i j h.after h.inside;
  fewer = omega (arith, length-drop i text, length-drop j text, h.after);
  same = h.same;
}

module _ (text : List ℕ) (i j : ℕ) (h : Skipping text i j) (l : j < length text) where
  space_on : (k : Class) → (k ≡ space) ⊎ (k ≡ lineEnd) → class_of (get_or text j 0) ≡ k → Skipping text i (j + 1)
  unfolding ends onwards bracket outside
  space_on k s e =
      rw (add-one j) (record {
        after = omega (arith, h.after);
        inside = l;
        same = h.same ∙ step_class text j l between k e ∙ go s;
      })
    where
      go : (k ≡ space) ⊎ (k ≡ lineEnd) → ends between k ++ lexemes_from (onwards between (get_or text j 0) k) (drop (suc j) text) ≡ lexemes_at text (suc j)
      go (inl f) = rw f
      go (inr f) = rw f

  pub on_space : get_or text j 0 ≡ 32 → Skipping text i (j + 1)
  unfolding class_of
  on_space e = space_on space (inl refl) (ap class_of e)

  on_tab : get_or text j 0 ≡ 9 → Skipping text i (j + 1)
  unfolding class_of
  on_tab e = space_on space (inl refl) (ap class_of e)

  on_feed : get_or text j 0 ≡ 10 → Skipping text i (j + 1)
  unfolding class_of
  on_feed e = space_on lineEnd (inr refl) (ap class_of e)

  on_return : get_or text j 0 ≡ 13 → Skipping text i (j + 1)
  unfolding class_of
  on_return e = space_on lineEnd (inr refl) (ap class_of e)

  pub on_other : ((not (eqb (get_or text j 0) 10) && not (eqb (get_or text j 0) 13)) && not (eqb (get_or text j 0) 9)) ≡ false → Skipping text i (j + 1)
  on_other e = go (eqb (get_or text j 0) 10) (eqb (get_or text j 0) 13) (eqb (get_or text j 0) 9) refl refl refl e
    where
      go : (p q r : Bool) → eqb (get_or text j 0) 10 ≡ p → eqb (get_or text j 0) 13 ≡ q → eqb (get_or text j 0) 9 ≡ r → ((not p && not q) && not r) ≡ false
          → Skipping text i (j + 1)
      go true q r a b c f = on_feed (eqb-true (get_or text j 0) 10 a)
      go false true r a b c f = on_return (eqb-true (get_or text j 0) 13 b)
      go false false true a b c f = on_tab (eqb-true (get_or text j 0) 9 c)
      go false false false a b c f = absurd (false≢true (sym f))

  pub comment_on : (r : ℕ) → get_or text j 0 ≡ 59 → LineEnd text (j + 1) r → Skipping text i r
  unfolding ends onwards bracket outside class_of
  comment_on r e f = record {
    after = omega (arith, h.after, f.after);
    inside = f.inside;
    same = h.same ∙ step_class text j l between semicolon (ap class_of e) ∙ (rw (add-one j) at f.same);
  }

-- ---- brackets

-- a text whose first byte is not 0 has one
some_byte : (text : List ℕ) (c : ℕ) → get_or text 0 0 ≡ c → 0 < c → 0 < length text
some_byte [] c e p = absurd (omega (arith, e, p))
some_byte (x ∷ xs) c e p = omega arith

-- there is a byte, and behind it the others
pub record ByteNext (l : Lexeme) (text : List ℕ) : Type 0 where
  pub some : 0 < length text
  pub fewer : length (drop 1 text) < length text
  pub next : lexemes_of text ≡ l ∷ lexemes_of (drop 1 text)

pub opens_next : (text : List ℕ) → get_or text 0 0 ≡ 40 → ByteNext opens text
unfolding ends onwards bracket outside class_of
opens_next text e =
    let l = some_byte text 40 e (omega arith) in
    record { some = l; fewer = omega (arith, length-drop 1 text); next = step_class text 0 l between opening (ap class_of e) }

pub closes_next : (text : List ℕ) → get_or text 0 0 ≡ 41 → ByteNext closes text
unfolding ends onwards bracket outside class_of
closes_next text e =
    let l = some_byte text 41 e (omega arith) in
    record { some = l; fewer = omega (arith, length-drop 1 text); next = step_class text 0 l between closing (ap class_of e) }
