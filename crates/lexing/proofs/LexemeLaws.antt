-- Laws of the next lexeme.
--     word_small                                      the numbers of words
--     over, word_same, no_word, one_other, found_one, found      the answers of `lexemes::next_lexeme`: the text's end, a byte that is a lexeme
--     leaves_all, leaves_next                         those of `lexemes::after_lexeme`
use Prim.Native.Nat.{ℕ, ◌-◌, ◌≤◌, ◌<◌}
use native.Mathlib.Omega.{arith}
use mathlib.Core.Path.{◌≡◌, refl, sym, ap, ◌∙◌}
use mathlib.Core.Bool.{Bool, true, false, cond}
use mathlib.Core.List.{List, [], ◌∷◌, ◌++◌}
use lib.ListN.{length, get_or, take, drop, length-drop}
use lib.Dec.{eqb}
use Rattle.std.proofs.lemmas.List.{take-append-drop, length-take-le, take_rest}
use Rattle.grammar.specs.Bytes.{Class, space, lineEnd, semicolon, opening, closing, digit, symbol, other, Word, constant, negation, connective}
use Rattle.grammar.specs.Bytes.{quantifier, letting, sort, name, class_of, word_of}
use Rattle.grammar.specs.Grammar.{Lexeme, opens, closes, word, stray, between, bracket, ends, outside, onwards, last, lexemes_from}
use Rattle.lexing.specs.Codes.{word_code, class_code}
use Rattle.lexing.specs.Words.{class_in, lexeme_in}
use Rattle.lexing.specs.Lexes.{lexemes_of, Skipped, Found, rest_of, Leaves}
use Rattle.lexing.specs.declared.lexemes.Lexed.{Lexed}
use Rattle.lexing.specs.declared.runs.Class.{Class as Named}
use Rattle.lexing.proofs.Tails.{tail_self, tail_at, tail_after}
use Rattle.lexing.proofs.SkipLaws.{step}

pub word_small : (w : Word) → (3 ≤ word_code w) × (word_code w < 10)
unfolding word_code
word_small (constant v) = (omega arith, omega arith)
word_small negation = (omega arith, omega arith)
word_small (connective c) = (omega arith, omega arith)
word_small (quantifier q) = (omega arith, omega arith)
word_small letting = (omega arith, omega arith)
word_small (sort s) = (omega arith, omega arith)
word_small (name w) = (omega arith, omega arith)

-- what is left after white space and comments is empty
pub over : (text rest : List ℕ) → Skipped text rest → length rest ≡ 0 → lexemes_of text ≡ []
unfolding lexemes_from last
over text [] h e = h.same
over text (c ∷ rest) h e = absurd (omega (arith, e))

pub word_same : {v w : Word} → word v ≡ word w → v ≡ w
word_same e = cc

-- a byte that is a lexeme, by the number of its class
abbrev pub one_lexeme : ℕ → Lexeme
one_lexeme k = cond (eqb k 3) opens (cond (eqb k 4) closes stray)

pub no_word : (k : ℕ) (w : Word) → one_lexeme k ≡ word w → ⊥
no_word k w e = go (eqb k 3) (eqb k 4) e
  where
    go : (p q : Bool) → cond p opens (cond q closes stray) ≡ word w → ⊥
    go true q e = absurd (cc)
    go false true e = absurd (cc)
    go false false e = absurd (cc)

pub one_other : (k : Named) → (k ≡ Named.Opening → ⊥) → (k ≡ Named.Closing → ⊥) → stray ≡ one_lexeme (class_code (class_in k))
unfolding class_code
one_other Named.Space a b = refl
one_other Named.LineEnd a b = refl
one_other Named.Semicolon a b = refl
one_other Named.Opening a b = absurd (a refl)
one_other Named.Closing a b = absurd (b refl)
one_other Named.Digit a b = refl
one_other Named.Symbol a b = refl
one_other Named.Other a b = refl

module _ (text rest : List ℕ) (h : Skipped text rest) where
  pub found_one : 0 < length rest → (k : ℕ) → k ≡ class_code (class_of (get_or rest 0 0)) → (k ≡ 6 → ⊥)
      → lexemes_of text ≡ one_lexeme k ∷ lexemes_of (drop 1 rest)
  unfolding class_code ends onwards bracket outside
  found_one l k isClass ne = rw isClass (h.same ∙ step rest 0 l between ∙ go (class_of (get_or rest 0 0)) (h.starts l) (λ e. ne (isClass ∙ e)))
    where
      go : (x : Class) → 3 ≤ class_code x → (class_code x ≡ 6 → ⊥)
          → ends between x ++ lexemes_from (onwards between (get_or rest 0 0) x) (drop 1 rest) ≡ one_lexeme (class_code x) ∷ lexemes_of (drop 1 rest)
      go space a n = absurd (omega arith)
      go lineEnd a n = absurd (omega arith)
      go semicolon a n = absurd (omega arith)
      go opening a n = refl
      go closing a n = refl
      go digit a n = refl
      go symbol a n = absurd (n refl)
      go other a n = refl

  -- a lexeme that ends before byte e, where the others follow: a word is what stands up to there
  pub found : (l : Lexed) (e : ℕ) → 0 < e → e ≤ length rest → l.rest.now ≡ take (length rest - e) (drop e rest)
      → lexemes_of text ≡ lexeme_in l.lexeme ∷ lexemes_of (drop e rest)
      → ((w : Word) → lexeme_in l.lexeme ≡ word w → w ≡ word_of (take e rest)) → Found text l
  found l e some le is next spells =
      let same : l.rest.now ≡ drop e rest = is ∙ take_rest rest e in
      let few : length l.rest.now ≡ length rest - e = ap length same ∙ length-drop e rest in
      let whole : take e rest ++ l.rest.now ≡ rest = ap (λ r. take e rest ++ r) same ∙ take-append-drop e rest in
      record {
        next = next ∙ ap (λ ls. lexeme_in l.lexeme ∷ lexemes_of ls) (sym same);
        tail = tail_after h.tail (rw same (tail_at rest e le));
        run = λ w q. (take e rest, omega (arith, length-take-le e rest le), spells w q, rw whole h.tail);
        fewer = omega (arith, h.fewer, few);
      }

-- ---- behind the first lexeme

module _ (text : List ℕ) where
  pub leaves_all : lexemes_of text ≡ [] → Leaves text (rest_of (lexemes_of text)) text
  unfolding rest_of
  leaves_all e = record { lexemes = e ∙ sym (ap rest_of e); tail = tail_self text; fewer = omega arith; moves = λ ne. absurd (ne e) }

  pub leaves_next : (l : Lexed) → Found text l → Leaves text (rest_of (lexemes_of text)) l.rest.now
  unfolding rest_of
  leaves_next l f = record { lexemes = sym (ap rest_of f.next); tail = f.tail; fewer = omega (arith, f.fewer); moves = λ ne. f.fewer }
