-- Words at the front of a text, what they name, and the sort of the formula there.
--     front_none, front_next, front_other                the lexeme at the front
--     no_name                                            no name
--     variable_is, symbol_is, variable_small             what a name names, by a count and by the bundle
--     variable_found, variable_other, variable_missing   the answers of `sorts::variable_at`
--     variable_in_is                                     the variable behind a bracket, by a count and by the bundle
--     result_named, result_none, result_other            the answers of `sorts::result_of`
--     sort_named, sort_none, sort_other                  the answers of `sorts::word_sort`
--     Sorting, sort_over to inside_let                   the sort, as `sorts::sort_at` goes over lets
use Prim.Native.Nat.{ℕ, zero, suc, ◌≤◌}
use native.Mathlib.Omega.{arith}
use mathlib.Core.Path.{◌≡◌, refl, sym, ap, ◌∙◌}
use mathlib.Core.Logic.{◌⊎◌, inl, inr}
use mathlib.Core.Bool.{Bool, true, false, cond, ◌&&◌}
use mathlib.Core.List.{List, [], ◌∷◌}
use lib.ListN.{length}
use lib.Dec.{leb}
use borrow.Author.Tests.{leb-true}
use Rattle.std.specs.Prelude.{Option, None, Some, IfSome}
use Rattle.bundle.specs.Bundle.{Bundle, sort_of_variable}
use Rattle.logic.specs.declared.Signature.{Signature}
use Rattle.logic.specs.Symbols.{symbol_kind, kind_of_symbol, signature, signature_of, result_sort}
use Rattle.logic.proofs.Tests.{and_right}
use Rattle.grammar.specs.Bytes as bytes
use Rattle.grammar.specs.Grammar as grammar
use Rattle.lexing.specs.Counted.{number_within, variable_among, symbol_among, Numbered}
use Rattle.lexing.specs.Lexes.{lexemes_of, Found, rest_of, Leaves}
use Rattle.lexing.specs.Words.{word_in, lexeme_in}
use Rattle.lexing.specs.declared.lexemes.Lexed.{Lexed}
use Rattle.lexing.specs.declared.lexemes.Lexeme.{Lexeme}
use Rattle.lexing.specs.declared.words.Word.{Word}
use Rattle.lexing.proofs.NumeralLaws.{counts_suffice}
use Rattle.reading.specs.Called.{number_after, variable_called, symbol_called}
use Rattle.reading.specs.Local.{alone_sort}
use Rattle.bracketing.specs.Brackets.{front_of, after_formula}
use Rattle.bracketing.specs.Nodes.{name_of, name_in, is_let, variable_in, word_sort, result_of, sort_from, sort_inside, sort_past}
use Rattle.bracketing.proofs.SortsOff.{sort_past_lem}

-- ---- the lexeme at the front

module _ (text : List ℕ) where
  pub front_next : (l : Lexed) → Found text l → front_of (lexemes_of text) ≡ lexeme_in l.lexeme
  unfolding front_of
  front_next l f = ap front_of f.next

  pub front_none : lexemes_of text ≡ [] → (w : bytes.Word) → front_of (lexemes_of text) ≡ grammar.word w → ⊥
  unfolding front_of
  front_none e w q = let z : grammar.stray ≡ grammar.word w = sym (ap front_of e) ∙ q in cc

  pub front_other : (l : Lexed) → Found text l → (l.lexeme ≡ Lexeme.Opens) ⊎ ((l.lexeme ≡ Lexeme.Closes) ⊎ (l.lexeme ≡ Lexeme.Stray))
      → (w : bytes.Word) → front_of (lexemes_of text) ≡ grammar.word w → ⊥
  front_other l f is w q =
      let e : lexeme_in l.lexeme ≡ grammar.word w = sym (front_next l f) ∙ q in
      elim is [
        | inl o ↦ let z : grammar.opens ≡ grammar.word w = sym (ap lexeme_in o) ∙ e in cc
        | inr other ↦
            elim other [
              | inl c ↦ let z : grammar.closes ≡ grammar.word w = sym (ap lexeme_in c) ∙ e in cc
              | inr t ↦ let z : grammar.stray ≡ grammar.word w = sym (ap lexeme_in t) ∙ e in cc
            ]
      ]

-- ---- words

pub no_name : (w : Word) → ((u : _) → w ≡ Word.Name u → ⊥) → name_of (word_in w) ≡ []
unfolding name_of
no_name (Word.Constant v) ne = refl
no_name Word.Negation ne = refl
no_name (Word.Connective c) ne = refl
no_name (Word.Quantifier q) ne = refl
no_name Word.Let ne = refl
no_name (Word.Sort t) ne = refl
no_name (Word.Name u) ne = absurd (ne u refl)

no_let : (w : Word) → (w ≡ Word.Let → ⊥) → is_let (word_in w) ≡ false
unfolding is_let
no_let (Word.Constant v) ne = refl
no_let Word.Negation ne = refl
no_let (Word.Connective c) ne = refl
no_let (Word.Quantifier q) ne = refl
no_let Word.Let ne = absurd (ne refl)
no_let (Word.Sort s) ne = refl
no_let (Word.Name w) ne = refl

-- a lexeme that is no word names nothing
nameless : (l : grammar.Lexeme) → ((w : bytes.Word) → l ≡ grammar.word w → ⊥) → name_in l ≡ []
unfolding name_in
nameless grammar.opens ne = refl
nameless grammar.closes ne = refl
nameless (grammar.word w) ne = absurd (ne w refl)
nameless grammar.stray ne = refl

-- ---- what a name names

-- a variable is one of those that there are
among_small : (variables : ℕ) (w : List ℕ) {x m : ℕ} → x ≡ variable_among variables w → variables ≤ m → x ≤ m
unfolding number_within
among_small variables w {x} {m} e l = rw e (go (leb 1 n && leb n variables) refl)
  where
    n : ℕ
    n = number_after 118 w

    go : (p : Bool) → (leb 1 n && leb n variables) ≡ p → cond p n 0 ≤ m
    go true e = omega (arith, leb-true n variables (and_right (leb 1 n) (leb n variables) e))
    go false e = omega arith

pub variable_small : {n m : ℕ} → n ≤ m → (w : List ℕ) (r : Option ℕ) → Numbered (variable_among n w) r → IfSome r (λ x. x ≤ m)
variable_small {n} l w None e = tt
variable_small {n} l w (Some x) e = among_small n w e.0 l

module _ (b : Bundle) (w : List ℕ) {n : ℕ} where
  pub variable_is : n ≡ length b.variables → variable_among n w ≡ variable_called b w
  variable_is e = ap (λ k. variable_among k w) e ∙ sym (counts_suffice b w).variable

  pub symbol_is : n ≡ length b.symbols → symbol_among n w ≡ symbol_called b w
  symbol_is e = ap (λ k. symbol_among k w) e ∙ sym (counts_suffice b w).symbol

-- no variable and no symbol has a name of no bytes
module _ (b : Bundle) where
  no_variable : variable_called b [] ≡ 0
  unfolding variable_called number_after
  no_variable = refl

  no_symbol : symbol_called b [] ≡ 0
  unfolding symbol_called number_after
  no_symbol = refl

-- ---- the variable behind a bracket

module _ (n : ℕ) {text rest : List ℕ} (there : Leaves text (rest_of (lexemes_of text)) rest) where
  abbrev front : grammar.Lexeme
  front = front_of (lexemes_of rest)

  abbrev behind : grammar.Lexeme
  behind = front_of (rest_of (lexemes_of text))

  named : variable_among n (name_in front) ≡ variable_among n (name_in behind)
  named = ap (λ ls. variable_among n (name_in (front_of ls))) there.lexemes

  none_among : variable_among n [] ≡ 0
  unfolding number_within number_after
  none_among = refl

  pub variable_found : (w : List ℕ) → front ≡ grammar.word (bytes.name w) → variable_among n w ≡ variable_among n (name_in behind)
  unfolding name_in
  variable_found w e = sym (ap (λ l. variable_among n (name_in l)) e) ∙ named

  pub variable_other : (w : Word) → ((u : _) → w ≡ Word.Name u → ⊥) → front ≡ grammar.word (word_in w) → variable_among n (name_in behind) ≡ 0
  unfolding name_in
  variable_other w ne e = sym named ∙ (ap (λ l. variable_among n (name_in l)) e ∙ (ap (variable_among n) (no_name w ne) ∙ none_among))

  pub variable_missing : ((w : bytes.Word) → front ≡ grammar.word w → ⊥) → variable_among n (name_in behind) ≡ 0
  variable_missing ne = sym named ∙ (ap (variable_among n) (nameless front ne) ∙ none_among)

-- the same by the bundle
pub variable_in_is : (b : Bundle) {n : ℕ} → n ≡ length b.variables → (ls : List grammar.Lexeme)
    → variable_among n (name_in (front_of (rest_of ls))) ≡ variable_in b ls
unfolding variable_in
variable_in_is b e ls = variable_is b (name_in (front_of (rest_of ls))) e

-- ---- the sort of a word

module _ (b : Bundle) where
  result_zero : 0 ≡ result_sort b (signature_of b 0)
  unfolding signature_of result_sort
  result_zero = refl

  pub result_named : (w : List ℕ) {n f r : ℕ} {s : Signature} → n ≡ length b.symbols → f ≡ symbol_among n w
      → s ≡ signature (symbol_kind (length b.symbols) f) → r ≡ result_sort b s → r ≡ result_of b (bytes.name w)
  unfolding result_of signature_of kind_of_symbol
  result_named w e is d g = g ∙ ap (result_sort b) (d ∙ ap (λ f. signature (symbol_kind (length b.symbols) f)) (is ∙ symbol_is b w e))

  pub result_none : (w : List ℕ) {n : ℕ} → n ≡ length b.symbols → symbol_among n w ≡ 0 → 0 ≡ result_of b (bytes.name w)
  unfolding result_of
  result_none w e is = result_zero ∙ ap (λ f. result_sort b (signature_of b f)) (sym is ∙ symbol_is b w e)

  pub result_other : (w : Word) → ((u : _) → w ≡ Word.Name u → ⊥) → 0 ≡ result_of b (word_in w)
  unfolding result_of
  result_other w ne = result_zero ∙ ap (λ f. result_sort b (signature_of b f)) (sym (ap (symbol_called b) (no_name w ne) ∙ no_symbol b))

  pub sort_named : (w : List ℕ) {n x r : ℕ} → n ≡ length b.variables → x ≡ variable_among n w → 1 ≤ variable_among n w → r ≡ sort_of_variable b x
      → r ≡ word_sort b (bytes.name w)
  unfolding word_sort alone_sort
  sort_named w {n} {x} {r} e is some g = go (variable_called b w) (is ∙ variable_is b w e)
    where
      go : (v : ℕ) → x ≡ v → r ≡ alone_sort b v (symbol_called b w)
      go zero q = absurd (omega (arith, some, is, q))
      go (suc v) q = g ∙ ap (sort_of_variable b) q

  -- where it names no variable
  sort_result : (w : bytes.Word) → variable_called b (name_of w) ≡ 0 → result_of b w ≡ word_sort b w
  unfolding word_sort result_of alone_sort
  sort_result w e = sym (ap (λ x. alone_sort b x (symbol_called b (name_of w))) e)

  pub sort_none : (w : List ℕ) {n : ℕ} → n ≡ length b.variables → variable_among n w ≡ 0 → result_of b (bytes.name w) ≡ word_sort b (bytes.name w)
  unfolding name_of
  sort_none w e is = sort_result (bytes.name w) (sym (variable_is b w e) ∙ is)

  pub sort_other : (w : Word) → ((u : _) → w ≡ Word.Name u → ⊥) → result_of b (word_in w) ≡ word_sort b (word_in w)
  sort_other w ne = sort_result (word_in w) (ap (variable_called b) (no_name w ne) ∙ no_variable b)

-- ---- the sort of a formula

-- the sort of the text's formula is that of the formula here
pub record Sorting (b : Bundle) (text rest : List ℕ) : Type 0 where
  pub same : sort_from b (lexemes_of rest) ≡ sort_from b (lexemes_of text)

module _ {b : Bundle} {text rest : List ℕ} (s : Sorting b text rest) where
  pub sort_over : lexemes_of rest ≡ [] → 0 ≡ sort_from b (lexemes_of text)
  unfolding sort_from
  sort_over e = sym (ap (sort_from b) e) ∙ s.same

  module _ {l : Lexed} (f : Found rest l) where
    sort_front : {x : Lexeme} → l.lexeme ≡ x → sort_from b (lexeme_in x ∷ lexemes_of l.rest.now) ≡ sort_from b (lexemes_of text)
    sort_front e = sym (ap (sort_from b) (f.next ∙ ap (λ x. lexeme_in x ∷ lexemes_of l.rest.now) e)) ∙ s.same

    pub sort_alone : {w : Word} → l.lexeme ≡ Lexeme.Word w → {r : ℕ} → r ≡ word_sort b (word_in w) → r ≡ sort_from b (lexemes_of text)
    unfolding sort_from
    sort_alone e h = h ∙ sort_front e

    pub sort_stops : (l.lexeme ≡ Lexeme.Closes) ⊎ (l.lexeme ≡ Lexeme.Stray) → 0 ≡ sort_from b (lexemes_of text)
    unfolding sort_from
    sort_stops is = elim is [ inl e ↦ sort_front e | inr e ↦ sort_front e ]

    module _ (o : l.lexeme ≡ Lexeme.Opens) where
      inside : sort_inside b (lexemes_of l.rest.now) ≡ sort_from b (lexemes_of text)
      unfolding sort_from
      inside = sort_front o

      pub inside_over : lexemes_of l.rest.now ≡ [] → 0 ≡ sort_from b (lexemes_of text)
      unfolding sort_from
      inside_over e = sym (ap (sort_inside b) e) ∙ inside

      module _ {h : Lexed} (g : Found l.rest.now h) where
        inside_front : {x : Lexeme} → h.lexeme ≡ x → sort_inside b (lexeme_in x ∷ lexemes_of h.rest.now) ≡ sort_from b (lexemes_of text)
        inside_front e = sym (ap (sort_inside b) (g.next ∙ ap (λ x. lexeme_in x ∷ lexemes_of h.rest.now) e)) ∙ inside

        pub inside_none : ((w : Word) → h.lexeme ≡ Lexeme.Word w → ⊥) → 0 ≡ sort_from b (lexemes_of text)
        unfolding sort_from
        inside_none ne = go h.lexeme refl
          where
            go : (x : Lexeme) → h.lexeme ≡ x → 0 ≡ sort_from b (lexemes_of text)
            go Lexeme.Opens e = inside_front e
            go Lexeme.Closes e = inside_front e
            go Lexeme.Stray e = inside_front e
            go (Lexeme.Word w) e = absurd (ne w e)

        module _ {w : Word} (e : h.lexeme ≡ Lexeme.Word w) where
          head : cond (is_let (word_in w)) (sort_past b 0 (lexemes_of h.rest.now)) (result_of b (word_in w)) ≡ sort_from b (lexemes_of text)
          unfolding sort_from
          head = inside_front e

          pub inside_result : (w ≡ Word.Let → ⊥) → {r : ℕ} → r ≡ result_of b (word_in w) → r ≡ sort_from b (lexemes_of text)
          inside_result ne q = q ∙ (sym (rw (no_let w ne)) ∙ head)

          pub inside_let : w ≡ Word.Let → {next : List ℕ} → Leaves h.rest.now (after_formula (lexemes_of h.rest.now)) next
              → Sorting b text next
          unfolding is_let
          inside_let q there = record {
            same = ap (sort_from b) there.lexemes ∙ (sym (sort_past_lem b 0 (lexemes_of h.rest.now)) ∙ (sym turned ∙ head));
          }
            where
              turned : cond (is_let (word_in w)) (sort_past b 0 (lexemes_of h.rest.now)) (result_of b (word_in w)) ≡ sort_past b 0 (lexemes_of h.rest.now)
              turned = rw q refl
