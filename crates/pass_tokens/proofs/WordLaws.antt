-- The answers of `words::reserved_at`, `words::word_at` and `Text::word`.
--     word_true, word_false, ..          one of the twelve words; twelve_words: all of these
--     word_variable, word_name           a variable; a declared symbol
--     word_next                          the word at a byte, as that which stands next
use Prim.Native.Nat.{ℕ, zero, suc, ◌+◌, ◌-◌, ◌≤◌, ◌<◌}
use native.Mathlib.Omega.{arith}
use native.Mathlib.Numerals.{add-one}
use mathlib.Core.Path.{◌≡◌, refl, ap, ◌∙◌}
use mathlib.Core.Bool.{true, false, not, ◌||◌, false≢true}
use mathlib.Core.List.{List, [], ◌∷◌}
use lib.ListN.{length, get_or, drop, length-drop}
use lib.Dec.{eqb, leb}
use borrow.Author.Tests.{leb-true, le-leb, ne_eqb}
use Rattle.std.specs.Prelude.{Option}
use Rattle.std.proofs.lemmas.Option.{IfSome_then}
use Rattle.std.proofs.lemmas.Bool.{and_from}
use Rattle.bundle.specs.Limits.{limits}
use Rattle.bundle.specs.Lists.{each, same_list}
use Rattle.logic.specs.Tests.{up_to}
use Rattle.logic.specs.declared.kinds.Binder.TheVariants.{ForAll, Exists}
use Rattle.logic.proofs.Tests.{up_to_lem, and_left, and_right}
use Rattle.grammar.specs.Bytes.{Word, conjunction, disjunction, implication, equality, constant, negation, connective}
use Rattle.grammar.specs.Bytes.{name, bytes, class_of, twelve, word_of}
use Rattle.grammar.specs.Grammar.{word}
use Rattle.reading.specs.Called.{decimal, is_digit, is_numeral, number_after}
use Rattle.lexing.specs.Codes.{class_code}
use Rattle.lexing.specs.Counted.{number_within}
use Rattle.lexing.specs.Lexes.{part, lexemes_at}
use Rattle.lexing.specs.declared.words.SortWord.TheVariants.{Bool, Item}
use Rattle.heads.specs.HeadSymbols.{symbol_for}
use Rattle.heads.proofs.WordCases.{word_cases}
use Rattle.pass_tokens.specs.declared.Meaning.{Meaning}
use Rattle.pass_tokens.specs.declared.Meaning.TheVariants.{Variable, Symbol, Binder, Let, Sort}
use Rattle.pass_tokens.specs.declared.words.Token.{Token}
use Rattle.pass_tokens.specs.declared.words.Digits.{Digits}
use Rattle.pass_tokens.specs.Tokens.{goes_on, equal_on, RunStops, DigitsTo, WordIf, Means, TokenTo, WordAt, WordTo}
use Rattle.pass_tokens.proofs.BlankLaws.{tail_from}
use Rattle.pass_tokens.proofs.RunLaws.{is_run, run_stands, part_cons}

-- ---- the twelve words

module _ (symbols variables : ℕ) (text : List ℕ) (s : ℕ) where
  -- the word w, which means m
  said : (w : List ℕ) (m : Meaning) → is_run w ≡ true → 0 < length w
      → (lexemes_at text s ≡ word (word_of w) ∷ lexemes_at text (s + length w) → Means symbols variables (drop s text) (drop (s + length w) text) m) → (r : Option Token)
      → WordIf text s w m r → WordAt symbols variables text s r
  said w m run some means r h =
      IfSome_then r h (λ t p.
      rw p.1 (record {
        further = omega arith;
        inside = p.0.inside;
        means = means (run_stands text s (s + length w) w (omega arith) p.0.inside p.0.spelled run p.0.stops);
      }))

  pub word_true : (r : Option Token) → WordIf text s (bytes "true") (Symbol 1) r → WordAt symbols variables text s r
  unfolding bytes each class_code class_of word_of same_list symbol_for
  word_true = said (bytes "true") (Symbol 1) refl (omega arith) (λ l. (omega arith, (constant true, l, λ t o. refl, λ z. omega arith)))

  pub word_false : (r : Option Token) → WordIf text s (bytes "false") (Symbol 2) r → WordAt symbols variables text s r
  unfolding bytes each class_code class_of word_of same_list symbol_for
  word_false = said (bytes "false") (Symbol 2) refl (omega arith) (λ l. (omega arith, (constant false, l, λ t o. refl, λ z. omega arith)))

  pub word_not : (r : Option Token) → WordIf text s (bytes "not") (Symbol 3) r → WordAt symbols variables text s r
  unfolding bytes each class_code class_of word_of same_list symbol_for
  word_not = said (bytes "not") (Symbol 3) refl (omega arith) (λ l. (omega arith, (negation, l, λ t o. refl, λ z. omega arith)))

  pub word_and : (r : Option Token) → WordIf text s (bytes "and") (Symbol 4) r → WordAt symbols variables text s r
  unfolding bytes each class_code class_of word_of same_list symbol_for
  word_and = said (bytes "and") (Symbol 4) refl (omega arith) (λ l. (omega arith, (connective conjunction, l, λ t o. refl, λ z. omega arith)))

  pub word_or : (r : Option Token) → WordIf text s (bytes "or") (Symbol 5) r → WordAt symbols variables text s r
  unfolding bytes each class_code class_of word_of same_list symbol_for
  word_or = said (bytes "or") (Symbol 5) refl (omega arith) (λ l. (omega arith, (connective disjunction, l, λ t o. refl, λ z. omega arith)))

  pub word_implies : (r : Option Token) → WordIf text s (bytes "=>") (Symbol 6) r → WordAt symbols variables text s r
  unfolding bytes each class_code class_of word_of same_list symbol_for
  word_implies = said (bytes "=>") (Symbol 6) refl (omega arith) (λ l. (omega arith, (connective implication, l, λ t o. refl, λ z. omega arith)))

  equal : (t : ℕ) → t ≤ 1 → symbol_for symbols (connective equality) t ≡ equal_on 7 t
  unfolding symbol_for
  equal zero o = refl
  equal (suc zero) o = refl
  equal (suc (suc t)) o = absurd (omega arith)

  pub word_equals : (r : Option Token) → WordIf text s (bytes "=") (Symbol 7) r → WordAt symbols variables text s r
  unfolding bytes each class_code class_of word_of same_list
  word_equals = said (bytes "=") (Symbol 7) refl (omega arith) (λ l. (omega arith, (connective equality, l, equal, λ z. omega arith)))

  pub word_forall : (r : Option Token) → WordIf text s (bytes "forall") (Binder ForAll) r → WordAt symbols variables text s r
  unfolding bytes each class_code class_of word_of same_list
  word_forall = said (bytes "forall") (Binder ForAll) refl (omega arith) (λ l. l)

  pub word_exists : (r : Option Token) → WordIf text s (bytes "exists") (Binder Exists) r → WordAt symbols variables text s r
  unfolding bytes each class_code class_of word_of same_list
  word_exists = said (bytes "exists") (Binder Exists) refl (omega arith) (λ l. l)

  pub word_let : (r : Option Token) → WordIf text s (bytes "let") Let r → WordAt symbols variables text s r
  unfolding bytes each class_code class_of word_of same_list
  word_let = said (bytes "let") Let refl (omega arith) (λ l. l)

  pub word_bool : (r : Option Token) → WordIf text s (bytes "Bool") (Sort Bool) r → WordAt symbols variables text s r
  unfolding bytes each class_code class_of word_of same_list
  word_bool = said (bytes "Bool") (Sort Bool) refl (omega arith) (λ l. l)

  pub word_item : (r : Option Token) → WordIf text s (bytes "Item") (Sort Item) r → WordAt symbols variables text s r
  unfolding bytes each class_code class_of word_of same_list
  word_item = said (bytes "Item") (Sort Item) refl (omega arith) (λ l. l)

-- each of them, where it stands
pub ruleset twelve_words = (word_true, word_false, word_not, word_and, word_or, word_implies, word_equals, word_forall, word_exists, word_let, word_bool, word_item)

-- ---- a letter and a numeral

-- none of the twelve words is one
numeral_name : (w : List ℕ) → is_numeral (drop 1 w) ≡ true → word_of w ≡ name w
unfolding twelve bytes is_numeral
numeral_name w =
    word_cases (λ w m. is_numeral (drop 1 w) ≡ true → m ≡ name w) w (λ e. refl)
    (off, (off, (off, (off, (off, (off, (off, (off, (off, (off, (off, (off, tt))))))))))))
  where
    off : {m : Word} {w : List ℕ} → false ≡ true → m ≡ name w
    off e = absurd (false≢true e)

digit_table : up_to 58 (λ b. not (is_digit (b - 1)) || goes_on (b - 1)) ≡ true
unfolding up_to class_code class_of
digit_table = refl

digit_goes : (c : ℕ) → is_digit c ≡ true → goes_on c ≡ true
digit_goes c e =
    let l = leb-true c 57 (and_right (leb 48 c) (leb c 57) e) in
    let h = up_to_lem 58 (λ b. not (is_digit (b - 1)) || goes_on (b - 1)) digit_table (suc c) (omega arith) (omega arith) in
    let q : suc c - 1 ≡ c = omega arith in
    rw (q, e) at h

digits_go : (ds : List ℕ) → each is_digit ds ≡ true → each goes_on ds ≡ true
unfolding each
digits_go [] h = refl
digits_go (d ∷ ds) h =
    and_from (goes_on d) (each goes_on ds) (digit_goes d (and_left (is_digit d) (each is_digit ds) h)) (digits_go ds (and_right (is_digit d) (each is_digit ds) h))

numeral_digits : (ds : List ℕ) → is_numeral ds ≡ true → each is_digit ds ≡ true
unfolding is_numeral
numeral_digits [] h = refl
numeral_digits (d ∷ ds) h = and_right (not (eqb d 48)) (each is_digit (d ∷ ds)) h

module _ (text : List ℕ) (s high : ℕ) (n : Digits) (h : DigitsTo text (s + 1) high n) (i : s < length text) (stop : RunStops text n.end) where
  spelt : part text s n.end ≡ get_or text s 0 ∷ part text (s + 1) n.end
  spelt = rw (add-one s) (part_cons text s n.end (omega (arith, h.after)) i)

  named : (c : ℕ) → get_or text s 0 ≡ c → eqb (class_code (class_of c)) 6 ≡ true
      → lexemes_at text s ≡ word (name (c ∷ part text (s + 1) n.end)) ∷ lexemes_at text n.end
  named c e k =
      let w = c ∷ part text (s + 1) n.end in
      let r : is_run w ≡ true =
      and_from (eqb (class_code (class_of c)) 6) (each goes_on (part text (s + 1) n.end)) k
      (digits_go (part text (s + 1) n.end) (numeral_digits (part text (s + 1) n.end) h.numeral)) in
      run_stands text s n.end w (omega (arith, h.after)) h.inside (spelt ∙ ap (λ c. c ∷ part text (s + 1) n.end) e) r stop
      ∙ ap (λ m. word m ∷ lexemes_at text n.end) (numeral_name w h.numeral)

-- the number after its letter
within_is : (letter low high : ℕ) (ds : List ℕ) (n : ℕ) → eqb letter letter ≡ true → is_numeral ds ≡ true → decimal 0 ds ≡ n → low ≤ n → n ≤ high
    → number_within letter low high (letter ∷ ds) ≡ n
unfolding number_within number_after
within_is letter low high ds n k e v a b = rw (k, e, v, le-leb low n a, le-leb n high b)

module _ (symbols variables : ℕ) (text : List ℕ) (s : ℕ) (n : Digits) (i : s < length text) (stop : RunStops text n.end) where
  pub word_variable : get_or text s 0 ≡ 118 → DigitsTo text (s + 1) variables n → variables ≤ limits.variables
      → TokenTo symbols variables text s (record { meaning = Variable n.value; end = n.end })
  unfolding class_code class_of
  word_variable c h l =
      let ds = part text (s + 1) n.end in
      let some : 1 ≤ n.value = omega (arith, h.some) in
      record {
        further = omega (arith, h.after);
        inside = h.inside;
        means = (
          omega (arith, h.most),
          (118 ∷ ds, named text s variables n h i stop 118 c refl, within_is 118 1 variables ds n.value refl h.numeral h.value some h.most, h.some),
        );
      }

  pub word_name : get_or text s 0 ≡ 102 → DigitsTo text (s + 1) (32 + symbols) n → symbols ≤ limits.symbols → 32 < n.value
      → TokenTo symbols variables text s (record { meaning = Symbol n.value; end = n.end })
  unfolding class_code class_of symbol_for
  word_name c h l low =
      let ds = part text (s + 1) n.end in
      record {
        further = omega (arith, h.after);
        inside = h.inside;
        means = (
          omega (arith, h.most),
          (
            name (102 ∷ ds),
            named text s (32 + symbols) n h i stop 102 c refl,
            λ t o. within_is 102 33 (32 + symbols) ds n.value refl h.numeral h.value low h.most ∙ other t,
            h.some,
          ),
        );
      }
    where
      other : (t : ℕ) → n.value ≡ equal_on n.value t
      other t = let seven : n.value ≡ 7 → ⊥ = λ x. omega arith in rw (ne_eqb n.value 7 seven)

-- ---- the word that stands next

pub word_next : {symbols variables : ℕ} {text : List ℕ} {i : ℕ} {t : Token} → TokenTo symbols variables text i t
    → WordTo symbols variables (drop i text) (drop t.end text) t.meaning
word_next {text = text} {i = i} {t = t} h = record {
  tail = tail_from text i t.end (omega (arith, h.further)) h.inside;
  fewer = omega (arith, length-drop i text, length-drop t.end text, h.further, h.inside);
  means = h.means;
}
