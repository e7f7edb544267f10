-- No text has a word for a choice: each binder of a formula that a text spells is a quantifier.
--     Quantifies, QuantifiesInside, QuantifiesAll, QuantifiesBound     what is to hold of a formula and of its parts
--     reads_quantifiers     THE LAW
use Prim.Native.Nat.{ℕ}
use native.Mathlib.Omega.{arith}
use mathlib.Core.Path.{◌≡◌, ap, subst}
use mathlib.Core.Bool.{Bool, true, false, cond}
use mathlib.Core.List.{List, [], ◌∷◌, ◌++◌}
use Rattle.bundle.specs.Lists.{same_list}
use Rattle.logic.specs.Terms.{Binder, choice}
use Rattle.grammar.specs.Bytes.{Class, space, lineEnd, semicolon, opening, closing, digit, symbol, other, class_of, Word, quantifier, Reserved, twelve}
use Rattle.grammar.specs.Bytes.{word_among, word_of}
use Rattle.grammar.specs.Grammar.{SortedVariable, declares, Formula, called, truth, bracketed, Bracketed, denies, connects, applies, quantifies, lets}
use Rattle.grammar.specs.Grammar.{Formulas, no_formula, and_formula, Bindings, no_binding, and_binding, Lexeme, opens, closes, word, stray}
use Rattle.grammar.specs.Grammar.{spell_variable, spell_variables, spell, spell_bracketed, spell_formulas, spell_bindings, spelling}
use Rattle.grammar.specs.Grammar.{Mode, between, comment, within, bracket, ends, onwards, last, lexemes_from, lexemes, Reads}

clash : ◌≡◌ {A = ℕ} 0 1 → ⊥
clash z = omega arith

-- ---- the lexemes of a text

-- none of them is the word of a choice
abbrev Told : List Lexeme → Type 0
Told [] = Unit {0}
Told (l ∷ ls) = (l ≡ word (quantifier choice) → ⊥) × Told ls

told_append : (ls ms : List Lexeme) → Told ls → Told ms → Told (ls ++ ms)
told_append [] ms h k = k
told_append (l ∷ ls) ms h k = (h.0, told_append ls ms h.1 k)

abbrev NoneMeans : List Reserved → Type 0
NoneMeans [] = Unit {0}
NoneMeans (r ∷ rs) = (r.meaning ≡ quantifier choice → ⊥) × NoneMeans rs

among_none : (w : List ℕ) (rs : List Reserved) → NoneMeans rs → word_among w rs ≡ quantifier choice → ⊥
unfolding word_among
among_none w [] h e = clash cc
among_none w (r ∷ rs) h e = go (same_list w r.spelled) e (among_none w rs h.1)
  where
    go : (p : Bool) → cond p r.meaning (word_among w rs) ≡ quantifier choice → (word_among w rs ≡ quantifier choice → ⊥) → ⊥
    go true e later = h.0 e
    go false e later = later e

word_told : (w : List ℕ) → word (word_of w) ≡ word (quantifier choice) → ⊥
unfolding word_of twelve
word_told w e =
    among_none w twelve (
      λ e. clash cc,
      (
        λ e. clash cc,
        (
          λ e. clash cc,
          (
            λ e. clash cc,
            (
              λ e. clash cc,
              (
                λ e. clash cc,
                (λ e. clash cc, (λ e. clash cc, (λ e. clash cc, (λ e. clash cc, (λ e. clash cc, (λ e. clash cc, tt)))))),
              ),
            ),
          ),
        ),
      ),
    )
    cc

bracket_told : (k : Class) → Told (bracket k)
unfolding bracket
bracket_told space = tt
bracket_told lineEnd = tt
bracket_told semicolon = tt
bracket_told opening = (λ e. clash cc, tt)
bracket_told closing = (λ e. clash cc, tt)
bracket_told digit = (λ e. clash cc, tt)
bracket_told symbol = tt
bracket_told other = (λ e. clash cc, tt)

ends_told : (m : Mode) (k : Class) → Told (ends m k)
unfolding ends
ends_told between k = bracket_told k
ends_told comment k = tt
ends_told (within w) space = (word_told w, bracket_told space)
ends_told (within w) lineEnd = (word_told w, bracket_told lineEnd)
ends_told (within w) semicolon = (word_told w, bracket_told semicolon)
ends_told (within w) opening = (word_told w, bracket_told opening)
ends_told (within w) closing = (word_told w, bracket_told closing)
ends_told (within w) digit = tt
ends_told (within w) symbol = tt
ends_told (within w) other = (word_told w, bracket_told other)

lexemes_told : (m : Mode) (text : List ℕ) → Told (lexemes_from m text)
unfolding lexemes_from last
lexemes_told between [] = tt
lexemes_told comment [] = tt
lexemes_told (within w) [] = (word_told w, tt)
lexemes_told m (c ∷ cs) =
    told_append (ends m (class_of c)) (lexemes_from (onwards m c (class_of c)) cs) (ends_told m (class_of c)) (lexemes_told (onwards m c (class_of c)) cs)

-- ---- formulas

-- none of their binders is a choice
abbrev mutual
  pub Quantifies : Formula → Type 0
  Quantifies (called w) = Unit {0}
  Quantifies (truth v) = Unit {0}
  Quantifies (bracketed φ) = QuantifiesInside φ

  pub QuantifiesInside : Bracketed → Type 0
  QuantifiesInside (denies φ) = Quantifies φ
  QuantifiesInside (connects c φ ψ) = Quantifies φ × Quantifies ψ
  QuantifiesInside (applies f φ φs) = Quantifies φ × QuantifiesAll φs
  QuantifiesInside (quantifies q x xs φ) = (q ≡ choice → ⊥) × Quantifies φ
  QuantifiesInside (lets x φ xs ψ) = Quantifies φ × QuantifiesBound xs × Quantifies ψ

  pub QuantifiesAll : Formulas → Type 0
  QuantifiesAll no_formula = Unit {0}
  QuantifiesAll (and_formula φ φs) = Quantifies φ × QuantifiesAll φs

  pub QuantifiesBound : Bindings → Type 0
  QuantifiesBound no_binding = Unit {0}
  QuantifiesBound (and_binding x φ xs) = Quantifies φ × QuantifiesBound xs

after_variable : (x : SortedVariable) (rest : List Lexeme) → Told (spell_variable x rest) → Told rest
unfolding spell_variable
after_variable (declares x s) rest h = h.1.1.1.1

after_variables : (xs : List SortedVariable) (rest : List Lexeme) → Told (spell_variables xs rest) → Told rest
unfolding spell_variables
after_variables [] rest h = h.1
after_variables (x ∷ xs) rest h = after_variables xs rest (after_variable x (spell_variables xs rest) h)

mutual
  unfolding spell

  told_quantifies : (φ : Formula) (rest : List Lexeme) → Told (spell φ rest) → Quantifies φ × Told rest
  told_quantifies (called w) rest h = (tt, h.1)
  told_quantifies (truth v) rest h = (tt, h.1)
  told_quantifies (bracketed φ) rest h = told_inside φ rest h.1

  told_inside : (φ : Bracketed) (rest : List Lexeme) → Told (spell_bracketed φ rest) → QuantifiesInside φ × Told rest
  told_inside (denies φ) rest h = let (p, k) = told_quantifies φ (closes ∷ rest) h.1 in (p, k.1)
  told_inside (connects c φ ψ) rest h =
      let (p, k) = told_quantifies φ (spell ψ (closes ∷ rest)) h.1 in
      let (o, l) = told_quantifies ψ (closes ∷ rest) k in
      ((p, o), l.1)
  told_inside (applies f φ φs) rest h =
      let (p, k) = told_quantifies φ (spell_formulas φs rest) h.1 in
      let (o, l) = told_all φs rest k in
      ((p, o), l)
  told_inside (quantifies q x xs φ) rest h =
      let inner = spell φ (closes ∷ rest) in
      let k = after_variables xs inner (after_variable x (spell_variables xs inner) h.1.1) in
      let (p, l) = told_quantifies φ (closes ∷ rest) k in
      ((λ e. h.0 (ap (λ (o : Binder). word (quantifier o)) e), p), l.1)
  told_inside (lets x φ xs ψ) rest h =
      let (p, k) = told_quantifies φ (closes ∷ spell_bindings xs (spell ψ (closes ∷ rest))) h.1.1.1.1 in
      let (o, l) = told_bound xs (spell ψ (closes ∷ rest)) k.1 in
      let (q, m) = told_quantifies ψ (closes ∷ rest) l in
      ((p, o, q), m.1)

  told_all : (φs : Formulas) (rest : List Lexeme) → Told (spell_formulas φs rest) → QuantifiesAll φs × Told rest
  told_all no_formula rest h = (tt, h.1)
  told_all (and_formula φ φs) rest h =
      let (p, k) = told_quantifies φ (spell_formulas φs rest) h in
      let (o, l) = told_all φs rest k in
      ((p, o), l)

  told_bound : (xs : Bindings) (rest : List Lexeme) → Told (spell_bindings xs rest) → QuantifiesBound xs × Told rest
  told_bound no_binding rest h = (tt, h.1)
  told_bound (and_binding x φ xs) rest h =
      let (p, k) = told_quantifies φ (closes ∷ spell_bindings xs rest) h.1.1 in
      let (o, l) = told_bound xs rest k.1 in
      ((p, o), l)

pub reads_quantifiers : (text : List ℕ) (φ : Formula) → Reads text φ → Quantifies φ
unfolding lexemes spelling
reads_quantifiers text φ e = (told_quantifies φ [] (subst Told e (lexemes_told between text))).0
