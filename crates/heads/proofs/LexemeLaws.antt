-- The next lexeme of a text whose lexemes are known.
--     next_is, none_next, behind              the lexeme that is found, and what follows; or there is none
--     spell_arguments, spell_pairs            parts are spelled as the arguments and the pairs that they are
--     alone_at, bracket_at, none_at, over_at  heads
--     no_head                                 where no head is found, no formula is spelled
--     application_at, quantifier_at, let_at, no_word_at, over_inside     heads behind an opening bracket
--     other_lexeme, other_than_opens, other_than_closes                  a lexeme of the code that is not one is none of the grammar
--     name_on                                 a name
--     variable_ends, variable_over, variable_goes                        the variables of a quantifier
--     part_ends, part_over, argument_goes, pair_goes                     parts
--     after_part_lem, no_part_end             behind a part
use Prim.Native.Nat.{ℕ, ◌≤◌, ◌<◌}
use native.Mathlib.Omega.{arith}
use mathlib.Core.Path.{◌≡◌, refl, sym, ap, ◌∙◌, subst}
use mathlib.Core.Bool.{Bool, true, false, true≢false}
use mathlib.Core.List.{List, [], ◌∷◌}
use lib.ListN.{length}
use Rattle.std.specs.Prelude.{Option, Some, None, IfSome, unwrap_or}
use Rattle.bundle.specs.Limits.{limits}
use Rattle.logic.specs.Terms.{Binder}
use Rattle.logic.specs.declared.kinds.Binder.{Binder as BinderName}
use Rattle.grammar.specs.Bytes.{constant, negation, connective, quantifier, letting, name}
use Rattle.grammar.specs.Grammar.{SortedVariable, declares, Formula, called, truth, bracketed, Bracketed, denies, connects, applies, quantifies, lets}
use Rattle.grammar.specs.Grammar.{Formulas, no_formula, and_formula, Bindings, no_binding, and_binding, Lexeme, opens, closes, word}
use Rattle.grammar.specs.Grammar.{spell, spell_bracketed, spell_variable, spell_variables, spell_formulas, spell_bindings}
use Rattle.lexing.specs.Counted.{Numbered}
use Rattle.lexing.specs.Words.{word_in, lexeme_in}
use Rattle.lexing.specs.Lexes.{lexemes_of, Tail, Stands, Found, rest_of, Leaves}
use Rattle.lexing.specs.declared.lexemes.Lexed.{Lexed}
use Rattle.lexing.specs.declared.lexemes.Lexeme.{Lexeme as Read}
use Rattle.lexing.specs.declared.words.Word.{Word}
use Rattle.lexing.proofs.Tails.{tail_self, tail_after}
use Rattle.lexing.proofs.NumeralLaws.{numbered_or}
use Rattle.lexing.proofs.LexemeLaws.{word_same}
use Rattle.heads.specs.declared.Head.{Head}
use Rattle.heads.specs.declared.Headed.{Headed}
use Rattle.heads.specs.declared.Item.{Item}
use Rattle.heads.specs.HeadSymbols.{variable_for}
use Rattle.heads.proofs.WordNumbers.{variable_le}
use Rattle.heads.specs.Places as P
use Rattle.heads.specs.Places.{Part, after_part, spell_parts, arguments, pairs, Opening, head_in, HeadStands, Starts, HeadInside, HeadOf, HeadAt, BracketedAt}
use Rattle.heads.specs.Places.{ListedAt, VariableOf, PartOf, ItemAt, NamedAt, VariableAt, PartAt, PartEnd}

-- ---- the next lexeme

pub none_next : {ls' : List Lexeme} {l : Lexeme} {ls : List Lexeme} → ls' ≡ [] → ls' ≡ l ∷ ls → ⊥
none_next over e = let z : ◌≡◌ {A = ℕ} 0 1 = cc in omega arith

pub record NextIs (r : Lexed) (l : Lexeme) (ls : List Lexeme) : Type 0 where
  pub lexeme : lexeme_in r.lexeme ≡ l
  pub after : lexemes_of r.rest.now ≡ ls

pub next_is : {text : List ℕ} {r : Lexed} → Found text r → (l : Lexeme) (ls : List Lexeme) → lexemes_of text ≡ l ∷ ls → NextIs r l ls
next_is {text} {r} f l ls e =
    let same : lexeme_in r.lexeme ∷ lexemes_of r.rest.now ≡ l ∷ ls = sym f.next ∙ e in
    record { lexeme = heads same; after = tails same }
  where
    heads : {l l' : Lexeme} {ls ls' : List Lexeme} → l ∷ ls ≡ l' ∷ ls' → l ≡ l'
    heads e = cc

    tails : {l l' : Lexeme} {ls ls' : List Lexeme} → l ∷ ls ≡ l' ∷ ls' → ls ≡ ls'
    tails e = cc

pub behind : {text rest : List ℕ} → Leaves text (rest_of (lexemes_of text)) rest → {l : Lexeme} {ls : List Lexeme} → lexemes_of text ≡ l ∷ ls
    → lexemes_of rest ≡ ls
unfolding rest_of
behind there e = there.lexemes ∙ ap rest_of e

no_word : {w : _} → word w ≡ opens → ⊥
no_word e = let z : ◌≡◌ {A = Bool} true false = cc in true≢false z

-- ---- parts are spelled as what they are

pub spell_arguments : (φs : Formulas) (rest : List Lexeme) → spell_formulas φs rest ≡ spell_parts false (arguments φs) rest
unfolding spell spell_parts arguments
spell_arguments no_formula rest = refl
spell_arguments (and_formula φ φs) rest = ap (spell φ) (spell_arguments φs rest)

pub spell_pairs : (xs : Bindings) (rest : List Lexeme) → spell_bindings xs rest ≡ spell_parts true (pairs xs) rest
unfolding spell spell_parts pairs
spell_pairs no_binding rest = refl
spell_pairs (and_binding x φ xs) rest =
    ap (λ (ls : List Lexeme). opens ∷ word (name x) ∷ spell φ (closes ∷ ls)) (spell_pairs xs rest)

-- ---- heads

-- what stands in what is left of a text stands in the text
stands_behind : {a b : List ℕ} {w : _} {rest : List ℕ} → Tail a b → Stands b w rest → Stands a w rest
stands_behind t (run, some, is, u) = (run, some, is, tail_after t u)

head_behind : {a b : List ℕ} (k : Opening) (rest : List ℕ) → Tail a b → HeadStands b k rest → HeadStands a k rest
head_behind (P.alone w) rest t s = stands_behind t s
head_behind (P.application w) rest t s = stands_behind t s
head_behind (P.quantifying q) rest t (inside, s, u) = (inside, stands_behind t s, u)
head_behind P.binding rest t (inside, s, u) = (inside, stands_behind t s, u)

module _ {text : List ℕ} {first : Lexed} (h : Found text first) where
  pub alone_at : (w : Word) → lexeme_in first.lexeme ≡ word (word_in w) → HeadAt text (Some (record { head = Head.Alone w; rest = first.rest }))
  unfolding spell
  alone_at w is = record { tail = h.tail; run = h.run (word_in w) is; fewer = h.fewer; means = means }
    where
      means : (φ : Formula) (rest : List Lexeme) → lexemes_of text ≡ spell φ rest → HeadOf (Some (record { head = Head.Alone w; rest = first.rest })) φ rest
      means (called v) rest e = let k = next_is h (word (name v)) rest e in (ap P.alone (word_same (sym is ∙ k.lexeme)), k.after)
      means (truth v) rest e = let k = next_is h (word (constant v)) rest e in (ap P.alone (word_same (sym is ∙ k.lexeme)), k.after)
      means (bracketed φ) rest e = absurd (no_word (sym is ∙ (next_is h opens (spell_bracketed φ rest) e).lexeme))

  pub bracket_at : {r : Option Headed} → lexeme_in first.lexeme ≡ opens → BracketedAt first.rest.now r → HeadAt text r
  unfolding spell
  bracket_at {r} is b = record { tail = tail r b.tail; run = run r b.run; fewer = fewer r b.fewer; means = means }
    where
      tail : (r : Option Headed) → IfSome r (λ x. Tail first.rest.now x.rest.now) → IfSome r (λ x. Tail text x.rest.now)
      tail None t = tt
      tail (Some x) t = tail_after h.tail t

      run : (r : Option Headed) → IfSome r (λ x. HeadStands first.rest.now (head_in x.head) x.rest.now)
          → IfSome r (λ x. HeadStands text (head_in x.head) x.rest.now)
      run None s = tt
      run (Some x) s = head_behind (head_in x.head) x.rest.now h.tail s

      fewer : (r : Option Headed) → IfSome r (λ x. length x.rest.now < length first.rest.now) → IfSome r (λ x. length x.rest.now < length text)
      fewer None l = tt
      fewer (Some x) l = omega (arith, l, h.fewer)

      means : (φ : Formula) (rest : List Lexeme) → lexemes_of text ≡ spell φ rest → HeadOf r φ rest
      means (called v) rest e = absurd (no_word (sym (next_is h (word (name v)) rest e).lexeme ∙ is))
      means (truth v) rest e = absurd (no_word (sym (next_is h (word (constant v)) rest e).lexeme ∙ is))
      means (bracketed φ) rest e = b.means φ rest (next_is h opens (spell_bracketed φ rest) e).after

  -- no formula starts with another lexeme
  pub none_at : (l : Lexeme) → lexeme_in first.lexeme ≡ l → (l ≡ opens → ⊥) → ((w : _) → l ≡ word w → ⊥) → HeadAt text None
  unfolding spell
  none_at l is other noWord = record { tail = tt; run = tt; fewer = tt; means = means }
    where
      means : (φ : Formula) (rest : List Lexeme) → lexemes_of text ≡ spell φ rest → HeadOf None φ rest
      means (called v) rest e = noWord (name v) (sym is ∙ (next_is h (word (name v)) rest e).lexeme)
      means (truth v) rest e = noWord (constant v) (sym is ∙ (next_is h (word (constant v)) rest e).lexeme)
      means (bracketed φ) rest e = absurd (other (sym is ∙ (next_is h opens (spell_bracketed φ rest) e).lexeme))

pub over_at : {text : List ℕ} → lexemes_of text ≡ [] → HeadAt text None
unfolding spell
over_at {text} over = record { tail = tt; run = tt; fewer = tt; means = means }
  where
    means : (φ : Formula) (rest : List Lexeme) → lexemes_of text ≡ spell φ rest → HeadOf None φ rest
    means (called v) rest e = none_next over e
    means (truth v) rest e = none_next over e
    means (bracketed φ) rest e = absurd (none_next over e)

pub no_head : {text : List ℕ} → HeadAt text None → (φ : Formula) (rest : List Lexeme) → lexemes_of text ≡ spell φ rest → ⊥
no_head at (called w) rest e = at.means (called w) rest e
no_head at (truth v) rest e = at.means (truth v) rest e
no_head at (bracketed φ) rest e = inside φ (at.means (bracketed φ) rest e)
  where
    inside : (φ : Bracketed) → HeadInside None φ rest → ⊥
    inside (denies φ) x = x
    inside (connects c φ ψ) x = x
    inside (applies f φ φs) x = x
    inside (quantifies q x xs φ) y = y
    inside (lets x φ xs ψ) y = y

-- ---- heads behind an opening bracket

-- the word of the code is what it stands for
is_quantifier : (w : Word) (q : Binder) → word_in w ≡ quantifier q → ((b : BinderName) → w ≡ Word.Quantifier b → ⊥) → ⊥
is_quantifier (Word.Constant v) q e other = absurd (cc)
is_quantifier Word.Negation q e other = absurd (cc)
is_quantifier (Word.Connective c) q e other = absurd (cc)
is_quantifier (Word.Quantifier b) q e other = other b refl
is_quantifier Word.Let q e other = absurd (cc)
is_quantifier (Word.Sort s) q e other = absurd (cc)
is_quantifier (Word.Name w) q e other = absurd (cc)

is_let : (w : Word) → word_in w ≡ letting → (w ≡ Word.Let → ⊥) → ⊥
is_let (Word.Constant v) e other = absurd (cc)
is_let Word.Negation e other = absurd (cc)
is_let (Word.Connective c) e other = absurd (cc)
is_let (Word.Quantifier b) e other = absurd (cc)
is_let Word.Let e other = other refl
is_let (Word.Sort s) e other = absurd (cc)
is_let (Word.Name w) e other = absurd (cc)

module _ {text : List ℕ} {next : Lexed} (h : Found text next) where
  -- not, a connective or a symbol
  pub application_at : (w : Word) → lexeme_in next.lexeme ≡ word (word_in w) → ((b : BinderName) → w ≡ Word.Quantifier b → ⊥) → (w ≡ Word.Let → ⊥)
      → BracketedAt text (Some (record { head = Head.Application w; rest = next.rest }))
  unfolding spell spell_parts
  application_at w is noQuantifier noLet = record { tail = h.tail; run = h.run (word_in w) is; fewer = h.fewer; means = means }
    where
      means : (φ : Bracketed) (rest : List Lexeme) → lexemes_of text ≡ spell_bracketed φ rest
          → HeadInside (Some (record { head = Head.Application w; rest = next.rest })) φ rest
      means (denies φ) rest e = let k = next_is h _ _ e in (ap P.application (word_same (sym is ∙ k.lexeme)), k.after)
      means (connects c φ ψ) rest e = let k = next_is h _ _ e in (ap P.application (word_same (sym is ∙ k.lexeme)), k.after)
      means (applies f φ φs) rest e =
          let k = next_is h _ _ e in
          (ap P.application (word_same (sym is ∙ k.lexeme)), k.after ∙ ap (spell φ) (spell_arguments φs rest))
      means (quantifies q x xs φ) rest e = absurd (is_quantifier w q (word_same (sym is ∙ (next_is h _ _ e).lexeme)) noQuantifier)
      means (lets x φ xs ψ) rest e = absurd (is_let w (word_same (sym is ∙ (next_is h _ _ e).lexeme)) noLet)

  tail : (r : Option Headed) → IfSome r (λ x. Tail next.rest.now x.rest.now) → IfSome r (λ x. Tail text x.rest.now)
  tail None t = tt
  tail (Some x) t = tail_after h.tail t

  -- a head that a list follows
  run : (k : Opening) (r : Option Headed) → IfSome r (λ x. head_in x.head ≡ k) → IfSome r (λ x. Tail next.rest.now x.rest.now)
      → ((rest : List ℕ) → Tail next.rest.now rest → HeadStands text k rest) → IfSome r (λ x. HeadStands text (head_in x.head) x.rest.now)
  run k None e t f = tt
  run k (Some x) e t f = rw e (f x.rest.now t)

  fewer : (r : Option Headed) → IfSome r (λ x. length x.rest.now < length next.rest.now) → IfSome r (λ x. length x.rest.now < length text)
  fewer None l = tt
  fewer (Some x) l = omega (arith, l, h.fewer)

  pub quantifier_at : {r : Option Headed} (q : Binder) → lexeme_in next.lexeme ≡ word (quantifier q) → ListedAt next.rest.now (P.quantifying q) r
      → BracketedAt text r
  unfolding spell spell_variables
  quantifier_at {r} q is b = record { tail = tail r b.tail; run = run (P.quantifying q) r b.head b.tail (λ l u. (next.rest.now, h.run (quantifier q) is, u)); fewer = fewer r b.fewer; means = means }
    where
      means : (φ : Bracketed) (rest : List Lexeme) → lexemes_of text ≡ spell_bracketed φ rest → HeadInside r φ rest
      means (denies φ) rest e = absurd (other (sym is ∙ (next_is h _ _ e).lexeme))
        where
          other : word (quantifier q) ≡ word negation → ⊥
          other e = absurd (cc)
      means (connects c φ ψ) rest e = absurd (other (sym is ∙ (next_is h _ _ e).lexeme))
        where
          other : word (quantifier q) ≡ word (connective c) → ⊥
          other e = absurd (cc)
      means (applies f φ φs) rest e = absurd (other (sym is ∙ (next_is h _ _ e).lexeme))
        where
          other : word (quantifier q) ≡ word (name f) → ⊥
          other e = absurd (cc)
      means (quantifies p x xs φ) rest e =
          let k = next_is h _ _ e in
          let same : q ≡ p = quantifier_same (word_same (sym is ∙ k.lexeme)) in
          subst (λ (p : Binder). Starts r (P.quantifying p) (spell_variables (x ∷ xs) (spell φ (closes ∷ rest)))) same (b.means _ _ k.after)
        where
          quantifier_same : {p q : Binder} → quantifier p ≡ quantifier q → p ≡ q
          quantifier_same e = cc
      means (lets x φ xs ψ) rest e = absurd (other (sym is ∙ (next_is h _ _ e).lexeme))
        where
          other : word (quantifier q) ≡ word letting → ⊥
          other e = absurd (cc)

  pub let_at : {r : Option Headed} → lexeme_in next.lexeme ≡ word letting → ListedAt next.rest.now P.binding r → BracketedAt text r
  unfolding spell spell_parts
  let_at {r} is b = record { tail = tail r b.tail; run = run P.binding r b.head b.tail (λ l u. (next.rest.now, h.run letting is, u)); fewer = fewer r b.fewer; means = means }
    where
      means : (φ : Bracketed) (rest : List Lexeme) → lexemes_of text ≡ spell_bracketed φ rest → HeadInside r φ rest
      means (denies φ) rest e = absurd (other (sym is ∙ (next_is h _ _ e).lexeme))
        where
          other : word letting ≡ word negation → ⊥
          other e = absurd (cc)
      means (connects c φ ψ) rest e = absurd (other (sym is ∙ (next_is h _ _ e).lexeme))
        where
          other : word letting ≡ word (connective c) → ⊥
          other e = absurd (cc)
      means (applies f φ φs) rest e = absurd (other (sym is ∙ (next_is h _ _ e).lexeme))
        where
          other : word letting ≡ word (name f) → ⊥
          other e = absurd (cc)
      means (quantifies p x xs φ) rest e = absurd (other (sym is ∙ (next_is h _ _ e).lexeme))
        where
          other : word letting ≡ word (quantifier p) → ⊥
          other e = absurd (cc)
      means (lets x φ xs ψ) rest e =
          let k = next_is h _ _ e in
          b.means _ _ (k.after ∙ ap (λ (ls : List Lexeme). opens ∷ opens ∷ word (name x) ∷ spell φ (closes ∷ ls)) (spell_pairs xs (spell ψ (closes ∷ rest))))

  -- no word
  pub no_word_at : ((w : _) → lexeme_in next.lexeme ≡ word w → ⊥) → BracketedAt text None
  unfolding spell
  no_word_at other = record { tail = tt; run = tt; fewer = tt; means = means }
    where
      means : (φ : Bracketed) (rest : List Lexeme) → lexemes_of text ≡ spell_bracketed φ rest → HeadInside None φ rest
      means (denies φ) rest e = other _ (next_is h _ _ e).lexeme
      means (connects c φ ψ) rest e = other _ (next_is h _ _ e).lexeme
      means (applies f φ φs) rest e = other _ (next_is h _ _ e).lexeme
      means (quantifies p x xs φ) rest e = other _ (next_is h _ _ e).lexeme
      means (lets x φ xs ψ) rest e = other _ (next_is h _ _ e).lexeme

pub over_inside : {text : List ℕ} → lexemes_of text ≡ [] → BracketedAt text None
unfolding spell
over_inside {text} over = record { tail = tt; run = tt; fewer = tt; means = means }
  where
    means : (φ : Bracketed) (rest : List Lexeme) → lexemes_of text ≡ spell_bracketed φ rest → HeadInside None φ rest
    means (denies φ) rest e = none_next over e
    means (connects c φ ψ) rest e = none_next over e
    means (applies f φ φs) rest e = none_next over e
    means (quantifies p x xs φ) rest e = none_next over e
    means (lets x φ xs ψ) rest e = none_next over e

-- a lexeme of the code that is no word's
pub other_lexeme : (l : Read) → ((w : Word) → l ≡ Read.Word w → ⊥) → (w : _) → lexeme_in l ≡ word w → ⊥
other_lexeme Read.Opens other w e = absurd (cc)
other_lexeme Read.Closes other w e = absurd (cc)
other_lexeme Read.Stray other w e = absurd (cc)
other_lexeme (Read.Word v) other w e = other v refl

pub other_than_opens : (l : Read) → (l ≡ Read.Opens → ⊥) → lexeme_in l ≡ opens → ⊥
other_than_opens Read.Opens other e = other refl
other_than_opens Read.Closes other e = absurd (cc)
other_than_opens Read.Stray other e = absurd (cc)
other_than_opens (Read.Word v) other e = absurd (cc)

pub other_than_closes : (l : Read) → (l ≡ Read.Closes → ⊥) → lexeme_in l ≡ closes → ⊥
other_than_closes Read.Opens other e = absurd (cc)
other_than_closes Read.Closes other e = other refl
other_than_closes Read.Stray other e = absurd (cc)
other_than_closes (Read.Word v) other e = absurd (cc)

-- ---- a name

module _ (n : ℕ) {text : List ℕ} where
  module _ {first : Lexed} (h : Found text first) where
    pub name_on : n ≤ limits.variables → (w : Word) → lexeme_in first.lexeme ≡ word (word_in w) → (v : Option ℕ) → Numbered (variable_for n (word_in w)) v → {x : ℕ}
        → x ≡ unwrap_or v 0 → NamedAt text n (record { variable = Some x; rest = first.rest })
    unfolding variable_for
    name_on small w is v numbered {x} k =
        let same : x ≡ variable_for n (word_in w) = k ∙ numbered_or _ v numbered in
        record {
          item = record { tail = h.tail; fewer = omega (arith, h.fewer); word = omega (arith, same, small, variable_le n (word_in w)) };
          means = λ u ls e.
              let next = next_is h (word (name u)) ls e in
              record {
                variable = ap Some (same ∙ ap (variable_for n) (word_same (sym is ∙ next.lexeme)));
                after = next.after;
              };
        }

  -- ---- the variables of a quantifier

  ended : {r : Item} → Tail text r.rest.now → length r.rest.now ≤ length text → r.variable ≡ None → ItemAt text r
  ended {r} t l nothing = record { tail = t; fewer = l; word = subst (λ (v : Option ℕ). IfSome v (λ x. x ≤ 4294967295)) (sym nothing) tt }

  pub variable_over : {r : Item} → lexemes_of text ≡ [] → r.rest.now ≡ text → r.variable ≡ None → VariableAt text n r
  unfolding spell_variables spell_variable
  variable_over {r} over left nothing = record {
    item = ended (rw left (tail_self text)) (omega (arith, ap length left)) nothing;
    further = subst (λ (v : Option ℕ). IfSome v (λ x. length r.rest.now < length text)) (sym nothing) tt;
    means = means;
  }
    where
      means : (xs : List SortedVariable) (rest : List Lexeme) → lexemes_of text ≡ spell_variables xs rest → VariableOf n r xs rest
      means [] rest e = absurd (none_next over e)
      means (declares x s ∷ xs) rest e = absurd (none_next over e)

  module _ {first : Lexed} (h : Found text first) where
    pub variable_ends : {r : Item} → (lexeme_in first.lexeme ≡ opens → ⊥) → r.rest.now ≡ first.rest.now → r.variable ≡ None → VariableAt text n r
    unfolding spell_variables spell_variable
    variable_ends {r} other left nothing = record {
      item = ended (rw left h.tail) (omega (arith, ap length left, h.fewer)) nothing;
      further = subst (λ (v : Option ℕ). IfSome v (λ x. length r.rest.now < length text)) (sym nothing) tt;
      means = means;
    }
      where
        means : (xs : List SortedVariable) (rest : List Lexeme) → lexemes_of text ≡ spell_variables xs rest → VariableOf n r xs rest
        means [] rest e = record { last = nothing; after = ap lexemes_of left ∙ (next_is h _ _ e).after }
        means (declares x s ∷ xs) rest e = absurd (other (next_is h _ _ e).lexeme)

    pub variable_goes : {named r : Item} {a : List ℕ} → lexeme_in first.lexeme ≡ opens → NamedAt first.rest.now n named
        → Leaves named.rest.now (rest_of (lexemes_of named.rest.now)) a → Leaves a (rest_of (lexemes_of a)) r.rest.now → r.variable ≡ named.variable → VariableAt text n r
    unfolding spell_variables spell_variable
    variable_goes {named} {r} {a} is it p q same =
        let few : length r.rest.now < length text = omega (arith, h.fewer, it.item.fewer, p.fewer, q.fewer) in
        record {
          item = record {
            tail = tail_after h.tail (tail_after it.item.tail (tail_after p.tail q.tail));
            fewer = omega (arith, few);
            word = subst (λ (v : Option ℕ). IfSome v (λ x. x ≤ 4294967295)) (sym same) it.item.word;
          };
          further = further r.variable few;
          means = means;
        }
      where
        further : (v : Option ℕ) → length r.rest.now < length text → IfSome v (λ x. length r.rest.now < length text)
        further None l = tt
        further (Some x) l = l

        means : (xs : List SortedVariable) (rest : List Lexeme) → lexemes_of text ≡ spell_variables xs rest → VariableOf n r xs rest
        means [] rest e = absurd (other (sym (next_is h _ _ e).lexeme ∙ is))
          where
            other : closes ≡ opens → ⊥
            other e = absurd (cc)
        means (declares x s ∷ xs) rest e =
            let k = it.means _ _ (next_is h _ _ e).after in
            record { variable = same ∙ k.variable; after = behind q (behind p k.after) }

  -- ---- parts

  pub part_over : (bound : Bool) {r : Item} → lexemes_of text ≡ [] → r.rest.now ≡ text → r.variable ≡ None → PartAt text n bound r
  unfolding spell_parts
  part_over bound {r} over left nothing = record { item = ended (rw left (tail_self text)) (omega (arith, ap length left)) nothing; means = means bound }
    where
      means : (bound : Bool) (ps : List Part) (rest : List Lexeme) → lexemes_of text ≡ spell_parts bound ps rest → PartOf n bound r ps rest
      means bound [] rest e = absurd (none_next over e)
      means true (p ∷ ps) rest e = absurd (none_next over e)
      means false (p ∷ ps) rest e = absurd (no_head (over_at over) p.formula _ e)

  module _ {first : Lexed} (h : Found text first) where
    pub part_ends : (bound : Bool) {r : Item} → lexeme_in first.lexeme ≡ closes → r.rest.now ≡ first.rest.now → r.variable ≡ None → PartAt text n bound r
    unfolding spell_parts
    part_ends bound {r} is left nothing = record { item = ended (rw left h.tail) (omega (arith, ap length left, h.fewer)) nothing; means = means bound }
      where
        other : closes ≡ opens → ⊥
        other e = absurd (cc)

        no_name : (w : _) → closes ≡ word w → ⊥
        no_name w e = absurd (cc)

        means : (bound : Bool) (ps : List Part) (rest : List Lexeme) → lexemes_of text ≡ spell_parts bound ps rest → PartOf n bound r ps rest
        means bound [] rest e = record { last = nothing; after = ap lexemes_of left ∙ (next_is h _ _ e).after }
        means true (p ∷ ps) rest e = absurd (other (sym is ∙ (next_is h _ _ e).lexeme))
        means false (p ∷ ps) rest e = absurd (no_head (none_at h closes is other no_name) p.formula _ e)

    module _ (other : lexeme_in first.lexeme ≡ closes → ⊥) where
      pub argument_goes : {r : Item} → r.rest.now ≡ text → r.variable ≡ Some 0 → PartAt text n false r
      unfolding spell_parts
      argument_goes {r} left none = record {
        item = record {
          tail = rw left (tail_self text);
          fewer = omega (arith, ap length left);
          word = subst (λ (v : Option ℕ). IfSome v (λ x. x ≤ 4294967295)) (sym none) (omega arith);
        };
        means = means;
      }
        where
          means : (ps : List Part) (rest : List Lexeme) → lexemes_of text ≡ spell_parts false ps rest → PartOf n false r ps rest
          means [] rest e = absurd (other (next_is h _ _ e).lexeme)
          means (p ∷ ps) rest e = record { variable = none; after = ap lexemes_of left ∙ e }

      pub pair_goes : {r : Item} → NamedAt first.rest.now n r → PartAt text n true r
      unfolding spell_parts
      pair_goes {r} it = record {
        item = record {
          tail = tail_after h.tail it.item.tail;
          fewer = omega (arith, h.fewer, it.item.fewer);
          word = it.item.word;
        };
        means = means;
      }
        where
          means : (ps : List Part) (rest : List Lexeme) → lexemes_of text ≡ spell_parts true ps rest → PartOf n true r ps rest
          means [] rest e = absurd (other (next_is h _ _ e).lexeme)
          means (p ∷ ps) rest e = it.means _ _ (next_is h _ _ e).after

-- ---- behind a part

pub after_part_lem : {text rest : List ℕ} → Leaves text (rest_of (lexemes_of text)) rest → PartEnd true text rest
unfolding after_part
after_part_lem p = record { tail = p.tail; fewer = p.fewer; means = λ ls e. behind p e }

pub no_part_end : (text : List ℕ) → PartEnd false text text
unfolding after_part
no_part_end text = record { tail = tail_self text; fewer = omega arith; means = λ ls e. e }
