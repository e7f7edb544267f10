-- Reading a formula: what each return gives, from what its calls gave.
--     at_some                                        what is said of the value in a Some
--     read_done, read_full                           a formula that was read, or that did not fit
--     parts_done, parts_full                         the same of parts
--     outcome_of_lem, placed_leaves, none_leaves     a term that was placed; nothing
--     Closed, closed_outcome, closed_none, closed_leaves     a formula with its closing bracket
--     word_reads                                     a word alone
--     applied, applied_none, application_reads       an application
--     quantifier_reads, let_reads                    a quantifier and a let, from inside
--     deep_reads                                     no level left
--     last_quantified, next_quantified, no_quantified, ..     the variables of a quantifier
--     later_leaves                                   from a shorter text
use Prim.Native.Nat.{ℕ, suc, ◌≤◌, ◌<◌}
use native.Mathlib.Omega.{arith}
use mathlib.Core.Path.{◌≡◌, refl, sym, ap, ◌∙◌, subst}
use mathlib.Core.Bool.{true, false, cond}
use mathlib.Core.List.{List, [], ◌∷◌}
use lib.ListN.{length}
use Rattle.std.specs.Prelude.{Option, Some, None, IfSome}
use Rattle.std.proofs.lemmas.Option.{IfSome_then}
use Rattle.bundle.specs.Words.{largest_word}
use Rattle.bundle.specs.Bundle.{Bundle}
use Rattle.logic.specs.Symbols.{truth_sort, signature_of, result_sort}
use Rattle.logic.specs.Terms.{Binder, Term, Terms, app, bind, let_in, more}
use Rattle.scratch.specs.Stack.{halves}
use Rattle.expansion.specs.Placed.{PlacedTerm, place_application, place_binder}
use Rattle.placing.specs.Outcomes.{StackKept}
use Rattle.grammar.specs.Bytes.{Word, constant, name}
use Rattle.grammar.specs.Grammar.{declares, Formula, called, truth, bracketed, Bracketed, denies, connects, applies, quantifies, lets}
use Rattle.grammar.specs.Grammar.{SortedVariable, Lexeme, closes, spell, spell_variables}
use Rattle.reading.specs.Called.{variable_called, symbol_called}
use Rattle.reading.specs.Typing.{connective_symbol, nested}
use Rattle.reading.specs.Local.{alone_sort, alone_term, head_sort, plain, bound_names}
use Rattle.reading.specs.Records.{file}
use Rattle.lexing.specs.Lexes.{lexemes_of, Tail}
use Rattle.lexing.proofs.Tails.{tail_after}
use Rattle.heads.specs.declared.Headed.{Headed}
use Rattle.heads.specs.declared.Item.{Item}
use Rattle.heads.specs.HeadSymbols.{variable_for, symbol_for}
use Rattle.heads.specs.Places.{after_part, arguments, pairs, Opening, alone, application, quantifying, binding, head_in, HeadInside, HeadAt, VariableAt, PartEnd}
use Rattle.endings.specs.declared.ReadTerm.{ReadTerm}
use Rattle.endings.specs.declared.ReadParts.{ReadParts}
use Rattle.endings.specs.ReadOutcomes.{TermOutcome, TermFits}
use Rattle.formulas.specs.ReadGives.{terms_of, first_sort, sort_under, TooLarge, AllTooLarge, ReadDone, ReadOutcome, PartsDone, PartsOutcome, Leaves, Reads}
use Rattle.formulas.specs.ReadGives.{ReadsQuantified, ReadsLet, ReadsParts}
use Rattle.formulas.proofs.Sizes.{no_level, applied_large, bound_large}
use Rattle.formulas.proofs.PartTerms.{terms_arguments, terms_pairs, variables_pairs, variable_called_lem, symbol_called_lem, constant_sort}

-- ---- the value in a Some

pub at_some : {A : Type 0} {r : Option A} {x : A} (P : A → Type 0) → r ≡ Some x → IfSome r P → P x
at_some P is h = subst (λ (o : Option _). IfSome o P) is h

-- ---- what was read, or did not fit

module _ {τ : Term} {s : ℕ} {ls : List Lexeme} {b : Bundle} {h n : ℕ} {b' : Bundle} {r : Option ReadTerm} where
  pub read_done : {x : ReadTerm} → ReadOutcome τ s ls b h n b' r → r ≡ Some x → ReadDone τ s ls b b' x
  read_done {x} (ReadOutcome.done y k d) is = let same : y ≡ x = cc in subst (ReadDone τ s ls b b') same d
  read_done (ReadOutcome.full o k) is = absurd (cc)

  pub read_full : ReadOutcome τ s ls b h n b' r → r ≡ None → TooLarge τ b h n
  read_full (ReadOutcome.done y k d) is = absurd (cc)
  read_full (ReadOutcome.full o k) is = o

module _ {ts : Terms} {vs : List ℕ} {m s : ℕ} {ls : List Lexeme} {b : Bundle} {h n : ℕ} {b' : Bundle} {st : List ℕ} {r : Option ReadParts} where
  pub parts_done : {x : ReadParts} → PartsOutcome ts vs m s ls b h n b' st r → r ≡ Some x → PartsDone ts vs m s ls b h b' st x
  parts_done {x} (PartsOutcome.done y k d) is = let same : y ≡ x = cc in subst (PartsDone ts vs m s ls b h b' st) same d
  parts_done (PartsOutcome.full o k) is = absurd (cc)

  pub parts_full : PartsOutcome ts vs m s ls b h n b' st r → r ≡ None → AllTooLarge ts b h n
  parts_full (PartsOutcome.done y k d) is = absurd (cc)
  parts_full (PartsOutcome.full o k) is = o

-- ---- a term that was placed

pub outcome_of_lem : (τ : Term) (b : Bundle) {s : ℕ} {rest : List ℕ} {ls : List Lexeme} {h n : ℕ} {b' : Bundle} {r : Option ReadTerm}
    → TermOutcome (file τ b) s rest b' r → lexemes_of rest ≡ ls → ReadOutcome τ s ls b h n b' r
outcome_of_lem τ b (TermOutcome.done w k t is d) l =
    ReadOutcome.done t is (record { term = d.term; sort = d.sort; bundle = k; after = ap lexemes_of d.rest ∙ l })
outcome_of_lem τ b (TermOutcome.full o k) l = ReadOutcome.full (TooLarge.records o) k

-- what is left behind it is what is left behind its formula
rest_of : {p : PlacedTerm} {s : ℕ} {rest : List ℕ} {b' : Bundle} {x : ReadTerm} → TermOutcome p s rest b' (Some x) → x.rest.now ≡ rest
rest_of {rest = rest} {x = x} (TermOutcome.done w k t is d) = let same : t ≡ x = cc in subst (λ (y : ReadTerm). y.rest.now ≡ rest) same d.rest
rest_of (TermOutcome.full o k) = absurd (cc)

pub placed_leaves : {text st : List ℕ} {h : ℕ} {st' : List ℕ} {p : PlacedTerm} {s : ℕ} {rest : List ℕ} {b' : Bundle} {r : Option ReadTerm} → StackKept st st' h
    → TermOutcome p s rest b' r → TermFits r → Tail text rest → length rest < length text → Leaves text st h st' r
placed_leaves {r = None} kept o fits t l = record { kept = kept; word = tt; tail = tt; fewer = tt }
placed_leaves {r = Some x} kept o fits t l =
    record { kept = kept; word = fits; tail = rw (rest_of o) t; fewer = omega (arith, ap length (rest_of o), l) }

at_levels : {τ : Term} {s : ℕ} {ls : List Lexeme} {b : Bundle} {h n n' : ℕ} {b' : Bundle} {r : Option ReadTerm} → n ≡ n'
    → ReadOutcome τ s ls b h n' b' r → ReadOutcome τ s ls b h n b' r
at_levels {τ} {s} {ls} {b} {h} {n} {n'} {b'} {r} e o = subst (λ (m : ℕ). ReadOutcome τ s ls b h m b' r) (sym e) o

-- ---- no formula, no level, no room

pub none_leaves : {text st : List ℕ} {h : ℕ} {st' : List ℕ} → StackKept st st' h → Leaves text st h st' None
none_leaves kept = record { kept = kept; word = tt; tail = tt; fewer = tt }

pub deep_reads : (D : Bundle) (text : List ℕ) {b : Bundle} {h n : ℕ} {b' : Bundle} → n ≡ 0 → Reads D text b h n b' None
deep_reads D text e φ rest l = ReadOutcome.full (no_level (plain D φ) (omega (arith, e))) refl

-- ---- from a shorter text

pub later_leaves : {text rest st : List ℕ} {h : ℕ} {st' : List ℕ} {r : Option ReadTerm} → Tail text rest → length rest ≤ length text
    → Leaves rest st h st' r → Leaves text st h st' r
later_leaves {r = r} t l left = record {
  kept = left.kept;
  word = left.word;
  tail = IfSome_then r left.tail (λ x g. tail_after t g);
  fewer = IfSome_then r left.fewer (λ x g. omega (arith, l, g));
}

-- ---- a formula with its closing bracket

abbrev pub Closed : ReadTerm → ReadTerm → Type 0
Closed body x = (x.term ≡ body.term) × (x.sort ≡ body.sort) × PartEnd true body.rest.now x.rest.now

module _ {τ : Term} {s : ℕ} {rest : List Lexeme} {b : Bundle} {h n : ℕ} {b' : Bundle} {r : Option ReadTerm} where
  pub closed_outcome : {body x : ReadTerm} → r ≡ Some body → Closed body x → ReadOutcome τ s (closes ∷ rest) b h n b' r
      → ReadOutcome τ s rest b h n b' (Some x)
  unfolding after_part
  closed_outcome {body} {x} is c o =
      let d = read_done o is in
      ReadOutcome.done x refl (record { term = c.0 ∙ d.term; sort = c.1 ∙ d.sort; bundle = d.bundle; after = c.2.means rest d.after })

  pub closed_none : r ≡ None → ReadOutcome τ s (closes ∷ rest) b h n b' r → ReadOutcome τ s rest b h n b' None
  closed_none is o = ReadOutcome.full (read_full o is) refl

-- there is no more left behind the bracket
pub closed_leaves : {text inside st : List ℕ} {h : ℕ} {st' : List ℕ} {r : Option ReadTerm} {body x : ReadTerm} → Tail text inside
    → length inside ≤ length text → Leaves inside st h st' r → r ≡ Some body → Closed body x → Leaves text st h st' (Some x)
closed_leaves {inside = inside} t l left is c =
    let u = at_some (λ (t : ReadTerm). Tail inside t.rest.now) is left.tail in
    let e = at_some (λ (t : ReadTerm). length t.rest.now < length inside) is left.fewer in
    record {
      kept = left.kept;
      word = omega (arith, c.0, at_some (λ (t : ReadTerm). t.term ≤ largest_word) is left.word);
      tail = tail_after t (tail_after u c.2.tail);
      fewer = omega (arith, l, e, c.2.fewer);
    }

-- ---- heads

-- the kinds of heads by number, and that of a bracketed formula
abbrev number : Opening → ℕ
number (alone w) = 0
number (application w) = 1
number (quantifying q) = 2
number binding = 3

unfoldable kind_in : Bracketed → ℕ
kind_in (denies φ) = 1
kind_in (connects c φ ψ) = 1
kind_in (applies f φ φs) = 1
kind_in (quantifies q x xs φ) = 2
kind_in (lets x φ xs ψ) = 3

kind_in_lem : (r : Headed) (φ : Bracketed) (rest : List Lexeme) → HeadInside (Some r) φ rest → number (head_in r.head) ≡ kind_in φ
unfolding kind_in
kind_in_lem r (denies φ) rest h = ap number h.0
kind_in_lem r (connects c φ ψ) rest h = ap number h.0
kind_in_lem r (applies f φ φs) rest h = ap number h.0
kind_in_lem r (quantifies q x xs φ) rest h = ap number h.0
kind_in_lem r (lets x φ xs ψ) rest h = ap number h.0

kinds_in : (φ : Bracketed) → (1 ≤ kind_in φ) × (kind_in φ ≤ 3)
unfolding kind_in
kinds_in (denies φ) = (omega arith, omega arith)
kinds_in (connects c φ ψ) = (omega arith, omega arith)
kinds_in (applies f φ φs) = (omega arith, omega arith)
kinds_in (quantifies q x xs φ) = (omega arith, omega arith)
kinds_in (lets x φ xs ψ) = (omega arith, omega arith)

same_alone : {v w : Word} → alone v ≡ alone w → v ≡ w
same_alone e = cc

same_application : {v w : Word} → application v ≡ application w → v ≡ w
same_application e = cc

same_quantifying : {p q : Binder} → quantifying p ≡ quantifying q → p ≡ q
same_quantifying e = cc

module _ {text : List ℕ} {r : Headed} (at : HeadAt text (Some r)) where
  inside_only : {k : ℕ} → number (head_in r.head) ≡ k → 1 ≤ k → (P : Formula → List Lexeme → Type 0)
      → ((φ : Bracketed) (rest : List Lexeme) → HeadInside (Some r) φ rest → P (bracketed φ) rest)
      → (φ : Formula) (rest : List Lexeme) → lexemes_of text ≡ spell φ rest → P φ rest
  inside_only e some P f (called w) rest l = absurd (omega (arith, e, some, ap number (at.means (called w) rest l).0))
  inside_only e some P f (truth v) rest l = absurd (omega (arith, e, some, ap number (at.means (truth v) rest l).0))
  inside_only e some P f (bracketed φ) rest l = f φ rest (at.means (bracketed φ) rest l)

  module _ (D : Bundle) where
    -- ---- a word alone

    abbrev pub Alone : Word → Bundle → Bundle → Option ReadTerm → Type 0
    Alone w b b' res =
        let x = variable_for (length D.variables) w in
        let g = symbol_for (length D.symbols) w 0 in
        TermOutcome (file (alone_term x g) b) (alone_sort D x g) r.rest.now b' res

    pub word_reads : (w : Word) {b : Bundle} {h n : ℕ} {b' : Bundle} {res : Option ReadTerm} → head_in r.head ≡ alone w → Alone w b b' res
        → Reads D text b h n b' res
    unfolding plain head_sort alone_term alone_sort variable_for symbol_for
    word_reads w {b} {h} {n} {b'} {res} e o (called v) rest l =
        let s = at.means (called v) rest l in
        let same : w ≡ name v = same_alone (sym e ∙ s.0) in
        let own : Alone (name v) b b' res = subst (λ (w : Word). Alone w b b' res) same o in
        outcome_of_lem (alone_term (variable_called D v) (symbol_called D v)) b
        (subst (λ (y : ℕ × ℕ). TermOutcome (file (alone_term y.0 y.1) b) (alone_sort D y.0 y.1) r.rest.now b' res)
        (λ i. (variable_called_lem D v i, symbol_called_lem D v i)) own) s.1
    word_reads w {b} {h} {n} {b'} {res} e o (truth v) rest l =
        let s = at.means (truth v) rest l in
        let same : w ≡ constant v = same_alone (sym e ∙ s.0) in
        let own : Alone (constant v) b b' res = subst (λ (w : Word). Alone w b b' res) same o in
        outcome_of_lem (alone_term 0 (cond v 1 2)) b
        (subst (λ (z : ℕ). TermOutcome (file (alone_term 0 (cond v 1 2)) b) z r.rest.now b' res) (constant_sort D v) own) s.1
    word_reads w e o (bracketed φ) rest l =
        absurd (omega (arith, ap number e, kind_in_lem r φ rest (at.means (bracketed φ) rest l), (kinds_in φ).0))

    -- ---- an application, from its parts

    module _ (w : Word) where
      abbrev its_symbol : ℕ → ℕ
      its_symbol s = symbol_for (length D.symbols) w s

      -- of terms that were read or did not fit, the application of the symbol that the word stands for beside their first sort
      abbrev pub Applies : (b : Bundle) (h n : ℕ) (b1 : Bundle) (st1 : List ℕ) (parts : Option ReadParts) (b2 : Bundle) (res : Option ReadTerm) → Type 0
      Applies b h n b1 st1 parts b2 res =
          (ts : Terms) (vs : List ℕ) (m s g : ℕ) (ls : List Lexeme) → PartsOutcome ts vs m s ls b h n b1 st1 parts → its_symbol s ≡ g
          → ReadOutcome (app g ts) (result_sort D (signature_of D g)) ls b h (suc n) b2 res

      module _ {b : Bundle} {h n : ℕ} {b1 : Bundle} {st1 : List ℕ} {parts : Option ReadParts} where
        pub applied : {x : ReadParts} {b2 : Bundle} {res : Option ReadTerm} → parts ≡ Some x
            → TermOutcome (place_application b1 (its_symbol x.sort) (halves true st1 h x.height)) (result_sort D (signature_of D (its_symbol x.sort)))
            x.rest.now b2 res
            → Applies b h n b1 st1 parts b2 res
        unfolding file
        applied {x} {b2} {res} is o ts vs m s g ls gave eg =
            let d = parts_done gave is in
            let sy : its_symbol x.sort ≡ g = ap its_symbol d.sort ∙ eg in
            outcome_of_lem (app g ts) b
            (subst (λ (z : Bundle × ℕ × List ℕ). TermOutcome (place_application z.0 z.1 z.2) (result_sort D (signature_of D z.1)) x.rest.now b2 res)
            (λ i. (d.bundle i, sy i, d.terms i)) o) d.after

        pub applied_none : parts ≡ None → Applies b h n b1 st1 parts b1 None
        applied_none is ts vs m s g ls gave eg = ReadOutcome.full (applied_large g ts (parts_full gave is)) refl

        pub application_reads : {b2 : Bundle} {res : Option ReadTerm} → Applies b h n b1 st1 parts b2 res → {n₁ : ℕ} → n₁ ≡ suc n
            → head_in r.head ≡ application w → ReadsParts D r.rest.now b h n false None b1 st1 parts → Reads D text b h n₁ b2 res
        unfolding plain head_sort symbol_for terms_of first_sort
        application_reads {b2} {res} of_parts {n₁} en e gave = inside_only {k = 1} (ap number e) (omega arith) _ (λ φ rest s. at_levels en (go φ rest s))
          where
            go : (φ : Bracketed) (rest : List Lexeme) → HeadInside (Some r) φ rest
                → ReadOutcome (plain D (bracketed φ)) (head_sort D (bracketed φ)) rest b h (suc n) b2 res
            go (denies φ) rest s =
                of_parts _ _ _ _ 3 _ (gave _ rest s.1) (ap (λ m. symbol_for (length D.symbols) m (head_sort D φ)) (same_application (sym e ∙ s.0)))
            go (connects c φ ψ) rest s =
                of_parts _ _ _ _ (connective_symbol c (head_sort D φ)) _ (gave _ rest s.1)
                (ap (λ m. symbol_for (length D.symbols) m (head_sort D φ)) (same_application (sym e ∙ s.0)))
            go (applies g φ φs) rest s =
                let o = gave (record { called = []; formula = φ } ∷ arguments φs) rest s.1 in
                let same : w ≡ name g = same_application (sym e ∙ s.0) in
                let z = of_parts _ _ _ _ (symbol_called D g) _ o (ap (λ m. symbol_for (length D.symbols) m (head_sort D φ)) same ∙ symbol_called_lem D g) in
                subst (λ (ts : Terms). ReadOutcome (app (symbol_called D g) (more (plain D φ) ts)) (result_sort D (signature_of D (symbol_called D g))) rest b h
                (suc n) b2 res) (terms_arguments D φs) z
            go (quantifies q x xs φ) rest s = absurd (omega (arith, ap number e, ap number s.0))
            go (lets x φ xs ψ) rest s = absurd (omega (arith, ap number e, ap number s.0))

    -- ---- a quantifier, a let: from inside

    pub quantifier_reads : {b : Bundle} {h n : ℕ} (q : Binder) {b' : Bundle} {res : Option ReadTerm} → head_in r.head ≡ quantifying q
        → ReadsQuantified D r.rest.now b h n q b' res → Reads D text b h n b' res
    unfolding plain head_sort sort_under
    quantifier_reads {b} {h} {n} q {b'} {res} e gave = inside_only {k = 2} (ap number e) (omega arith) _ go
      where
        go : (φ : Bracketed) (rest : List Lexeme) → HeadInside (Some r) φ rest
            → ReadOutcome (plain D (bracketed φ)) (head_sort D (bracketed φ)) rest b h n b' res
        go (denies φ) rest s = absurd (omega (arith, ap number e, ap number s.0))
        go (connects c φ ψ) rest s = absurd (omega (arith, ap number e, ap number s.0))
        go (applies g φ φs) rest s = absurd (omega (arith, ap number e, ap number s.0))
        go (quantifies p x xs φ) rest s =
            subst (λ (p : Binder). ReadOutcome (nested D p (x ∷ xs) (plain D φ)) truth_sort rest b h n b' res) (same_quantifying (sym e ∙ s.0))
            (gave (x ∷ xs) φ rest s.1)
        go (lets x φ xs ψ) rest s = absurd (omega (arith, ap number e, ap number s.0))

    pub let_reads : {b : Bundle} {h n n₁ : ℕ} {b' : Bundle} {res : Option ReadTerm} → n₁ ≡ suc n → head_in r.head ≡ binding
        → ReadsLet D r.rest.now b h n b' res → Reads D text b h n₁ b' res
    unfolding plain head_sort terms_of
    let_reads {b} {h} {n} {n₁} {b'} {res} en e gave = inside_only {k = 3} (ap number e) (omega arith) _ (λ φ rest s. at_levels en (go φ rest s))
      where
        go : (φ : Bracketed) (rest : List Lexeme) → HeadInside (Some r) φ rest
            → ReadOutcome (plain D (bracketed φ)) (head_sort D (bracketed φ)) rest b h (suc n) b' res
        go (denies φ) rest s = absurd (omega (arith, ap number e, ap number s.0))
        go (connects c φ ψ) rest s = absurd (omega (arith, ap number e, ap number s.0))
        go (applies g φ φs) rest s = absurd (omega (arith, ap number e, ap number s.0))
        go (quantifies p x xs φ) rest s = absurd (omega (arith, ap number e, ap number s.0))
        go (lets x φ xs ψ) rest s =
            let o = gave (record { called = x; formula = φ } ∷ pairs xs) ψ rest s.1 in
            let vs = variables_pairs D xs in
            let ts = terms_pairs D xs in
            subst (λ (us : Terms). ReadOutcome (let_in (variable_called D x ∷ bound_names D xs) (more (plain D φ) us) (plain D ψ)) (head_sort D ψ) rest b h
            (suc n) b' res) ts
            (subst (λ (us : List ℕ). ReadOutcome (let_in (variable_called D x ∷ us) (more (plain D φ) (terms_of D (pairs xs))) (plain D ψ))
            (head_sort D ψ) rest b h
            (suc n) b' res) vs o)

-- ---- the variables of a quantifier

module _ (E : Bundle) {text : List ℕ} {item : Item} (at : VariableAt text (length E.variables) item) (q : Binder) where
  -- their list's end: the body follows, and its closing bracket
  pub last_quantified : {b : Bundle} {h n : ℕ} {b' : Bundle} {body res : Option ReadTerm}
      → ((τ : Term) (s : ℕ) (rest : List Lexeme) → ReadOutcome τ s (closes ∷ rest) b h n b' body → ReadOutcome τ s rest b h n b' res)
      → item.variable ≡ None → Reads E item.rest.now b h n b' body → ReadsQuantified E text b h n q b' res
  unfolding nested sort_under
  last_quantified close e gave [] φ rest l = close _ _ rest (gave φ (closes ∷ rest) (at.means [] (spell φ (closes ∷ rest)) l).after)
  last_quantified close e gave (declares x s ∷ xs) φ rest l =
      let m = (at.means (declares x s ∷ xs) (spell φ (closes ∷ rest)) l).variable in absurd (cc)

  module _ {v : ℕ} (is : item.variable ≡ Some v) where
    on : (P : List SortedVariable → Formula → List Lexeme → Type 0)
        → ((x : List ℕ) (s : _) (xs : List SortedVariable) (φ : Formula) (rest : List Lexeme) → v ≡ variable_called E x
        → lexemes_of item.rest.now ≡ spell_variables xs (spell φ (closes ∷ rest)) → P (declares x s ∷ xs) φ rest)
        → (xs : List SortedVariable) (φ : Formula) (rest : List Lexeme) → lexemes_of text ≡ spell_variables xs (spell φ (closes ∷ rest)) → P xs φ rest
    on P f [] φ rest l = let m = (at.means [] (spell φ (closes ∷ rest)) l).last in absurd (cc)
    on P f (declares x s ∷ xs) φ rest l =
        let m = at.means (declares x s ∷ xs) (spell φ (closes ∷ rest)) l in
        let k = m.variable in
        let same : v ≡ _ = cc in
        f x s xs φ rest (same ∙ variable_called_lem E x) m.after

    pub no_quantified : {b : Bundle} {h n : ℕ} {b' : Bundle} → n ≡ 0 → ReadsQuantified E text b h n q b' None
    no_quantified z = on _ (λ x s xs φ rest k l. ReadOutcome.full (no_level (nested E q (declares x s ∷ xs) (plain E φ)) (omega (arith, z))) refl)

    -- of a body that was read or did not fit, the binder of the item's variable
    abbrev pub Binds : (b : Bundle) (h n : ℕ) (b1 : Bundle) (body : Option ReadTerm) (b2 : Bundle) (res : Option ReadTerm) → Type 0
    Binds b h n b1 body b2 res =
        (x : ℕ) (τ : Term) (s : ℕ) (ls : List Lexeme) → v ≡ x → ReadOutcome τ s ls b h n b1 body → ReadOutcome (bind q x τ) truth_sort ls b h (suc n) b2 res

    module _ {b : Bundle} {h n : ℕ} {b1 : Bundle} {body : Option ReadTerm} where
      pub bound : {x : ReadTerm} {b2 : Bundle} {res : Option ReadTerm} → body ≡ Some x → TermOutcome (place_binder b1 q v x.term) 0 x.rest.now b2 res
          → Binds b h n b1 body b2 res
      unfolding file
      bound {x} {b2} {res} found o y τ s ls same gave =
          let d = read_done gave found in
          outcome_of_lem (bind q y τ) b
          (subst (λ (z : Bundle × ℕ × ℕ). TermOutcome (place_binder z.0 q z.1 z.2) 0 x.rest.now b2 res) (λ i. (d.bundle i, same i, d.term i)) o) d.after

      pub bound_none : body ≡ None → Binds b h n b1 body b1 None
      bound_none none x τ s ls same gave = ReadOutcome.full (bound_large q x τ (read_full gave none)) refl

      pub next_quantified : {b2 : Bundle} {res : Option ReadTerm} → Binds b h n b1 body b2 res → {n₁ : ℕ} → n₁ ≡ suc n
          → ReadsQuantified E item.rest.now b h n q b1 body → ReadsQuantified E text b h n₁ q b2 res
      unfolding nested sort_under
      next_quantified of_body en gave = on _ (λ x s xs φ rest k l. at_levels en (of_body (variable_called E x) _ _ _ k (gave xs φ rest l)))
