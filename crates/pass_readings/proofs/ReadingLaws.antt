-- What is read, put together from what its parts are read as.
--     variable_read, symbol_read                         a word alone
--     parts_start, part_on, pair_on, parts_end           parts, one after another
--     under_none, under_more                             variables of a quantifier
--     application_read, quantifier_read, let_read        what stands in brackets
use Prim.Native.Nat.{ℕ, zero, suc, ◌+◌}
use native.Mathlib.Omega.{arith}
use mathlib.Core.Path.{◌≡◌, refl, sym, ap, ap₂, ◌∙◌, subst}
use mathlib.Core.Bool.{Bool, true, false, cond, ◌&&◌, false≢true}
use mathlib.Core.List.{List, [], ◌∷◌, ◌++◌, map, append_assoc, append-nil}
use lib.ListN.{length}
use lib.Dec.{eqb, leb, ltb}
use borrow.Author.Tests.{eqb-true, eq-eqb, ne_eqb, lt-ltb}
use Rattle.std.proofs.lemmas.Bool.{and_from, or_left, or_right}
use Rattle.bundle.specs.Bundle.{Bundle, sort_of_variable}
use Rattle.bundle.specs.Lists.{same_list, different, numbers}
use Rattle.logic.specs.Terms.{Binder, Term, Terms, var, app, bind, let_in, none, more}
use Rattle.logic.specs.Symbols.{truth_sort, signature_of, signature, kind_of_symbol, symbol_kind, argument_sorts, result_sort}
use Rattle.logic.proofs.Tests.{and_left, and_right, same_list_lem}
use Rattle.grammar.specs.Bytes.{SortWord, Connective, conjunction, disjunction, implication, equality, Word, constant, negation, connective, quantifier}
use Rattle.grammar.specs.Bytes.{letting, sort, name}
use Rattle.grammar.specs.Grammar.{SortedVariable, declares, Formula, called, truth, bracketed, denies, connects, applies, quantifies, lets}
use Rattle.grammar.specs.Grammar.{Formulas, no_formula, and_formula, Bindings, no_binding, and_binding, Lexeme, opens, closes, word, spell, spell_variable}
use Rattle.grammar.specs.Grammar.{spell_variables, spell_formulas, spell_bindings}
use Rattle.grammar.specs.Names.{either, symbolOnly, variableOnly, Name, names, variable_names, names_of_all, names_bound, all_known}
use Rattle.reading.specs.Called.{number_after, is_numeral, decimal, variable_called, symbol_called, known_as, known_in}
use Rattle.reading.specs.Typing.{connective_symbol, sort_number, sorts_declared, nested}
use Rattle.reading.specs.Local.{alone_sort, alone_term, accepts, alone_fine, head_sort, head_sorts, bound_sorts, bound_names, plain, plain_all, plain_bound}
use Rattle.reading.specs.Local.{fine, fine_all, fine_bound}
use Rattle.reading.specs.Records.{file, file_all}
use Rattle.lexing.proofs.NumeralLaws.{counts_suffice}
use Rattle.heads.specs.HeadSymbols.{symbol_for}
use Rattle.heads.specs.Places.{Part, after_part, spell_part, spell_parts}
use Rattle.formulas.specs.ReadGives.{terms_of, variable_of}
use Rattle.formulas.proofs.PartTerms.{constant_sort}
use Rattle.pass_readings.specs.Spelled.{Known, part_names}
use Rattle.pass_readings.specs.Readings.{parts_fine, part_sort, ReadAs, PartsAs, UnderAs, AllParts, PartsSoFar}

opens_closes : {ls ks : List Lexeme} → opens ∷ ls ≡ closes ∷ ks → ⊥
opens_closes e = let z : ◌≡◌ {A = ℕ} 0 1 = cc in omega arith

module _ (D : Bundle) where
  known_more : (x : Name) (ns : List Name) → known_in D x ≡ true → Known D ns → Known D (x ∷ ns)
  unfolding all_known
  known_more x ns e h = ap (λ (p : Bool). p && all_known (known_in D) ns) e ∙ h

  variable_known : (w : List ℕ) → (variable_called D w ≡ 0 → ⊥) → known_in D (record { place = variableOnly; spelled = w }) ≡ true
  unfolding known_in known_as
  variable_known w h = lt-ltb 0 (variable_called D w) (omega arith)

  symbol_known : (w : List ℕ) → (symbol_called D w ≡ 0 → ⊥) → known_in D (record { place = symbolOnly; spelled = w }) ≡ true
  unfolding known_in known_as
  symbol_known w h = lt-ltb 0 (symbol_called D w) (omega arith)

  -- ---- a word alone

  alone_fine_lem : (x f : ℕ) → (x ≡ 0 → ⊥) → alone_fine D x f ≡ true
  unfolding alone_fine
  alone_fine_lem zero f ne = absurd (ne refl)
  alone_fine_lem (suc x) f ne = refl

  alone_term_lem : (x f : ℕ) → (x ≡ 0 → ⊥) → alone_term x f ≡ var x
  unfolding alone_term
  alone_term_lem zero f ne = absurd (ne refl)
  alone_term_lem (suc x) f ne = refl

  alone_sort_lem : (x f : ℕ) → (x ≡ 0 → ⊥) → alone_sort D x f ≡ sort_of_variable D x
  unfolding alone_sort
  alone_sort_lem zero f ne = absurd (ne refl)
  alone_sort_lem (suc x) f ne = refl

  pub variable_read : (w : List ℕ) {x : ℕ} {rest : List Lexeme} → variable_called D w ≡ x → (x ≡ 0 → ⊥)
      → ReadAs D (word (name w) ∷ rest) rest (var x) (sort_of_variable D x)
  unfolding spell names known_in known_as fine plain head_sort
  variable_read w {x} {rest} e ne = record {
    spelled = record {
      formula = called w;
      spells = refl;
      known = λ ns k. known_more (record { place = either; spelled = w }) ns
          (or_left (ltb 0 (variable_called D w)) (ltb 0 (symbol_called D w)) (lt-ltb 0 (variable_called D w) (omega arith))) k;
    };
    sorted = ap (λ (v : ℕ). alone_fine D v (symbol_called D w)) e ∙ alone_fine_lem x (symbol_called D w) ne;
    term = ap (λ (v : ℕ). alone_term v (symbol_called D w)) e ∙ alone_term_lem x (symbol_called D w) ne;
    sort = ap (λ (v : ℕ). alone_sort D v (symbol_called D w)) e ∙ alone_sort_lem x (symbol_called D w) ne;
  }

  -- what is a symbol's name is none of a variable
  no_variable : (w : List ℕ) → (symbol_called D w ≡ 0 → ⊥) → variable_called D w ≡ 0
  unfolding variable_called symbol_called number_after
  no_variable [] h = refl
  no_variable (c ∷ cs) h = go (eqb c 102) refl
    where
      none_of : number_after 102 (c ∷ cs) ≡ 0 → symbol_called D (c ∷ cs) ≡ 0
      none_of e = ap (λ (n : ℕ). cond (leb 33 n && leb n (32 + length D.symbols)) n 0) e

      go : (p : Bool) → eqb c 102 ≡ p → variable_called D (c ∷ cs) ≡ 0
      go true e =
          let v : c ≡ 118 → ⊥ = λ z. omega (arith, eqb-true c 102 e, z) in
          ap (λ (n : ℕ). cond (numbers (length D.variables) n) n 0) (ap (λ (p : Bool). cond (p && is_numeral cs) (decimal 0 cs) 0) (ne_eqb c 118 v))
      go false e = absurd (h (none_of (ap (λ (p : Bool). cond (p && is_numeral cs) (decimal 0 cs) 0) e)))

  name_read : (w : List ℕ) {f : ℕ} {rest : List Lexeme} → symbol_called D w ≡ f → (f ≡ 0 → ⊥) → accepts D f [] ≡ true
      → ReadAs D (word (name w) ∷ rest) rest (app f none) (result_sort D (signature_of D f))
  unfolding spell names known_in known_as fine plain head_sort alone_fine alone_term alone_sort
  name_read w {f} {rest} e ne takes =
      let z : variable_called D w ≡ 0 = no_variable w (λ n. ne (sym e ∙ n)) in
      record {
        spelled = record {
          formula = called w;
          spells = refl;
          known = λ ns k. known_more (record { place = either; spelled = w }) ns
              (or_right (ltb 0 (variable_called D w)) (ltb 0 (symbol_called D w)) (lt-ltb 0 (symbol_called D w) (omega arith))) k;
        };
        sorted = ap₂ (alone_fine D) z e ∙ takes;
        term = ap₂ alone_term z e;
        sort = ap₂ (alone_sort D) z e;
      }

  takes_some : (g f : ℕ) → g ≡ f → accepts D g [] ≡ false → accepts D f [] ≡ true → ⊥
  takes_some g f e some takes = false≢true (sym some ∙ ap (λ (g : ℕ). accepts D g []) e ∙ takes)

  pub symbol_read : (w : Word) {f : ℕ} {rest : List Lexeme} → symbol_for (length D.symbols) w 0 ≡ f → (f ≡ 0 → ⊥) → accepts D f [] ≡ true
      → ReadAs D (word w ∷ rest) rest (app f none) (result_sort D (signature_of D f))
  unfolding symbol_for accepts signature_of signature kind_of_symbol symbol_kind argument_sorts same_list spell names fine plain head_sort
  symbol_read (constant v) {f} {rest} e ne takes = record {
    spelled = record { formula = truth v; spells = refl; known = λ ns k. k };
    sorted = refl;
    term = ap (λ (g : ℕ). app g none) e;
    sort = sym (constant_sort D v) ∙ ap (λ (g : ℕ). result_sort D (signature_of D g)) e;
  }
  symbol_read negation {f} e ne takes = absurd (takes_some 3 f e refl takes)
  symbol_read (connective conjunction) {f} e ne takes = absurd (takes_some 4 f e refl takes)
  symbol_read (connective disjunction) {f} e ne takes = absurd (takes_some 5 f e refl takes)
  symbol_read (connective implication) {f} e ne takes = absurd (takes_some 6 f e refl takes)
  symbol_read (connective equality) {f} e ne takes = absurd (takes_some 7 f e refl takes)
  symbol_read (quantifier q) e ne takes = absurd (ne (sym e))
  symbol_read letting e ne takes = absurd (ne (sym e))
  symbol_read (sort o) e ne takes = absurd (ne (sym e))
  symbol_read (name w) e ne takes = name_read w ((counts_suffice D w).symbol ∙ e) ne takes

  -- ---- parts, one after another

  no_parts : (bound : Bool) {rest : List Lexeme} → PartsAs D bound (closes ∷ rest) rest none [] []
  unfolding spell_parts part_names parts_fine terms_of
  no_parts bound = record {
    spelled = record { parts = []; spells = refl; known = λ ns k. k };
    sorted = refl;
    terms = refl;
    sorts = refl;
    variables = refl;
  }

  module _ {ls here rest : List Lexeme} {τ : Term} {ts : Terms} {s : ℕ} {ss vs : List ℕ} where
    free_part : ReadAs D ls here τ s → PartsAs D false here rest ts ss vs → PartsAs D false ls rest (more τ ts) (s ∷ ss) (0 ∷ vs)
    unfolding spell_parts spell_part after_part part_names parts_fine terms_of
    free_part r p = record {
      spelled = record {
        parts = record { called = []; formula = r.spelled.formula } ∷ p.spelled.parts;
        spells = r.spelled.spells ∙ ap (spell r.spelled.formula) p.spelled.spells;
        known = λ ns k. r.spelled.known (part_names false p.spelled.parts ns) (p.spelled.known ns k);
      };
      sorted = and_from (fine D r.spelled.formula) (parts_fine D p.spelled.parts) r.sorted p.sorted;
      terms = ap₂ more r.term p.terms;
      sorts = ap₂ ◌∷◌ r.sort p.sorts;
      variables = ap (λ (l : List ℕ). 0 ∷ l) p.variables;
    }

    bound_part : (w : List ℕ) → (variable_called D w ≡ 0 → ⊥) → ReadAs D ls (closes ∷ here) τ s → PartsAs D true here rest ts ss vs
        → PartsAs D true (opens ∷ word (name w) ∷ ls) rest (more τ ts) (s ∷ ss) (variable_called D w ∷ vs)
    unfolding spell_parts spell_part after_part part_names parts_fine terms_of
    bound_part w h r p =
        let φ : Formula = r.spelled.formula in
        let ps : List Part = p.spelled.parts in
        record {
          spelled = record {
            parts = record { called = w; formula = φ } ∷ ps;
            spells = ap (λ (l : List Lexeme). opens ∷ word (name w) ∷ l)
                (r.spelled.spells ∙ ap (λ (l : List Lexeme). spell φ (closes ∷ l)) p.spelled.spells);
            known = λ ns k. known_more (record { place = variableOnly; spelled = w }) (names φ (part_names true ps ns)) (variable_known w h)
                (r.spelled.known (part_names true ps ns) (p.spelled.known ns k));
          };
          sorted = and_from (fine D φ) (parts_fine D ps) r.sorted p.sorted;
          terms = ap₂ more r.term p.terms;
          sorts = ap₂ ◌∷◌ r.sort p.sorts;
          variables = ap (λ (l : List ℕ). variable_called D w ∷ l) p.variables;
        }

  pub parts_start : (bound : Bool) (ls : List Lexeme) (b : Bundle) → PartsSoFar D bound ls ls b b [] [] []
  parts_start bound ls b rest ts ss vs p = record { all = ts; read = p; terms = refl; bundle = refl }

  -- the first of those that follow goes to those so far
  one_on : {bound : Bool} {ls₀ rest : List Lexeme} {b₀ b : Bundle} {Ts Ss Vs : List ℕ} {τ : Term} {ts : Terms} {s v : ℕ} {ss vs : List ℕ}
      → AllParts D bound ls₀ rest b₀ b Ts Ss Vs (more τ ts) (s ∷ ss) (v ∷ vs)
      → AllParts D bound ls₀ rest b₀ (file τ b).bundle (Ts ++ ((file τ b).term ∷ [])) (Ss ++ (s ∷ [])) (Vs ++ (v ∷ [])) ts ss vs
  unfolding file_all
  one_on {bound} {ls₀} {rest} {b₀} {b} {Ts} {Ss} {Vs} {τ} {ts} {s} {v} {ss} {vs} q = record {
    all = q.all;
    read = subst (λ (l : List ℕ). PartsAs D bound ls₀ rest q.all l ((Vs ++ (v ∷ [])) ++ vs)) (sym (append_assoc Ss (s ∷ []) ss))
        (subst (λ (l : List ℕ). PartsAs D bound ls₀ rest q.all (Ss ++ (s ∷ ss)) l) (sym (append_assoc Vs (v ∷ []) vs)) q.read);
    terms = q.terms ∙ sym (append_assoc Ts ((file τ b).term ∷ []) (file_all ts (file τ b).bundle).terms);
    bundle = q.bundle;
  }

  pub part_on : {ls₀ ls here : List Lexeme} {b₀ b : Bundle} {Ts Ss Vs : List ℕ} {τ : Term} {s : ℕ} → PartsSoFar D false ls₀ ls b₀ b Ts Ss Vs
      → ReadAs D ls here τ s
      → PartsSoFar D false ls₀ here b₀ (file τ b).bundle (Ts ++ ((file τ b).term ∷ [])) (Ss ++ (s ∷ [])) (Vs ++ (0 ∷ []))
  part_on {τ = τ} {s = s} so_far r rest ts ss vs p = one_on (so_far rest (more τ ts) (s ∷ ss) (0 ∷ vs) (free_part r p))

  pub pair_on : (w : List ℕ) {ls₀ ls here : List Lexeme} {b₀ b : Bundle} {Ts Ss Vs : List ℕ} {τ : Term} {s : ℕ} → (variable_called D w ≡ 0 → ⊥)
      → PartsSoFar D true ls₀ (opens ∷ word (name w) ∷ ls) b₀ b Ts Ss Vs → ReadAs D ls (closes ∷ here) τ s
      → PartsSoFar D true ls₀ here b₀ (file τ b).bundle (Ts ++ ((file τ b).term ∷ [])) (Ss ++ (s ∷ [])) (Vs ++ (variable_called D w ∷ []))
  pair_on w {τ = τ} {s = s} ne so_far r rest ts ss vs p = one_on (so_far rest (more τ ts) (s ∷ ss) (variable_called D w ∷ vs) (bound_part w ne r p))

  -- the list's end
  pub record PartsEnded (bound : Bool) (ls₀ rest : List Lexeme) (b₀ b : Bundle) (Ts Ss Vs : List ℕ) : Type 0 where
    pub all : Terms
    pub read : PartsAs D bound ls₀ rest all Ss Vs
    pub terms : (file_all all b₀).terms ≡ Ts
    pub bundle : (file_all all b₀).bundle ≡ b

  pub parts_end : {bound : Bool} {ls₀ rest : List Lexeme} {b₀ b : Bundle} {Ts Ss Vs : List ℕ} → PartsSoFar D bound ls₀ (closes ∷ rest) b₀ b Ts Ss Vs
      → PartsEnded bound ls₀ rest b₀ b Ts Ss Vs
  unfolding file_all
  parts_end {bound} {ls₀} {rest} {b₀} {b} {Ts} {Ss} {Vs} so_far =
      let q : AllParts D bound ls₀ rest b₀ b Ts Ss Vs none [] [] = so_far rest none [] [] (no_parts bound) in
      record {
        all = q.all;
        read = subst (λ (l : List ℕ). PartsAs D bound ls₀ rest q.all l Vs) (append-nil Ss)
            (subst (λ (l : List ℕ). PartsAs D bound ls₀ rest q.all (Ss ++ []) l) (append-nil Vs) q.read);
        terms = q.terms ∙ append-nil Ts;
        bundle = q.bundle;
      }

  -- ---- variables of a quantifier

  pub under_none : (q : Binder) {ls rest : List Lexeme} {τ : Term} → ReadAs D ls (closes ∷ rest) τ truth_sort → UnderAs D q (closes ∷ ls) rest τ
  unfolding spell_variables variable_names sorts_declared nested
  under_none q r = record {
    spelled = record {
      variables = [];
      body = r.spelled.formula;
      spells = ap (λ (l : List Lexeme). closes ∷ l) r.spelled.spells;
      known = r.spelled.known;
    };
    sorted = r.sorted;
    declares = refl;
    truth = r.sort;
    term = r.term;
  }

  pub under_more : (q : Binder) (w : List ℕ) (o : SortWord) {x : ℕ} {ls rest : List Lexeme} {τ : Term} → variable_called D w ≡ x → (x ≡ 0 → ⊥)
      → sort_of_variable D x ≡ sort_number o → UnderAs D q ls rest τ
      → UnderAs D q (opens ∷ word (name w) ∷ word (sort o) ∷ closes ∷ ls) rest (bind q x τ)
  unfolding spell_variables spell_variable variable_names sorts_declared nested
  under_more q w o e ne sorted u =
      let xs : List SortedVariable = u.spelled.variables in
      record {
        spelled = record {
          variables = declares w o ∷ xs;
          body = u.spelled.body;
          spells = ap (λ (l : List Lexeme). opens ∷ word (name w) ∷ word (sort o) ∷ closes ∷ l) u.spelled.spells;
          known = λ ns k. known_more (record { place = variableOnly; spelled = w }) (variable_names xs (names u.spelled.body ns))
              (variable_known w (λ z. ne (sym e ∙ z))) (u.spelled.known ns k);
        };
        sorted = u.sorted;
        declares = and_from (eqb (sort_of_variable D (variable_called D w)) (sort_number o)) (sorts_declared D xs)
            (eq-eqb (sort_of_variable D (variable_called D w)) (sort_number o) (ap (sort_of_variable D) e ∙ sorted)) u.declares;
        truth = u.truth;
        term = ap₂ (bind q) e u.term;
      }

  -- ---- what stands in brackets

  -- the facts of parts, by the parts
  record Facts (bound : Bool) (ls rest : List Lexeme) (ts : Terms) (ss vs : List ℕ) (ps : List Part) : Type 0 where
    spells : ls ≡ spell_parts bound ps rest
    known : (ns : List Name) → Known D ns → Known D (part_names bound ps ns)
    sorted : parts_fine D ps ≡ true
    terms : terms_of D ps ≡ ts
    sorts : map (part_sort D) ps ≡ ss
    variables : map (variable_of D bound) ps ≡ vs

  facts : {bound : Bool} {ls rest : List Lexeme} {ts : Terms} {ss vs : List ℕ} (p : PartsAs D bound ls rest ts ss vs)
      → Facts bound ls rest ts ss vs p.spelled.parts
  facts p = record {
    spells = p.spelled.spells;
    known = p.spelled.known;
    sorted = p.sorted;
    terms = p.terms;
    sorts = p.sorts;
    variables = p.variables;
  }

  abbrev formulas_of : List Part → Formulas
  formulas_of [] = no_formula
  formulas_of (p ∷ ps) = and_formula p.formula (formulas_of ps)

  record FormulasOf (ps : List Part) : Type 0 where
    spells : (rest : List Lexeme) → spell_parts false ps rest ≡ spell_formulas (formulas_of ps) rest
    named : (ns : List Name) → part_names false ps ns ≡ names_of_all (formulas_of ps) ns
    sorted : fine_all D (formulas_of ps) ≡ parts_fine D ps
    terms : plain_all D (formulas_of ps) ≡ terms_of D ps
    sorts : head_sorts D (formulas_of ps) ≡ map (part_sort D) ps

  formulas_as : (ps : List Part) → FormulasOf ps
  unfolding spell_parts spell_part after_part spell part_names names fine plain head_sorts parts_fine terms_of
  formulas_as [] = record { spells = λ rest. refl; named = λ ns. refl; sorted = refl; terms = refl; sorts = refl }
  formulas_as (p ∷ ps) =
      let h : FormulasOf ps = formulas_as ps in
      record {
        spells = λ rest. ap (spell p.formula) (h.spells rest);
        named = λ ns. ap (names p.formula) (h.named ns);
        sorted = ap (λ (q : Bool). fine D p.formula && q) h.sorted;
        terms = ap (more (plain D p.formula)) h.terms;
        sorts = ap (λ (l : List ℕ). head_sort D p.formula ∷ l) h.sorts;
      }

  abbrev bindings : List Part → Bindings
  bindings [] = no_binding
  bindings (p ∷ ps) = and_binding p.called p.formula (bindings ps)

  record BindingsOf (ps : List Part) : Type 0 where
    spells : (rest : List Lexeme) → spell_parts true ps rest ≡ spell_bindings (bindings ps) rest
    named : (ns : List Name) → part_names true ps ns ≡ names_bound (bindings ps) ns
    sorted : fine_bound D (bindings ps) ≡ parts_fine D ps
    terms : plain_bound D (bindings ps) ≡ terms_of D ps
    sorts : bound_sorts D (bindings ps) ≡ map (part_sort D) ps
    variables : bound_names D (bindings ps) ≡ map (variable_of D true) ps

  bindings_as : (ps : List Part) → BindingsOf ps
  unfolding spell_parts spell_part after_part spell part_names names fine plain bound_sorts bound_names parts_fine terms_of
  bindings_as [] = record { spells = λ rest. refl; named = λ ns. refl; sorted = refl; terms = refl; sorts = refl; variables = refl }
  bindings_as (p ∷ ps) =
      let h : BindingsOf ps = bindings_as ps in
      record {
        spells = λ rest. ap (λ (l : List Lexeme). opens ∷ word (name p.called) ∷ spell p.formula (closes ∷ l)) (h.spells rest);
        named = λ ns. ap (λ (l : List Name). record { place = variableOnly; spelled = p.called } ∷ names p.formula l) (h.named ns);
        sorted = ap (λ (q : Bool). fine D p.formula && q) h.sorted;
        terms = ap (more (plain D p.formula)) h.terms;
        sorts = ap (λ (l : List ℕ). head_sort D p.formula ∷ l) h.sorts;
        variables = ap (λ (l : List ℕ). variable_called D p.called ∷ l) h.variables;
      }

  connective_two : (c : Connective) (first : ℕ) → length (argument_sorts D (signature_of D (connective_symbol c first))) ≡ 2
  unfolding connective_symbol argument_sorts signature_of signature kind_of_symbol symbol_kind
  connective_two conjunction first = refl
  connective_two disjunction first = refl
  connective_two implication first = refl
  connective_two equality first = go (eqb first truth_sort)
    where
      go : (p : Bool) → length (argument_sorts D (signature_of D (cond p 7 8))) ≡ 2
      go true = refl
      go false = refl

  -- a symbol with one argument or more, of the sorts s ∷ ss
  module _ (ls rest : List Lexeme) (ts : Terms) (s f : ℕ) (ss vs : List ℕ) (takes : accepts D f (s ∷ ss) ≡ true) where
    abbrev Whole : Word → Type 0
    Whole w = ReadAs D (opens ∷ word w ∷ ls) rest (app f ts) (result_sort D (signature_of D f))

    abbrev These : List Part → Type 0
    These ps = Facts false ls rest ts (s ∷ ss) vs ps

    -- it takes as many as there are parts
    as_many : (ps : List Part) → These ps → (g : ℕ) → g ≡ f → length (argument_sorts D (signature_of D g)) ≡ length (map (part_sort D) ps)
    unfolding accepts
    as_many ps h g e =
        ap length (ap (λ (g : ℕ). argument_sorts D (signature_of D g)) e ∙ same_list_lem (argument_sorts D (signature_of D f)) (s ∷ ss) takes ∙ sym h.sorts)

    -- it takes what is equal
    taken : (g : ℕ) (l : List ℕ) → g ≡ f → l ≡ s ∷ ss → accepts D g l ≡ true
    taken g l e h = ap₂ (accepts D) e h ∙ takes

    applied_name : (w : List ℕ) → symbol_called D w ≡ f → (f ≡ 0 → ⊥) → (ps : List Part) → These ps → Whole (name w)
    unfolding spell spell_parts spell_part after_part names part_names fine plain head_sort head_sorts parts_fine terms_of
    applied_name w e ne [] h = absurd (let z : 0 ≡ length (s ∷ ss) = ap length h.sorts in omega arith)
    applied_name w e ne (p ∷ ps) h =
        let φ : Formula = p.formula in
        let φs : FormulasOf ps = formulas_as ps in
        let os : List ℕ = head_sort D φ ∷ head_sorts D (formulas_of ps) in
        let test : Bool = accepts D (symbol_called D w) os in
        record {
          spelled = record {
            formula = bracketed (applies w φ (formulas_of ps));
            spells = ap (λ (l : List Lexeme). opens ∷ word (name w) ∷ l) (h.spells ∙ ap (spell φ) (φs.spells rest));
            known = λ ns k. known_more (record { place = symbolOnly; spelled = w }) (names φ (names_of_all (formulas_of ps) ns))
                (symbol_known w (λ z. ne (sym e ∙ z)))
                (subst (λ (l : List Name). Known D (names φ l)) (φs.named ns) (h.known ns k));
          };
          sorted = and_from (fine D φ) (fine_all D (formulas_of ps) && test)
              (and_left (fine D φ) (parts_fine D ps) h.sorted)
              (and_from (fine_all D (formulas_of ps)) test
              (φs.sorted ∙ and_right (fine D φ) (parts_fine D ps) h.sorted)
              (taken (symbol_called D w) os e
              (ap (λ (l : List ℕ). head_sort D φ ∷ l) φs.sorts ∙ h.sorts)));
          term = ap₂ app e (ap (more (plain D φ)) φs.terms ∙ h.terms);
          sort = ap (λ (g : ℕ). result_sort D (signature_of D g)) e;
        }

    one : 3 ≡ f → (ps : List Part) → These ps → 1 ≡ length (map (part_sort D) ps)
    unfolding argument_sorts signature_of signature kind_of_symbol symbol_kind
    one e ps h = as_many ps h 3 e

    applied_not : 3 ≡ f → (ps : List Part) → These ps → Whole negation
    unfolding spell spell_parts spell_part after_part names part_names fine plain head_sort parts_fine terms_of
    applied_not e [] h = absurd (let z : 1 ≡ 0 = one e [] h in omega arith)
    applied_not e (p ∷ []) h = record {
      spelled = record {
        formula = bracketed (denies p.formula);
        spells = ap (λ (l : List Lexeme). opens ∷ word negation ∷ l) h.spells;
        known = h.known;
      };
      sorted = and_from (fine D p.formula) (accepts D 3 (head_sort D p.formula ∷ [])) (and_left (fine D p.formula) true h.sorted)
          (taken 3 (head_sort D p.formula ∷ []) e h.sorts);
      term = ap₂ app e h.terms;
      sort = ap (λ (g : ℕ). result_sort D (signature_of D g)) e;
    }
    applied_not e (p ∷ q ∷ ps) h = absurd (let z : 1 ≡ suc (suc (length (map (part_sort D) ps))) = one e (p ∷ q ∷ ps) h in omega arith)

    two : (c : Connective) → connective_symbol c s ≡ f → (ps : List Part) → These ps → 2 ≡ length (map (part_sort D) ps)
    two c e ps h = sym (connective_two c s) ∙ as_many ps h (connective_symbol c s) e

    applied_two : (c : Connective) → connective_symbol c s ≡ f → (ps : List Part) → These ps → Whole (connective c)
    unfolding spell spell_parts spell_part after_part names part_names fine plain head_sort parts_fine terms_of
    applied_two c e [] h = absurd (let z : 2 ≡ 0 = two c e [] h in omega arith)
    applied_two c e (p ∷ []) h = absurd (let z : 2 ≡ 1 = two c e (p ∷ []) h in omega arith)
    applied_two c e (p ∷ q ∷ []) h =
        let φ : Formula = p.formula in
        let ψ : Formula = q.formula in
        let first : head_sort D φ ≡ s = cc h.sorts in
        let same : connective_symbol c (head_sort D φ) ≡ f = ap (connective_symbol c) first ∙ e in
        let os : List ℕ = head_sort D φ ∷ head_sort D ψ ∷ [] in
        let test : Bool = accepts D (connective_symbol c (head_sort D φ)) os in
        let later : (fine D ψ && true) ≡ true = and_right (fine D φ) (fine D ψ && true) h.sorted in
        record {
          spelled = record {
            formula = bracketed (connects c φ ψ);
            spells = ap (λ (l : List Lexeme). opens ∷ word (connective c) ∷ l) h.spells;
            known = h.known;
          };
          sorted = and_from (fine D φ) (fine D ψ && test)
              (and_left (fine D φ) (fine D ψ && true) h.sorted)
              (and_from (fine D ψ) test (and_left (fine D ψ) true later)
              (taken (connective_symbol c (head_sort D φ)) os same h.sorts));
          term = ap₂ app same h.terms;
          sort = ap (λ (g : ℕ). result_sort D (signature_of D g)) same;
        }
    applied_two c e (p ∷ q ∷ r ∷ ps) h =
        absurd (let z : 2 ≡ suc (suc (suc (length (map (part_sort D) ps)))) = two c e (p ∷ q ∷ r ∷ ps) h in omega arith)

    -- a symbol that takes no argument, or is none
    takes_none : (g : ℕ) → g ≡ f → argument_sorts D (signature_of D g) ≡ [] → ⊥
    unfolding accepts
    takes_none g e empty =
        let z : [] ≡ s ∷ ss = sym empty ∙ ap (λ (g : ℕ). argument_sorts D (signature_of D g)) e ∙ same_list_lem (argument_sorts D (signature_of D f)) (s ∷ ss) takes in
        let n : 0 ≡ length (s ∷ ss) = ap length z in
        omega arith

    applied : (w : Word) → symbol_for (length D.symbols) w s ≡ f → (ps : List Part) → These ps → Whole w
    unfolding symbol_for argument_sorts signature_of signature kind_of_symbol symbol_kind
    applied (constant true) e ps h = absurd (takes_none 1 e refl)
    applied (constant false) e ps h = absurd (takes_none 2 e refl)
    applied negation e ps h = applied_not e ps h
    applied (connective c) e ps h = applied_two c e ps h
    applied (quantifier q) e ps h = absurd (takes_none 0 e refl)
    applied letting e ps h = absurd (takes_none 0 e refl)
    applied (sort o) e ps h = absurd (takes_none 0 e refl)
    applied (name w) e ps h = applied_name w ((counts_suffice D w).symbol ∙ e) (λ z. takes_none 0 (sym z) refl) ps h

  -- a symbol, where its first argument has the sort s
  pub application_read : (w : Word) {f s : ℕ} {ss vs : List ℕ} {ls rest : List Lexeme} {ts : Terms} → PartsAs D false ls rest ts (s ∷ ss) vs
      → symbol_for (length D.symbols) w s ≡ f → accepts D f (s ∷ ss) ≡ true
      → ReadAs D (opens ∷ word w ∷ ls) rest (app f ts) (result_sort D (signature_of D f))
  application_read w {f} {s} {ss} {vs} {ls} {rest} {ts} p is takes = applied ls rest ts s f ss vs takes w is p.spelled.parts (facts p)

  pub quantifier_read : (q : Binder) {ls rest inside : List Lexeme} {τ : Term} → ls ≡ opens ∷ inside → UnderAs D q ls rest τ
      → ReadAs D (opens ∷ word (quantifier q) ∷ opens ∷ ls) rest τ truth_sort
  unfolding spell spell_variables spell_variable names variable_names fine plain head_sort
  quantifier_read q {ls} {rest} {inside} {τ} starts u = go u.spelled.variables u.spelled.spells u.spelled.known u.declares u.term
    where
      go : (xs : List SortedVariable) → ls ≡ spell_variables xs (spell u.spelled.body (closes ∷ rest))
          → ((ns : List Name) → Known D ns → Known D (variable_names xs (names u.spelled.body ns)))
          → sorts_declared D xs ≡ true → nested D q xs (plain D u.spelled.body) ≡ τ
          → ReadAs D (opens ∷ word (quantifier q) ∷ opens ∷ ls) rest τ truth_sort
      go [] e k d t = absurd (opens_closes (sym starts ∙ e))
      go (x ∷ xs) e k d t =
          let φ : Formula = u.spelled.body in
          let test : Bool = eqb (head_sort D φ) truth_sort in
          record {
            spelled = record {
              formula = bracketed (quantifies q x xs φ);
              spells = ap (λ (l : List Lexeme). opens ∷ word (quantifier q) ∷ opens ∷ l) e;
              known = k;
            };
            sorted = and_from (fine D φ) (sorts_declared D (x ∷ xs) && test) u.sorted
                (and_from (sorts_declared D (x ∷ xs)) test d (eq-eqb (head_sort D φ) truth_sort u.truth));
            term = t;
            sort = refl;
          }

  pub let_read : {ls here rest inside : List Lexeme} {ts : Terms} {ss vs : List ℕ} {τ : Term} {s : ℕ} → ls ≡ opens ∷ inside
      → PartsAs D true ls here ts ss vs → ReadAs D here (closes ∷ rest) τ s → different vs ≡ true → same_list (map (sort_of_variable D) vs) ss ≡ true
      → ReadAs D (opens ∷ word letting ∷ opens ∷ ls) rest (let_in vs ts τ) s
  unfolding spell spell_parts spell_part after_part names part_names fine plain head_sort bound_sorts bound_names parts_fine terms_of
  let_read {ls} {here} {rest} {inside} {ts} {ss} {vs} {τ} {s} starts p r distinct agree = go p.spelled.parts (facts p)
    where
      go : (ps : List Part) → Facts true ls here ts ss vs ps → ReadAs D (opens ∷ word letting ∷ opens ∷ ls) rest (let_in vs ts τ) s
      go [] h = absurd (opens_closes (sym starts ∙ h.spells))
      go (x ∷ ps) h =
          let xs : BindingsOf ps = bindings_as ps in
          let ψ : Formula = r.spelled.formula in
          let φ : Formula = x.formula in
          let ns : List ℕ = variable_called D x.called ∷ bound_names D (bindings ps) in
          let os : List ℕ = head_sort D φ ∷ bound_sorts D (bindings ps) in
          let named : ns ≡ vs = ap (λ (l : List ℕ). variable_called D x.called ∷ l) xs.variables ∙ h.variables in
          let sorts : os ≡ ss = ap (λ (l : List ℕ). head_sort D φ ∷ l) xs.sorts ∙ h.sorts in
          let agreeing : Bool = same_list (map (sort_of_variable D) ns) os in
          record {
            spelled = record {
              formula = bracketed (lets x.called φ (bindings ps) ψ);
              spells = ap (λ (l : List Lexeme). opens ∷ word letting ∷ opens ∷ l)
                  (h.spells ∙ ap (λ (l : List Lexeme). opens ∷ word (name x.called) ∷ spell φ (closes ∷ l))
                  (ap (spell_parts true ps) r.spelled.spells ∙ xs.spells (spell ψ (closes ∷ rest))));
              known = λ l k. subst (λ (l : List Name). Known D (record { place = variableOnly; spelled = x.called } ∷ names φ l))
                  (xs.named (names ψ l)) (h.known (names ψ l) (r.spelled.known l k));
            };
            sorted = and_from (fine D φ) (fine_bound D (bindings ps) && (fine D ψ && (different ns && agreeing)))
                (and_left (fine D φ) (parts_fine D ps) h.sorted)
                (and_from (fine_bound D (bindings ps)) (fine D ψ && (different ns && agreeing))
                (xs.sorted ∙ and_right (fine D φ) (parts_fine D ps) h.sorted)
                (and_from (fine D ψ) (different ns && agreeing) r.sorted
                (and_from (different ns) agreeing (ap different named ∙ distinct)
                (ap₂ (λ (a b : List ℕ). same_list (map (sort_of_variable D) a) b) named sorts ∙ agree))));
            term = ap (λ (l : List ℕ). let_in l (more (plain D φ) (plain_bound D (bindings ps))) (plain D ψ)) named
                ∙ ap₂ (let_in vs) (ap (more (plain D φ)) xs.terms ∙ h.terms) r.term;
            sort = r.sort;
          }
