-- Reading in one pass, turn by turn: what each return gives, from what its calls gave.
--     gives_from, bracket_gives, heads_as, alone_gives         a formula
--     quantifier_gives, last_under, next_under                 a quantifier
--     Applying, applying_first, applying_on, applied_gives     the arguments of a symbol
--     bound_gives                                              a pair of a let
--     Letting, letting_first, letting_on, let_gives            a let
--     text_read                                                a whole text
use Prim.Native.Nat.{ℕ, ◌≤◌, ◌<◌}
use native.Mathlib.Omega.{arith}
use mathlib.Core.Path.{◌≡◌, refl, sym, ap, ap₂, ◌∙◌, subst}
use mathlib.Core.Bool.{Bool, true, false, cond, not, ◌&&◌}
use mathlib.Core.List.{List, [], ◌∷◌, ◌++◌, map, map-append, append_assoc, append-nil}
use lib.ListN.{length, get_or, take, drop, length-drop}
use lib.Seq.{take-append_seam, drop-append_seam}
use lib.Dec.{eqb}
use borrow.Author.Tests.{eqb-true, not-true}
use Rattle.std.proofs.lemmas.List.{same_from_push}
use Rattle.bundle.specs.Words.{largest_word}
use Rattle.bundle.specs.Bundle.{Bundle, sort_of_variable}
use Rattle.bundle.specs.Lists.{has, different}
use Rattle.logic.specs.Named.{binder_in}
use Rattle.logic.specs.Symbols.{truth_sort, signature_of, result_sort}
use Rattle.logic.specs.Terms.{Binder, Term, var, app, bind, let_in, none}
use Rattle.logic.specs.declared.kinds.Binder.{Binder as BinderName}
use Rattle.logic.proofs.Tests.{list_same}
use Rattle.scratch.specs.Stack.{half_of, halves_of}
use Rattle.expansion.specs.Placed.{PlacedTerm}
use Rattle.grammar.specs.Bytes.{Word, quantifier, letting, sort, name}
use Rattle.grammar.specs.Grammar.{Formula, Lexeme, opens, closes, word, between, last, lexemes, spell, spelling}
use Rattle.grammar.specs.Names.{all_known}
use Rattle.reading.specs.Called.{variable_called}
use Rattle.reading.specs.Records.{file, file_all}
use Rattle.lexing.specs.Counted.{variable_among}
use Rattle.lexing.specs.Lexes.{lexemes_of, Tail}
use Rattle.lexing.specs.Words.{sort_in}
use Rattle.lexing.proofs.SkipLaws.{past}
use Rattle.lexing.proofs.Tails.{tail_after}
use Rattle.formulas.proofs.PartTerms.{variable_called_lem}
use Rattle.pass_tokens.specs.declared.Meaning.{Meaning}
use Rattle.pass_tokens.specs.declared.Meaning.TheVariants as means
use Rattle.pass_tokens.specs.Tokens.{Blanks, equal_on, Means, WordTo, Heads, HeadTo, BoundTo}
use Rattle.pass_tokens.proofs.BlankLaws.{opens_next, closes_next}
use Rattle.pass_terms.specs.Passing.{DeclaredTo, OnTop, PairPut, ApplicationPut, AlonePut, BinderPut, TruthClosed, Named, LetPut}
use Rattle.pass_readings.specs.Readings.{PartsAs, PartsSoFar}
use Rattle.pass_readings.proofs.ReadingLaws.{variable_read, symbol_read, parts_start, part_on, pair_on, PartsEnded, parts_end, under_none, under_more}
use Rattle.pass_readings.proofs.ReadingLaws.{application_read, quantifier_read, let_read}
use Rattle.pass_formulas.specs.PassGives.{SymbolIs, Gives, GivesUnder, GivesBound, TextRead}
use Rattle.pass_formulas.proofs.ListLaws.{different_more}

-- ---- what is left of a text

tail_fewer : {text rest : List ℕ} → Tail text rest → length rest ≤ length text
tail_fewer {text} (k, l, e) = omega (arith, ap (length {A = ℕ}) e, length-drop k text)

-- ---- numbers

equal_on_truth : (n : ℕ) → equal_on n 0 ≡ n
equal_on_truth n = go (eqb n 7)
  where
    go : (p : Bool) → cond (p && false) 8 n ≡ n
    go true = refl
    go false = refl

-- ---- the stack

-- the pair on top, where it is known what was laid last
module _ {p : PlacedTerm} {s : ℕ} {st st' : List ℕ} {b' : Bundle} (put : PairPut p s st b' st') {pair : ℕ} (t : OnTop st' pair) where
  top_is : (t.below ≡ st) × (pair ≡ put.laid.pair)
  top_is = same_from_push t.below st pair put.laid.pair (sym t.stacked ∙ put.laid.stacked)

  top_term : half_of true pair ≡ p.term
  top_term = ap (half_of true) top_is.1 ∙ put.laid.upper

  top_sort : half_of false pair ≡ s
  top_sort = ap (half_of false) top_is.1 ∙ put.laid.lower

-- the halves of pairs, and of one more
halves_more : (u : Bool) (ps : List ℕ) (pair : ℕ) {x : ℕ} → half_of u pair ≡ x → halves_of u (ps ++ (pair ∷ [])) ≡ halves_of u ps ++ (x ∷ [])
halves_more u ps pair e = map-append (half_of u) ps (pair ∷ []) ∙ ap (λ (y : ℕ). halves_of u ps ++ (y ∷ [])) e

-- pairs that stand above others
module _ (st₀ ps : List ℕ) {st : List ℕ} {h : ℕ} (height : h ≡ length st₀) (stacked : st ≡ st₀ ++ ps) where
  pub above_is : drop h st ≡ ps
  above_is = ap₂ drop height stacked ∙ drop-append_seam st₀ ps

  pub below_is : take h st ≡ st₀
  below_is = ap₂ take height stacked ∙ take-append_seam st₀ ps

module _ (D : Bundle) where
  called_is : (w : List ℕ) {x : ℕ} → variable_among (length D.variables) w ≡ x → variable_called D w ≡ x
  called_is w e = sym (variable_called_lem D w) ∙ e

  -- ---- a formula

  module _ {b : Bundle} {st rest : List ℕ} {b' : Bundle} {st' : List ℕ} where
    -- from an earlier byte, where the same stands
    pub gives_from : {text t : List ℕ} {ls ls' : List Lexeme} → Tail text t → ls ≡ ls' → Gives D t b st ls rest b' st'
        → Gives D text b st ls' rest b' st'
    gives_from here e g = record {
      tail = tail_after here g.tail;
      fewer = omega (arith, tail_fewer here, g.fewer);
      term = g.term;
      sort = g.sort;
      read = rw (← e) g.read;
      put = g.put;
    }

    pub bracket_gives : {text t : List ℕ} → get_or text 0 0 ≡ 40 → t ≡ drop 1 text → Gives D t b st (opens ∷ lexemes_of t) rest b' st'
        → Gives D text b st (lexemes_of text) rest b' st'
    bracket_gives {text} e is g =
        let o = opens_next text e in
        gives_from (1, o.some, is) (ap (λ (t : List ℕ). opens ∷ lexemes_of t) is ∙ sym o.next) g

    pub quantifier_gives : {text t : List ℕ} {q : Binder} {ls : List Lexeme} → Tail text t
        → lexemes_of text ≡ word (quantifier q) ∷ opens ∷ lexemes_of t → lexemes_of t ≡ opens ∷ ls → GivesUnder D t b st q rest b' st'
        → Gives D text b st (opens ∷ lexemes_of text) rest b' st'
    quantifier_gives {q = q} here e starts g = record {
      tail = tail_after here g.tail;
      fewer = omega (arith, tail_fewer here, g.fewer);
      term = g.term;
      sort = truth_sort;
      read = rw e (quantifier_read D q starts g.read);
      put = g.put;
    }

  -- what a head means, where it is m
  pub heads_as : {text rest : List ℕ} {k m : Meaning} → HeadTo (length D.symbols) text rest k → k ≡ m → Heads (length D.symbols) text rest m
  heads_as h e = rw e at h.heads

  module _ {text rest : List ℕ} {b : Bundle} {st : List ℕ} {b' : Bundle} {st' : List ℕ} where
    alone_as : (m : Meaning) → Tail text rest → length rest < length text → Means (length D.symbols) (length D.variables) text rest m → AlonePut D b st b' st' m
        → Gives D text b st (lexemes_of text) rest b' st'
    unfolding file
    alone_as (means.Variable x) tail fewer m p =
        let (w, stands, is, some) = m.1 in
        record {
          tail = tail;
          fewer = fewer;
          term = var x;
          sort = sort_of_variable D x;
          read = rw stands (variable_read D w (called_is w is) some);
          put = p;
        }
    alone_as (means.Symbol f) tail fewer m p =
        let (w, stands, is, some) = m.1 in
        record {
          tail = tail;
          fewer = fewer;
          term = app f none;
          sort = result_sort D (signature_of D f);
          read = rw stands (symbol_read D w (is 0 (omega arith) ∙ equal_on_truth f) some p.0);
          put = p.1;
        }
    alone_as (means.Binder q) tail fewer m p = absurd p
    alone_as means.Let tail fewer m p = absurd p
    alone_as (means.Sort s) tail fewer m p = absurd p

    pub alone_gives : {m : Meaning} → WordTo (length D.symbols) (length D.variables) text rest m → AlonePut D b st b' st' m
        → Gives D text b st (lexemes_of text) rest b' st'
    alone_gives {m} at p = alone_as m at.tail at.fewer at.means p

  -- ---- a quantifier

  -- the texts as they are read: the list ends in t₁, and the body starts in t₃
  pub last_under : {text t₁ t₂ t₃ t₄ rest : List ℕ} {b : Bundle} {st : List ℕ} {b' : Bundle} {st' : List ℕ} (q : Binder) → Blanks text t₁
      → get_or t₁ 0 0 ≡ 41 → t₂ ≡ drop 1 t₁ → Blanks t₂ t₃ → Gives D t₃ b st (lexemes_of t₃) t₄ b' st' → TruthClosed t₄ st' rest
      → GivesUnder D text b st q rest b' st'
  last_under {text} {t₁} {t₂} {t₃} {t₄} {rest} {b} {st} {b'} {st'} q skipped is behind after g z =
      let o = closes_next t₁ is in
      let here : Tail text t₃ = tail_after skipped.tail (tail_after (1, o.some, behind) after.tail) in
      let sort : g.sort ≡ truth_sort = sym (top_sort g.put z.top) ∙ z.truth in
      let stands : lexemes_of text ≡ closes ∷ lexemes_of t₃ =
      skipped.same ∙ o.next ∙ ap (λ (t : List ℕ). closes ∷ lexemes_of t) (sym behind) ∙ ap (λ (l : List Lexeme). closes ∷ l) after.same in
      record {
        tail = tail_after here (tail_after g.tail z.closed.tail);
        fewer = omega (arith, tail_fewer here, g.fewer, z.closed.fewer);
        term = g.term;
        read = rw stands (under_none D q (rw (sort, z.closed.closed) at g.read));
        put = rw sort at g.put;
      }

  pub next_under : {text t₁ t₂ rest : List ℕ} {b : Bundle} {st : List ℕ} {b₁ : Bundle} {st₁ : List ℕ} {b' : Bundle} {st' : List ℕ} {x : ℕ} (q : BinderName)
      → Blanks text t₁ → DeclaredTo D t₁ t₂ x → GivesUnder D t₂ b st (binder_in q) rest b₁ st₁ → BinderPut b₁ st₁ q x b' st'
      → GivesUnder D text b st (binder_in q) rest b' st'
  unfolding file
  next_under {text} {t₁} {t₂} {rest} {b} {st} {b₁} {st₁} {b'} {st'} {x} q skipped declares g p =
      let d = declares.listed in
      let listed : List Lexeme = opens ∷ word (name d.called) ∷ word (sort (sort_in declares.said)) ∷ closes ∷ lexemes_of t₂ in
      let stands : lexemes_of text ≡ listed = skipped.same ∙ d.listed in
      record {
        tail = tail_after skipped.tail (tail_after d.tail g.tail);
        fewer = omega (arith, skipped.fewer, d.fewer, g.fewer);
        term = bind (binder_in q) x g.term;
        read = rw stands
            (under_more D (binder_in q) d.called (sort_in declares.said) (called_is d.called d.variable) d.some declares.sort g.read);
        put = rw (← g.put.bundle, ← top_term g.put p.top, ← (top_is g.put p.top).0) p.put;
      }

  -- ---- the arguments of a symbol

  -- from the text t₀ on, with the bundle b₀ and the stack st₀; the text t is left
  pub record Applying (b₀ : Bundle) (st₀ t₀ : List ℕ) (h : ℕ) (b : Bundle) (st t : List ℕ) : Type 0 where
    pub height : h ≡ length st₀
    pub tail : Tail t₀ t
    pub fewer : length t ≤ length t₀
    pub pairs : List ℕ
    pub stacked : st ≡ st₀ ++ pairs
    pub variables : List ℕ
    pub so_far : PartsSoFar D false (lexemes_of t₀) (lexemes_of t) b₀ b (halves_of true pairs) (halves_of false pairs) variables

  pub applying_first : (b : Bundle) {st text t : List ℕ} {h : ℕ} → h ≡ length st → Blanks text t → Applying b st text h b st t
  applying_first b {st} {text} {t} height skipped = record {
    height = height;
    tail = skipped.tail;
    fewer = skipped.fewer;
    pairs = [];
    stacked = sym (append-nil st);
    variables = [];
    so_far = rw (← skipped.same) (parts_start D false (lexemes_of text) b);
  }

  module _ {b₀ : Bundle} {st₀ t₀ : List ℕ} {h : ℕ} {b : Bundle} {st t : List ℕ} where
    pub applying_on : {b₁ : Bundle} {st₁ t₁ t₂ : List ℕ} → Applying b₀ st₀ t₀ h b st t → Gives D t b st (lexemes_of t) t₁ b₁ st₁ → Blanks t₁ t₂
        → Applying b₀ st₀ t₀ h b₁ st₁ t₂
    applying_on {b₁} {st₁} {t₁} {t₂} v g skipped =
        let ps : List ℕ = v.pairs ++ (g.put.laid.pair ∷ []) in
        record {
          height = v.height;
          tail = tail_after v.tail (tail_after g.tail skipped.tail);
          fewer = omega (arith, v.fewer, g.fewer, skipped.fewer);
          pairs = ps;
          stacked = g.put.laid.stacked ∙ ap (λ (s : List ℕ). s ++ (g.put.laid.pair ∷ [])) v.stacked ∙ append_assoc st₀ v.pairs (g.put.laid.pair ∷ []);
          variables = v.variables ++ (0 ∷ []);
          so_far =
              rw (← skipped.same, g.put.bundle, halves_more true v.pairs g.put.laid.pair g.put.laid.upper, halves_more false v.pairs g.put.laid.pair g.put.laid.lower)
              (part_on D v.so_far g.read);
        }

    -- the first pair, where there is one, is that of the first argument
    pub applied_gives : {first : ℕ} {above : List ℕ} {t₁ : List ℕ} {b' : Bundle} {st' : List ℕ} (n g : ℕ) → g ≡ equal_on n first
        → Applying b₀ st₀ t₀ h b st t → get_or t 0 0 ≡ 41 → t₁ ≡ drop 1 t → above ≡ drop h st → (length above ≡ 0 → ⊥)
        → first ≡ half_of false (get_or above 0 0) → first ≤ 1 → ApplicationPut D b st g h b' st' → (m : Word) → SymbolIs D m n
        → Gives D t₀ b₀ st₀ (opens ∷ word m ∷ lexemes_of t₀) t₁ b' st'
    unfolding file
    applied_gives {first} {above} {t₁} {b'} {st'} n g isg v over behind pairs some one small p m is =
        let z = closes_next t over in
        let above_are : drop h st ≡ v.pairs = above_is st₀ v.pairs v.height v.stacked in
        let all : PartsEnded D false (lexemes_of t₀) (lexemes_of t₁) b₀ b (halves_of true v.pairs) (halves_of false v.pairs) v.variables
        = parts_end D (subst (λ (ls : List Lexeme). PartsSoFar D false (lexemes_of t₀) ls b₀ b (halves_of true v.pairs) (halves_of false v.pairs) v.variables)
        (z.next ∙ ap (λ (x : List ℕ). closes ∷ lexemes_of x) (sym behind)) v.so_far) in
        let sorts : halves_of false v.pairs ≡ first ∷ halves_of false (drop 1 v.pairs) =
        sorts_of v.pairs (λ e. some (ap (length {A = ℕ}) (pairs ∙ above_are) ∙ e)) (one ∙ ap (λ (ps : List ℕ). half_of false (get_or ps 0 0)) (pairs ∙ above_are)) in
        record {
          tail = tail_after v.tail (1, z.some, behind);
          fewer = omega (arith, v.fewer, z.fewer, ap (length {A = ℕ}) behind);
          term = app g all.all;
          sort = result_sort D (signature_of D g);
          read = application_read D m
              (subst (λ (xs : List ℕ). PartsAs D false (lexemes_of t₀) (lexemes_of t₁) all.all xs v.variables) sorts all.read)
              (is first small ∙ sym isg)
              (rw (above_are, sorts) at p.takes);
          put = rw (all.bundle, all.terms, ← above_are, ← below_is st₀ v.pairs v.height v.stacked) p.put;
        }
      where
        sorts_of : (ps : List ℕ) → (length ps ≡ 0 → ⊥) → first ≡ half_of false (get_or ps 0 0) → halves_of false ps ≡ first ∷ halves_of false (drop 1 ps)
        sorts_of [] s e = absurd (s refl)
        sorts_of (x ∷ xs) s e = ap (λ (y : ℕ). y ∷ halves_of false xs) (sym e)

  -- ---- a pair of a let

  pub bound_gives : {text t₁ t₂ rest : List ℕ} {b : Bundle} {st : List ℕ} {h : ℕ} {b' : Bundle} {st₁ st' pairs : List ℕ} {x : ℕ}
      → BoundTo (length D.variables) text t₁ x → pairs ≡ drop h st → not (has x (halves_of false pairs)) ≡ true
      → Gives D t₁ b st (lexemes_of t₁) t₂ b' st₁ → Named D t₂ st₁ x rest st' → GivesBound D text b st h rest b' st'
  bound_gives {text} {t₁} {t₂} {rest} {b} {st} {h} {b'} {st₁} {st'} {pairs} {x} d above new g n =
      let is : variable_called D d.called ≡ x = called_is d.called d.variable in
      record {
        tail = tail_after d.tail (tail_after g.tail n.closed.tail);
        fewer = omega (arith, d.fewer, g.fewer, n.closed.fewer);
        called = d.called;
        follows = lexemes_of t₁;
        starts = d.listed;
        known = λ z. d.some (sym is ∙ z);
        new = ap₂ (λ (y : ℕ) (ps : List ℕ). has y (halves_of false ps)) is (sym above) ∙ not-true (has x (halves_of false pairs)) new;
        term = g.term;
        sort = g.sort;
        read = rw n.closed.closed at g.read;
        sorted = ap (sort_of_variable D) is ∙ n.sort ∙ top_sort g.put n.top;
        put = record {
          bundle = g.put.bundle;
          laid = record {
            pair = n.laid.pair;
            upper = n.laid.upper ∙ top_term g.put n.top;
            lower = n.laid.lower ∙ sym is;
            stacked = n.laid.stacked ∙ ap (λ (s : List ℕ). s ++ (n.laid.pair ∷ [])) (top_is g.put n.top).0;
          };
        };
      }

  -- ---- a let

  pub record Letting (b₀ : Bundle) (st₀ t₀ : List ℕ) (h : ℕ) (b : Bundle) (st t : List ℕ) : Type 0 where
    pub height : h ≡ length st₀
    pub tail : Tail t₀ t
    pub fewer : length t ≤ length t₀
    pub pairs : List ℕ
    pub stacked : st ≡ st₀ ++ pairs
    pub distinct : different (halves_of false pairs) ≡ true
    pub sorts : List ℕ
    pub sorted : map (sort_of_variable D) (halves_of false pairs) ≡ sorts
    pub so_far : PartsSoFar D true (lexemes_of t₀) (lexemes_of t) b₀ b (halves_of true pairs) sorts (halves_of false pairs)

  pub letting_first : (b : Bundle) {st text t : List ℕ} {h : ℕ} → h ≡ length st → Blanks text t → Letting b st text h b st t
  unfolding different
  letting_first b {st} {text} {t} height skipped = record {
    height = height;
    tail = skipped.tail;
    fewer = skipped.fewer;
    pairs = [];
    stacked = sym (append-nil st);
    distinct = refl;
    sorts = [];
    sorted = refl;
    so_far = rw (← skipped.same) (parts_start D true (lexemes_of text) b);
  }

  module _ {b₀ : Bundle} {st₀ t₀ : List ℕ} {h : ℕ} {b : Bundle} {st t : List ℕ} where
    pub letting_on : {b₁ : Bundle} {st₁ t₁ t₂ : List ℕ} → Letting b₀ st₀ t₀ h b st t → GivesBound D t b st h t₁ b₁ st₁ → Blanks t₁ t₂
        → Letting b₀ st₀ t₀ h b₁ st₁ t₂
    letting_on {b₁} {st₁} {t₁} {t₂} v g skipped =
        let x : ℕ = variable_called D g.called in
        let ps : List ℕ = v.pairs ++ (g.put.laid.pair ∷ []) in
        let here : PartsSoFar D true (lexemes_of t₀) (opens ∷ word (name g.called) ∷ g.follows) b₀ b (halves_of true v.pairs) v.sorts (halves_of false v.pairs) =
        rw g.starts at v.so_far in
        let names : halves_of false ps ≡ halves_of false v.pairs ++ (x ∷ []) = halves_more false v.pairs g.put.laid.pair g.put.laid.lower in
        let new : has x (halves_of false v.pairs) ≡ false =
        ap (λ (xs : List ℕ). has x (halves_of false xs)) (sym (above_is st₀ v.pairs v.height v.stacked)) ∙ g.new in
        record {
          height = v.height;
          tail = tail_after v.tail (tail_after g.tail skipped.tail);
          fewer = omega (arith, v.fewer, g.fewer, skipped.fewer);
          pairs = ps;
          stacked = g.put.laid.stacked ∙ ap (λ (s : List ℕ). s ++ (g.put.laid.pair ∷ [])) v.stacked ∙ append_assoc st₀ v.pairs (g.put.laid.pair ∷ []);
          distinct = ap different names ∙ different_more (halves_of false v.pairs) x v.distinct new;
          sorts = v.sorts ++ (g.sort ∷ []);
          sorted = ap (map (sort_of_variable D)) names ∙ map-append (sort_of_variable D) (halves_of false v.pairs) (x ∷ [])
              ∙ ap₂ (λ (xs : List ℕ) (y : ℕ). xs ++ (y ∷ [])) v.sorted g.sorted;
          so_far =
              rw (← skipped.same, g.put.bundle, halves_more true v.pairs g.put.laid.pair g.put.laid.upper, names) (pair_on D g.called g.known here g.read);
        }

    pub let_gives : {t₁ t₂ t₃ rest : List ℕ} {b₁ : Bundle} {st₁ : List ℕ} {b' : Bundle} {st' : List ℕ} → Letting b₀ st₀ t₀ h b st t → get_or t 0 0 ≡ 41
        → t₁ ≡ drop 1 t → Blanks t₁ t₂ → Gives D t₂ b st (lexemes_of t₂) t₃ b₁ st₁ → LetPut t₃ b₁ st₁ h rest b' st'
        → (ls : List Lexeme) → lexemes_of t₀ ≡ opens ∷ ls → Gives D t₀ b₀ st₀ (opens ∷ word letting ∷ opens ∷ lexemes_of t₀) rest b' st'
    unfolding file
    let_gives {t₁} {t₂} {t₃} {rest} {b₁} {st₁} {b'} {st'} v over behind skipped g p ls starts =
        let z = closes_next t over in
        let here : Tail t₀ t₂ = tail_after v.tail (tail_after (1, z.some, behind) skipped.tail) in
        let names : List ℕ = halves_of false v.pairs in
        let all : PartsEnded D true (lexemes_of t₀) (lexemes_of t₂) b₀ b (halves_of true v.pairs) v.sorts names
        = parts_end D (subst (λ (l : List Lexeme). PartsSoFar D true (lexemes_of t₀) l b₀ b (halves_of true v.pairs) v.sorts names)
        (z.next ∙ ap (λ (x : List ℕ). closes ∷ lexemes_of x) (sym behind) ∙ ap (λ (l : List Lexeme). closes ∷ l) skipped.same) v.so_far) in
        let under : p.top.below ≡ st = (top_is g.put p.top).0 in
        let above_are : drop h p.top.below ≡ v.pairs = ap (drop h) under ∙ above_is st₀ v.pairs v.height v.stacked in
        let below_are : take h p.top.below ≡ st₀ = ap (take h) under ∙ below_is st₀ v.pairs v.height v.stacked in
        let c : Bundle = (file_all all.all b₀).bundle in
        let same : b₁ ≡ (file g.term c).bundle = g.put.bundle ∙ ap (λ (d : Bundle). (file g.term d).bundle) (sym all.bundle) in
        let body : half_of true p.body ≡ (file g.term c).term =
        top_term g.put p.top ∙ ap (λ (d : Bundle). (file g.term d).term) (sym all.bundle) in
        record {
          tail = tail_after here (tail_after g.tail p.closed.tail);
          fewer = omega (arith, tail_fewer here, g.fewer, p.closed.fewer);
          term = let_in names all.all g.term;
          sort = g.sort;
          read = let_read D starts all.read
              (rw p.closed.closed at g.read) v.distinct
              (list_same (map (sort_of_variable D) names) v.sorts v.sorted);
          put = rw (← same, all.terms, ← body, ← top_sort g.put p.top, ← below_are) (rw above_are at p.put);
        }

  -- ---- a whole text

  pub text_read : {text t₀ t₁ t₂ t₃ st : List ℕ} {b b' : Bundle} {st' : List ℕ} {pair r : ℕ} → t₀ ≡ text → Blanks t₀ t₁
      → Gives D t₁ b st (lexemes_of t₁) t₂ b' st' → Blanks t₂ t₃ → eqb (length t₃) 0 ≡ true → OnTop st' pair → half_of false pair ≡ 0
      → r ≡ half_of true pair → r ≤ largest_word → TextRead D text b b' r
  unfolding lexemes spelling last all_known
  text_read {text} {t₀} {t₁} {t₂} {t₃} {st} {b} {b'} {st'} {pair} {r} whole first g after over top bool term small =
      let φ : Formula = g.read.spelled.formula in
      let ended : length t₃ ≡ 0 = eqb-true (length t₃) 0 over in
      let none : lexemes_of t₂ ≡ [] = after.same ∙ past t₃ 0 (omega (arith, ended)) between in
      record {
        formula = φ;
        reads = ap lexemes_of (sym whole) ∙ first.same ∙ g.read.spelled.spells ∙ ap (spell φ) none;
        known = g.read.spelled.known [] refl;
        sorted = g.read.sorted;
        truth = g.read.sort ∙ sym (top_sort g.put top) ∙ bool;
        term = term ∙ top_term g.put top ∙ ap (λ (τ : Term). (file τ b).term) (sym g.read.term);
        word = small;
        bundle = g.put.bundle ∙ ap (λ (τ : Term). (file τ b).bundle) (sym g.read.term);
      }
