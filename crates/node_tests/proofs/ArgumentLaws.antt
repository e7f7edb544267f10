-- Arguments against a list of sorts; symbols by their number.
--     Fits, fits_end to fits_on                    the arguments, as `arguments::arguments_fit` goes over them
--     symbol_range                                 what is called a symbol has a declared symbol's number
--     takes_none, takes_list                       the answers of `arguments::symbol_fine`
--     fine_variable, fine_none, fine_list, fine_other   the answers of `arguments::word_fine`
use Prim.Native.Nat.{ℕ, zero, suc, ◌+◌, ◌-◌, ◌≤◌}
use native.Mathlib.Omega.{arith}
use mathlib.Core.Path.{◌≡◌, refl, sym, ap, ◌∙◌}
use mathlib.Core.Bool.{Bool, true, false, cond, not, ◌&&◌, ◌||◌, false≢true}
use mathlib.Core.List.{List, [], ◌∷◌}
use lib.ListN.{length}
use lib.Dec.{eqb, leb}
use borrow.Author.Tests.{leb-true}
use Rattle.bundle.specs.Bundle.{Bundle, symbol_of}
use Rattle.bundle.specs.Links.{items, starts_at}
use Rattle.bundle.specs.Lists.{same_list}
use Rattle.bundle.proofs.Fields.{own_sized}
use Rattle.bundle.proofs.BundleWalks.{same_nil}
use Rattle.bundle.proofs.Walks.{walk_start, walk_start_le}
use Rattle.logic.specs.declared.Signature.TheVariants.{Declared}
use Rattle.logic.specs.Symbols.{signature_of, argument_sorts}
use Rattle.logic.proofs.Tests.{and_left, and_right}
use Rattle.grammar.specs.Bytes.{name}
use Rattle.lexing.specs.Counted.{number_within, variable_among, symbol_among}
use Rattle.lexing.specs.Lexes.{lexemes_of, Leaves}
use Rattle.lexing.specs.Words.{word_in}
use Rattle.lexing.specs.declared.words.Word.{Word}
use Rattle.reading.specs.Called.{number_after, variable_called, symbol_called}
use Rattle.reading.specs.Local.{accepts, alone_fine}
use Rattle.reading.proofs.KnownNames.{declared_signature}
use Rattle.bracketing.specs.Brackets.{after_formula, starts_part, parts_from}
use Rattle.bracketing.specs.Nodes.{sort_from, takes, word_fine}
use Rattle.bracketing.proofs.SortLaws.{variable_is, symbol_is, no_name}
use Rattle.node_tests.proofs.PartLaws.{part_none, part_some}

-- ---- arguments against a list of sorts

abbrev sorts_of : Bundle → List ℕ → List ℕ
sorts_of b text = parts_from (sort_from b) (lexemes_of text)

-- the arguments of the text fit the list where those that are left fit what is left of it
pub record Fits (b : Bundle) (text : List ℕ) (list : ℕ) (left : List ℕ) (rest : List ℕ) : Type 0 where
  pub same : same_list (items b list) (sorts_of b text) ≡ same_list left (sorts_of b rest)

module _ {b : Bundle} {text : List ℕ} {list : ℕ} {left rest : List ℕ} (w : Fits b text list left rest) {p : Bool}
    (part : p ≡ starts_part (lexemes_of rest)) where
  abbrev whole : Bool
  whole = same_list (items b list) (sorts_of b text)

  pub fits_end : left ≡ [] → not p ≡ whole
  unfolding same_list
  fits_end z = go p refl
    where
      go : (q : Bool) → p ≡ q → not q ≡ whole
      go false e = sym (w.same ∙ rw (z, part_none (sort_from b) (lexemes_of rest) (sym part ∙ e)))
      go true e = sym (w.same ∙ rw (z, part_some (sort_from b) (lexemes_of rest) (sym part ∙ e)))

  module _ {v : ℕ} {more : List ℕ} (step : left ≡ v ∷ more) {s : ℕ} (sort : s ≡ sort_from b (lexemes_of rest)) where
    turn : p ≡ true → whole ≡ (eqb v s && same_list more (parts_from (sort_from b) (after_formula (lexemes_of rest))))
    unfolding same_list
    turn e = w.same ∙ rw (step, part_some (sort_from b) (lexemes_of rest) (sym part ∙ e), ← sort)

    pub fits_fails : (not p || not (eqb v s)) ≡ true → false ≡ whole
    unfolding same_list
    fits_fails n = go p (eqb v s) refl refl (sym n)
      where
        go : (q r : Bool) → p ≡ q → eqb v s ≡ r → true ≡ (not p || not (eqb v s)) → false ≡ whole
        go false r e d n = sym (w.same ∙ rw (step, part_none (sort_from b) (lexemes_of rest) (sym part ∙ e)))
        go true false e d n = sym (turn e ∙ rw d)
        go true true e d n = absurd (false≢true (sym (n ∙ rw (e, d))))

    pub fits_on : (not p || not (eqb v s)) ≡ false → {next : List ℕ} → Leaves rest (after_formula (lexemes_of rest)) next → Fits b text list more next
    fits_on n {next} there = go p (eqb v s) refl refl (sym n)
      where
        go : (q r : Bool) → p ≡ q → eqb v s ≡ r → false ≡ (not p || not (eqb v s)) → Fits b text list more next
        go false r e d n = absurd (false≢true (n ∙ rw e))
        go true false e d n = absurd (false≢true (n ∙ rw (e, d)))
        go true true e d n = record { same = turn e ∙ rw (d, ← there.lexemes) }

-- ---- symbols

module _ (b : Bundle) (w : List ℕ) {n : ℕ} (count : n ≡ length b.symbols) where
  pub takes_none : symbol_among n w ≡ 0 → (ss : List ℕ) → true ≡ takes b (symbol_called b w) ss
  unfolding takes
  takes_none z ss = ap (λ f. takes b f ss) (sym z ∙ symbol_is b w count)

  module _ {x : ℕ} (is : x ≡ symbol_among n w) (some : 1 ≤ symbol_among n w) where
    called : symbol_called b w ≡ x
    called = sym (is ∙ symbol_is b w count)

    pub symbol_range : (33 ≤ x) × (x ≤ 32 + n)
    unfolding number_within
    symbol_range = go (leb 33 k && leb k (32 + n)) refl is
      where
        k : ℕ
        k = number_after 102 w

        go : (p : Bool) → (leb 33 k && leb k (32 + n)) ≡ p → x ≡ cond p k 0 → (33 ≤ x) × (x ≤ 32 + n)
        go true q e = rw e (leb-true 33 k (and_left (leb 33 k) (leb k (32 + n)) q), leb-true k (32 + n) (and_right (leb 33 k) (leb k (32 + n)) q))
        go false q e = absurd (omega (arith, some, is, e))

    signed : signature_of b x ≡ Declared (x - 32)
    signed = let (lo, hi) = symbol_range in declared_signature b x lo (omega (arith, hi, count))

    -- a declared symbol takes the sorts of its list
    listed : (list : ℕ) → list ≡ (symbol_of b (x - 32)).sorts → (ss : List ℕ) → accepts b x ss ≡ same_list (items b list) ss
    unfolding accepts argument_sorts
    listed list e ss = rw (signed, e)

    pub takes_list : (list : ℕ) → list ≡ (symbol_of b (x - 32)).sorts → (ss : List ℕ) (r : Bool)
        → r ≡ same_list (items b list) ss → r ≡ takes b (symbol_called b w) ss
    unfolding takes
    takes_list list e ss r h = rw called (go x is (h ∙ sym (listed list e ss)))
      where
        go : (y : ℕ) → y ≡ symbol_among n w → r ≡ accepts b y ss → r ≡ takes b y ss
        go zero z q = absurd (omega (arith, some, z))
        go (suc y) z q = q

-- ---- words alone

module _ (b : Bundle) (w : List ℕ) {v : ℕ} (variables : v ≡ length b.variables) where
  pub fine_variable : 1 ≤ variable_among v w → true ≡ word_fine b (name w)
  unfolding word_fine alone_fine
  fine_variable some = go (variable_called b w) (variable_is b w variables)
    where
      go : (y : ℕ) → variable_among v w ≡ y → true ≡ alone_fine b y (symbol_called b w)
      go zero e = absurd (omega (arith, some, e))
      go (suc y) e = refl

  module _ (none : variable_among v w ≡ 0) where
    alone : accepts b (symbol_called b w) [] ≡ word_fine b (name w)
    unfolding word_fine alone_fine
    alone = ap (λ y. alone_fine b y (symbol_called b w)) (sym none ∙ variable_is b w variables)

    pub fine_none : {n : ℕ} → n ≡ length b.symbols → symbol_among n w ≡ 0 → true ≡ word_fine b (name w)
    unfolding alone_fine signature_of argument_sorts
    fine_none count e = ap (λ f. accepts b f []) (sym e ∙ symbol_is b w count) ∙ alone

    pub fine_list : {n x : ℕ} → n ≡ length b.symbols → x ≡ symbol_among n w → 1 ≤ symbol_among n w → (list first : ℕ)
        → list ≡ (symbol_of b (x - 32)).sorts → first ≡ starts_at (length b.links) list → eqb first 0 ≡ word_fine b (name w)
    fine_list {n} {x} count is some list first e s =
        sym (rw (walk_start b list first s) (same_nil (own_sized b) first (walk_start_le b list first s)))
        ∙ (sym (listed b w count is some list e []) ∙ (ap (λ f. accepts b f []) (is ∙ symbol_is b w count) ∙ alone))

pub fine_other : (b : Bundle) (w : Word) → ((u : _) → w ≡ Word.Name u → ⊥) → true ≡ word_fine b (word_in w)
unfolding word_fine alone_fine variable_called symbol_called number_after signature_of argument_sorts
fine_other b w ne = ap (λ u. alone_fine b (variable_called b u) (symbol_called b u)) (sym (no_name w ne))
