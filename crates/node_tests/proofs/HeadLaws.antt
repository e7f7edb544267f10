-- Connectives, quantifiers and lets: what code finds, and the tests.
--     same_either                                             a test for equality, either way round
--     joins_items, joins_truths                               two sorts that are joined
--     joins_equal, joins_other                                = and another connective
--     said_none, said_some                                    the sort that a word says
--     bound_fits, bound_differs, bound_missing                a variable with a formula
--     Passing, pass_end, pass_fails, pass_on                  a test of all parts, as a loop goes over them
--     fresh_start                                             the answer of `heads::let_fine`
--     Fresh, fresh_end, fresh_zero, fresh_seen, fresh_on      bindings, as `heads::all_fresh` goes over them
use Prim.Native.Nat.{ℕ, ◌+◌, ◌≤◌, ◌<◌}
use native.Mathlib.Omega.{arith}
use native.Mathlib.Decide.{ℕ_discrete}
use mathlib.Core.Path.{◌≡◌, refl, sym, ap, ◌∙◌}
use mathlib.Core.Bool.{Bool, true, false, cond, not, ◌&&◌, ◌||◌, and-false}
use mathlib.Core.List.{List, [], ◌∷◌}
use lib.ListN.{length, replicate, length-replicate}
use lib.Dec.{eqb, ltb}
use borrow.Author.Tests.{eq-eqb, ne_eqb, lt-ltb}
use Rattle.std.specs.Prelude.{None, Some}
use Rattle.bundle.specs.Bundle.{Bundle, sort_of_variable}
use Rattle.bundle.specs.Limits.{limits, set_words}
use Rattle.bundle.specs.Lists.{each, has, different}
use Rattle.bundle.proofs.LinkNotes.{zeros}
use Rattle.sets.specs.Sets.{with_bit, holds, member, inserted, cleared}
use Rattle.sets.proofs.Members.{holds_small, member_inserted, member_cleared, member_same, filled_in, changed_length}
use Rattle.logic.specs.Symbols.{truth_sort}
use Rattle.grammar.specs.Bytes as bytes
use Rattle.grammar.specs.Grammar.{Lexeme, opens, closes, word, stray}
use Rattle.lexing.specs.Lexes.{lexemes_of, rest_of, Leaves}
use Rattle.lexing.specs.declared.words.Connective.{Connective}
use Rattle.lexing.specs.Words.{connective_in, sort_in as sort_word}
use Rattle.lexing.specs.declared.words.SortWord.{SortWord}
use Rattle.reading.specs.Typing.{sort_number}
use Rattle.bracketing.specs.Brackets.{after_formula, starts_part, parts_from}
use Rattle.bracketing.specs.Nodes.{joins, sort_said, sort_in, sort_from, variable_in, every, bound_from, distinct}
use Rattle.bracketing.specs.Texts.{Says}
use Rattle.node_tests.specs.Tests.{joins_by, fresh_from}
use Rattle.node_tests.proofs.PartLaws.{part_none, part_some}

pub same_either : (x y : ℕ) → eqb x y ≡ eqb y x
same_either x y = go (ℕ_discrete x y)
  where
    go : Dec (x ≡ y) → eqb x y ≡ eqb y x
    go (yes e) = rw e
    go (no ne) = ne_eqb x y ne ∙ sym (ne_eqb y x (λ e. ne (sym e)))

-- ---- connectives

pub joins_items : (p : Bool) (s t : ℕ) → (p && not (eqb s 0)) ≡ true → (eqb 1 s && eqb 1 t) ≡ joins_by p s t
unfolding joins_by
joins_items p s t e = rw e

pub joins_truths : (p : Bool) (s t : ℕ) → (p && not (eqb s 0)) ≡ false → (eqb 0 s && eqb 0 t) ≡ joins_by p s t
unfolding joins_by
joins_truths p s t e = rw e

pub joins_equal : (s t : ℕ) → joins_by true s t ≡ joins bytes.equality s t
unfolding joins joins_by
joins_equal s t = go (eqb s truth_sort)
  where
    go : (p : Bool) → cond (true && not p) (eqb 1 s && eqb 1 t) (eqb 0 s && eqb 0 t) ≡ (eqb (cond p 0 1) s && eqb (cond p 0 1) t)
    go true = refl
    go false = refl

pub joins_other : (c : Connective) → (c ≡ Connective.Equal → ⊥) → (s t : ℕ) → joins_by false s t ≡ joins (connective_in c) s t
unfolding joins joins_by
joins_other Connective.And ne s t = refl
joins_other Connective.Or ne s t = refl
joins_other Connective.Implies ne s t = refl
joins_other Connective.Equal ne s t = absurd (ne refl)

-- ---- pairs

-- where no word says a sort, it is truth
pub said_none : (l : Lexeme) → Says l None → 0 ≡ sort_in l
unfolding sort_in sort_said
said_none opens ne = refl
said_none closes ne = refl
said_none stray ne = refl
said_none (word (bytes.constant v)) ne = refl
said_none (word bytes.negation) ne = refl
said_none (word (bytes.connective c)) ne = refl
said_none (word (bytes.quantifier q)) ne = refl
said_none (word bytes.letting) ne = refl
said_none (word (bytes.sort s)) ne = absurd (ne s refl)
said_none (word (bytes.name w)) ne = refl

pub said_some : {l : Lexeme} (s : SortWord) → Says l (Some s) → sort_number (sort_word s) ≡ sort_in l
unfolding sort_in sort_said
said_some s e = sym (ap sort_in e)

module _ (b : Bundle) {text rest : List ℕ} (there : Leaves text (rest_of (rest_of (lexemes_of text))) rest) where
  bound : bound_from b (lexemes_of text)
      ≡ cond (eqb (sort_of_variable b (variable_in b (lexemes_of text))) (sort_from b (lexemes_of rest))) (variable_in b (lexemes_of text)) 0
  unfolding bound_from
  bound = ap (λ ls. cond (eqb (sort_of_variable b (variable_in b (lexemes_of text))) (sort_from b ls)) (variable_in b (lexemes_of text)) 0) (sym there.lexemes)

  module _ {x u s : ℕ} (is : x ≡ variable_in b (lexemes_of text)) (sort : u ≡ sort_of_variable b x) (e : s ≡ sort_from b (lexemes_of rest)) where
    known : bound_from b (lexemes_of text) ≡ cond (eqb u s) x 0
    known = bound ∙ rw (← is, ← sort, ← e)

    pub bound_fits : u ≡ s → bound_from b (lexemes_of text) ≡ x
    bound_fits q = known ∙ rw (eq-eqb u s q)

    pub bound_differs : (u ≡ s → ⊥) → bound_from b (lexemes_of text) ≡ 0
    bound_differs ne = known ∙ rw (ne_eqb u s ne)

pub bound_missing : (b : Bundle) (ls : List Lexeme) → variable_in b ls ≡ 0 → bound_from b ls ≡ 0
unfolding bound_from
bound_missing b ls e = rw e (go (eqb (sort_of_variable b 0) (sort_from b (rest_of (rest_of ls)))))
  where
    go : (p : Bool) → ◌≡◌ {A = ℕ} (cond p 0 0) 0
    go true = refl
    go false = refl

-- ---- a test of all parts

-- all parts of the text pass where those that are left do
pub record Passing (test : List Lexeme → Bool) (text rest : List ℕ) : Type 0 where
  pub same : every (parts_from test (lexemes_of text)) ≡ every (parts_from test (lexemes_of rest))

module _ {test : List Lexeme → Bool} {text rest : List ℕ} (w : Passing test text rest) where
  pub pass_end : starts_part (lexemes_of rest) ≡ false → true ≡ every (parts_from test (lexemes_of text))
  unfolding every
  pass_end e = sym (w.same ∙ rw (part_none test (lexemes_of rest) e))

  module _ (part : starts_part (lexemes_of rest) ≡ true) where
    pub pass_fails : test (lexemes_of rest) ≡ false → false ≡ every (parts_from test (lexemes_of text))
    unfolding every
    pass_fails e = sym (w.same ∙ rw (part_some test (lexemes_of rest) part, e))

    pub pass_on : test (lexemes_of rest) ≡ true → {next : List ℕ} → Leaves rest (after_formula (lexemes_of rest)) next → Passing test text next
    unfolding every
    pass_on e there = record { same = w.same ∙ rw (part_some test (lexemes_of rest) part, e, there.lexemes) }

-- ---- lets

-- a member more, and one that is not in the list
fresh_more : (old new : ℕ → Bool) (x : ℕ) → ((u : ℕ) → new u ≡ (eqb u x || old u)) → (vs : List ℕ)
    → each (λ v. not (new v)) vs ≡ (not (has x vs) && each (λ v. not (old v)) vs)
unfolding each has
fresh_more old new x e [] = refl
fresh_more old new x e (v ∷ vs) = rw (e v, same_either v x, fresh_more old new x e vs) (go (eqb x v) (old v) (has x vs) (each (λ v. not (old v)) vs))
  where
    go : (a b c d : Bool) → (not (a || b) && (not c && d)) ≡ (not (a || c) && (not b && d))
    go true b c d = refl
    go false true true d = refl
    go false true false d = refl
    go false false c d = refl

no_member : (n u : ℕ) → member (replicate n 0) 0 n u ≡ false
no_member n u =
    member_same (replicate n 0) (cleared (replicate n 0) 0 n) 0 n
    (λ k l. (zeros n).zero (0 + k) ∙ sym (filled_in (λ j. 0) (replicate n 0) 0 n k (omega (arith, length-replicate {A = ℕ} n 0)) l)) u
    ∙ member_cleared (replicate n 0) 0 n (omega (arith, length-replicate {A = ℕ} n 0)) u

pub fresh_start : (b : Bundle) {text rest : List ℕ} {ls : List Lexeme} → Leaves text ls rest → {r : Bool}
    → r ≡ fresh_from b (replicate set_words 0) set_words (lexemes_of rest) → r ≡ distinct (parts_from (bound_from b) ls)
unfolding fresh_from
fresh_start b {text} {rest} {ls} there e = e ∙ rw (all (parts_from (bound_from b) (lexemes_of rest)), there.lexemes)
  where
    all : (vs : List ℕ) → each (λ v. not (member (replicate set_words 0) 0 set_words v)) vs ≡ true
    all [] = refl
    all (v ∷ vs) = rw (no_member set_words v) (all vs)

-- all bindings of the text fit and are new where those that are left are, with the variables so far as seen
pub record Fresh (b : Bundle) (text first rest seen : List ℕ) : Type 0 where
  pub room : length seen ≡ length first
  pub same : fresh_from b first set_words (lexemes_of text) ≡ fresh_from b seen set_words (lexemes_of rest)

module _ {b : Bundle} {text first rest seen : List ℕ} (w : Fresh b text first rest seen) where
  abbrev all : Bool
  all = fresh_from b first set_words (lexemes_of text)

  pub fresh_end : starts_part (lexemes_of rest) ≡ false → true ≡ all
  unfolding fresh_from
  fresh_end e = sym (w.same ∙ rw (part_none (bound_from b) (lexemes_of rest) e))

  module _ (part : starts_part (lexemes_of rest) ≡ true) where
    abbrev later : List ℕ
    later = parts_from (bound_from b) (after_formula (lexemes_of rest))

    abbrev unseen : List ℕ → Bool
    unseen vs = each (λ v. not (member seen 0 set_words v)) vs

    turn : (x : ℕ) → x ≡ bound_from b (lexemes_of rest)
        → all ≡ ((not (member seen 0 set_words x) && unseen later) && ((ltb 0 x && each (ltb 0) later) && (not (has x later) && different later)))
    unfolding fresh_from distinct each different
    turn x is = w.same ∙ rw (part_some (bound_from b) (lexemes_of rest) part, ← is)

    pub fresh_zero : bound_from b (lexemes_of rest) ≡ 0 → false ≡ all
    fresh_zero z = sym (turn 0 (sym z) ∙ and-false (not (member seen 0 set_words 0) && unseen later))

    module _ {x : ℕ} (is : x ≡ bound_from b (lexemes_of rest)) (some : 1 ≤ bound_from b (lexemes_of rest)) where
      pub fresh_seen : member seen 0 set_words x ≡ true → false ≡ all
      fresh_seen e = sym (turn x is ∙ rw e)

      pub fresh_on : member seen 0 set_words x ≡ false → x ≤ limits.variables → set_words ≤ length first → {new : List ℕ}
          → new ≡ inserted seen 0 set_words x → {next : List ℕ} → Leaves rest (after_formula (lexemes_of rest)) next → Fresh b text first next new
      unfolding fresh_from distinct
      fresh_on e small fits {new} put there =
          let positive : 0 < x = omega (arith, some, is) in
          let bit : holds set_words x ≡ true = holds_small set_words x positive small in
          let added : (u : ℕ) → member new 0 set_words u ≡ (eqb u x || member seen 0 set_words u) =
          λ u. ap (λ (a : List ℕ). member a 0 set_words u) put ∙ member_inserted seen 0 set_words x (omega (arith, w.room)) bit u in
          record {
            room = ap length put ∙ (changed_length with_bit seen 0 set_words x ∙ w.room);
            same = turn x is ∙ rw (
              e,
              lt-ltb 0 x positive,
              there.lexemes,
              fresh_more (member seen 0 set_words) (member new 0 set_words) x added later,
            ) (swap (unseen later) (each (ltb 0) later) (not (has x later)) (different later));
          }
        where
          swap : (e z h d : Bool) → ((true && e) && ((true && z) && (h && d))) ≡ ((h && e) && (z && d))
          swap true true true d = refl
          swap true true false d = refl
          swap true false true d = refl
          swap true false false d = refl
          swap false z true d = refl
          swap false z false d = refl
