-- The word that a run is, by its first byte: at most two words start with it.
--     word_true to word_item     by each of the ten first bytes
--     word_none, word_other      no byte, and any other byte
use Prim.Native.Nat.{ℕ}
use native.Mathlib.Omega.{arith}
use mathlib.Core.Path.{◌≡◌, refl}
use mathlib.Core.Bool.{true, false, cond}
use mathlib.Core.List.{List, [], ◌∷◌}
use lib.ListN.{length, get_or, drop}
use lib.Seq.{drop-cons}
use borrow.Author.Tests.{ne_eqb}
use Rattle.bundle.specs.Lists.{same_list}
use Rattle.logic.specs.Terms.{forAll, exists}
use Rattle.grammar.specs.Bytes.{bool, item, conjunction, disjunction, implication, equality, Word, constant, negation, connective, quantifier}
use Rattle.grammar.specs.Bytes.{letting, sort, name, bytes, twelve, word_among, word_of}

-- a run with its first byte written out
first : (P : List ℕ → Type 0) (w : List ℕ) (k : ℕ) → (length w ≡ 0 → ⊥) → get_or w 0 0 ≡ k → ((u : List ℕ) → P (k ∷ u)) → P w
first P w k l e f = rw (drop-cons w 0 0 (omega arith), e) (f (drop 1 w))

-- a run that is this word or a name; that is one of these two words or a name
abbrev pub One : List ℕ → List ℕ → Word → Type 0
One w v x = cond (same_list w v) x (name w) ≡ word_of w

abbrev pub Two : List ℕ → List ℕ → Word → List ℕ → Word → Type 0
Two w v x v' x' = cond (same_list w v) x (cond (same_list w v') x' (name w)) ≡ word_of w

pub two_first : (w v : List ℕ) (x : Word) (v' : List ℕ) (x' : Word) → Two w v x v' x' → same_list w v ≡ true → x ≡ word_of w
two_first w v x v' x' h e = rw e at h

pub two_second : (w v : List ℕ) (x : Word) (v' : List ℕ) (x' : Word) → Two w v x v' x' → same_list w v ≡ false → One w v' x'
two_second w v x v' x' h e = rw e at h

pub word_none : (w : List ℕ) → length w ≡ 0 → name w ≡ word_of w
unfolding word_of word_among twelve bytes same_list
word_none [] e = refl
word_none (x ∷ w) e = absurd (omega (arith, e))

module _ (w : List ℕ) (l : length w ≡ 0 → ⊥) where
  pub word_true : get_or w 0 0 ≡ 116 → One w (bytes "true") (constant true)
  unfolding word_of word_among twelve bytes same_list
  word_true e = first (λ w. One w (bytes "true") (constant true)) w 116 l e (λ u. refl)

  pub word_false : get_or w 0 0 ≡ 102 → Two w (bytes "false") (constant false) (bytes "forall") (quantifier forAll)
  unfolding word_of word_among twelve bytes same_list
  word_false e = first (λ w. Two w (bytes "false") (constant false) (bytes "forall") (quantifier forAll)) w 102 l e (λ u. refl)

  pub word_not : get_or w 0 0 ≡ 110 → One w (bytes "not") negation
  unfolding word_of word_among twelve bytes same_list
  word_not e = first (λ w. One w (bytes "not") negation) w 110 l e (λ u. refl)

  pub word_and : get_or w 0 0 ≡ 97 → One w (bytes "and") (connective conjunction)
  unfolding word_of word_among twelve bytes same_list
  word_and e = first (λ w. One w (bytes "and") (connective conjunction)) w 97 l e (λ u. refl)

  pub word_or : get_or w 0 0 ≡ 111 → One w (bytes "or") (connective disjunction)
  unfolding word_of word_among twelve bytes same_list
  word_or e = first (λ w. One w (bytes "or") (connective disjunction)) w 111 l e (λ u. refl)

  pub word_equals : get_or w 0 0 ≡ 61 → Two w (bytes "=>") (connective implication) (bytes "=") (connective equality)
  unfolding word_of word_among twelve bytes same_list
  word_equals e = first (λ w. Two w (bytes "=>") (connective implication) (bytes "=") (connective equality)) w 61 l e (λ u. refl)

  pub word_exists : get_or w 0 0 ≡ 101 → One w (bytes "exists") (quantifier exists)
  unfolding word_of word_among twelve bytes same_list
  word_exists e = first (λ w. One w (bytes "exists") (quantifier exists)) w 101 l e (λ u. refl)

  pub word_let : get_or w 0 0 ≡ 108 → One w (bytes "let") letting
  unfolding word_of word_among twelve bytes same_list
  word_let e = first (λ w. One w (bytes "let") letting) w 108 l e (λ u. refl)

  pub word_bool : get_or w 0 0 ≡ 66 → One w (bytes "Bool") (sort bool)
  unfolding word_of word_among twelve bytes same_list
  word_bool e = first (λ w. One w (bytes "Bool") (sort bool)) w 66 l e (λ u. refl)

  pub word_item : get_or w 0 0 ≡ 73 → One w (bytes "Item") (sort item)
  unfolding word_of word_among twelve bytes same_list
  word_item e = first (λ w. One w (bytes "Item") (sort item)) w 73 l e (λ u. refl)

  pub word_other : (get_or w 0 0 ≡ 116 → ⊥) → (get_or w 0 0 ≡ 102 → ⊥) → (get_or w 0 0 ≡ 110 → ⊥) → (get_or w 0 0 ≡ 97 → ⊥) → (get_or w 0 0 ≡ 111 → ⊥)
      → (get_or w 0 0 ≡ 61 → ⊥) → (get_or w 0 0 ≡ 101 → ⊥) → (get_or w 0 0 ≡ 108 → ⊥) → (get_or w 0 0 ≡ 66 → ⊥) → (get_or w 0 0 ≡ 73 → ⊥)
      → name w ≡ word_of w
  unfolding word_of word_among twelve bytes same_list
  word_other n116 n102 n110 n97 n111 n61 n101 n108 n66 n73 =
      let x = get_or w 0 0 in
      rw (
        drop-cons w 0 0 (omega arith),
        ne_eqb x 116 n116,
        ne_eqb x 102 n102,
        ne_eqb x 110 n110,
        ne_eqb x 97 n97,
        ne_eqb x 111 n111,
        ne_eqb x 61 n61,
        ne_eqb x 101 n101,
        ne_eqb x 108 n108,
        ne_eqb x 66 n66,
        ne_eqb x 73 n73,
      )
