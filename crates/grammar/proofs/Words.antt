-- Words that grow.
--     among          what holds of a name and of each reserved word that is spelled so holds of the word
--     grows_name     a run that ends in '~' is a name
--     not_sort       a run that starts neither "Bool" nor "Item" is no sort
use Prim.Native.Nat.{ℕ}
use mathlib.Core.Path.{◌≡◌, refl, sym}
use mathlib.Core.Bool.{Bool, true, false, cond, ◌&&◌, true≢false, false≢true}
use mathlib.Core.List.{List, [], ◌∷◌, ◌++◌}
use mathlib.Core.Option.{none}
use lib.Dec.{eqb}
use Rattle.std.proofs.lemmas.Bool.{or_parts}
use borrow.Author.Tests.{both_ways}
use Rattle.bundle.specs.Lists.{same_list, has}
use Rattle.grammar.specs.Bytes.{bytes, Word, Reserved, name, twelve, word_among, word_of}
use Rattle.grammar.specs.Parser.{Due, formula, formulas, inside, opener, closer, sorted, sorteds, bound, bounds, variable, sortName}
use Rattle.grammar.specs.Parser.{on_sort, starts, may_grow}

abbrev pub Each : (Reserved → Type 0) → List Reserved → Type 0
Each P [] = Unit {0}
Each P (r ∷ rs) = P r × Each P rs

module _ (P : Word → Type 0) (w : List ℕ) (other : P (name w)) where
  pub among : (rs : List Reserved) → Each (λ r. same_list w r.spelled ≡ true → P r.meaning) rs → P (word_among w rs)
  unfolding word_among
  among [] h = other
  among (r ∷ rs) h = go (same_list w r.spelled) h.0 (among rs h.1)
    where
      go : (b : Bool) → (b ≡ true → P r.meaning) → P (word_among w rs) → P (cond b r.meaning (word_among w rs))
      go true m p = m refl
      go false m p = p

-- ---- a run that ends in '~' is a name

tilde : (w v : List ℕ) → has 126 v ≡ false → same_list (w ++ (126 ∷ [])) v ≡ true → false ≡ true
unfolding same_list has
tilde [] [] h e = e
tilde [] (y ∷ v) h e = go (eqb 126 y) (or_parts (eqb 126 y) (has 126 v) h).0 e
  where
    go : (b : Bool) → b ≡ false → (b && same_list [] v) ≡ true → false ≡ true
    go true h e = sym h
    go false h e = e
tilde (x ∷ w) [] h e = e
tilde (x ∷ w) (y ∷ v) h e = go (eqb x y) (tilde w v (or_parts (eqb 126 y) (has 126 v) h).1) e
  where
    go : (b : Bool) → (same_list (w ++ (126 ∷ [])) v ≡ true → false ≡ true) → (b && same_list (w ++ (126 ∷ [])) v) ≡ true → false ≡ true
    go true f e = f e
    go false f e = e

pub grows_name : (w : List ℕ) → word_of (w ++ (126 ∷ [])) ≡ name (w ++ (126 ∷ []))
unfolding word_of twelve has bytes
grows_name w =
    let no : (v : List ℕ) (m : Word) → has 126 v ≡ false → same_list (w ++ (126 ∷ [])) v ≡ true → m ≡ name (w ++ (126 ∷ [])) =
    λ v m h e. absurd (false≢true (tilde w v h e)) in
    among (λ m. m ≡ name (w ++ (126 ∷ []))) (w ++ (126 ∷ [])) refl twelve (
      no _ _ refl,
      (
        no _ _ refl,
        (
          no _ _ refl,
          (
            no _ _ refl,
            (
              no _ _ refl,
              (
                no _ _ refl,
                (no _ _ refl, (no _ _ refl, (no _ _ refl, (no _ _ refl, (no _ _ refl, (no _ _ refl, tt)))))),
              ),
            ),
          ),
        ),
      ),
    )

-- ---- sorts

same_starts : (w v : List ℕ) → same_list w v ≡ true → starts w v ≡ true
unfolding same_list starts
same_starts [] v e = refl
same_starts (x ∷ w) [] e = e
same_starts (x ∷ w) (y ∷ v) e = go (eqb x y) (same_starts w v) e
  where
    go : (b : Bool) → (same_list w v ≡ true → starts w v ≡ true) → (b && same_list w v) ≡ true → (b && starts w v) ≡ true
    go true f e = f e
    go false f e = e

pub not_sort : (w : List ℕ) → starts w (bytes "Bool") ≡ false → starts w (bytes "Item") ≡ false → on_sort (word_of w) ≡ none
unfolding word_of twelve on_sort bytes
not_sort w b i =
    among (λ m. on_sort m ≡ none) w refl twelve (
      λ e. refl,
      (
        λ e. refl,
        (
          λ e. refl,
          (
            λ e. refl,
            (
              λ e. refl,
              (
                λ e. refl,
                (
                  λ e. refl,
                  (
                    λ e. refl,
                    (
                      λ e. refl,
                      (
                        λ e. refl,
                        (
                          λ e. absurd (both_ways _ b (same_starts w (bytes "Bool") e)),
                          (λ e. absurd (both_ways _ i (same_starts w (bytes "Item") e)), tt),
                        ),
                      ),
                    ),
                  ),
                ),
              ),
            ),
          ),
        ),
      ),
    )

-- ---- what cannot grow into a word that is due

starts_longer : (w v : List ℕ) (c : ℕ) → starts w v ≡ false → starts (w ++ (c ∷ [])) v ≡ false
unfolding starts
starts_longer [] v c e = absurd (true≢false e)
starts_longer (x ∷ w) [] c e = refl
starts_longer (x ∷ w) (y ∷ v) c e = go (eqb x y) (starts_longer w v c) e
  where
    go : (b : Bool) → (starts w v ≡ false → starts (w ++ (c ∷ [])) v ≡ false) → (b && starts w v) ≡ false → (b && starts (w ++ (c ∷ [])) v) ≡ false
    go true f e = f e
    go false f e = refl

pub grown : (w : List ℕ) (c : ℕ) (σ : List Due) → may_grow w σ ≡ false → may_grow (w ++ (c ∷ [])) σ ≡ false
unfolding may_grow
grown w c [] e = refl
grown w c (formula ∷ σ) e = e
grown w c (formulas ∷ σ) e = e
grown w c (inside ∷ σ) e = e
grown w c (opener ∷ σ) e = refl
grown w c (closer ∷ σ) e = refl
grown w c (sorted ∷ σ) e = refl
grown w c (sorteds ∷ σ) e = refl
grown w c (bound ∷ σ) e = refl
grown w c (bounds ∷ σ) e = refl
grown w c (variable ∷ σ) e = e
grown w c (sortName ∷ σ) e =
    let h = or_parts (starts w (bytes "Bool")) (starts w (bytes "Item")) e in
    rw (starts_longer w (bytes "Bool") c h.0) (starts_longer w (bytes "Item") c h.1)
