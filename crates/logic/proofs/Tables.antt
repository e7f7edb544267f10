-- The laws of tables that grow.
--     table_below     THE EQUATION: a cell is what its record builds from the cells below it; no hypothesis on what the record reads
--     table_step      the same from the whole table, for a record that reads lower numbers only
--     table_append    appended records leave the cells as they are
--     table_both      two tables of one list of records: what the defaults are to each other, and each record keeps, the cells are
--     table_kept      a longer list of records, built in another way that agrees on the old ones: the old cells are as they were
--     table_all       what holds of the default and is kept by each record holds of every cell
--     table_map       two tables whose records build alike are alike (fold fusion)
--     everywhere      what holds of the default and of each record holds at every number
use mathlib.Core.Path.{◌≡◌, refl, sym, ap, ◌∙◌, fun_ext}
use Prim.Native.Nat.{ℕ, zero, suc, ◌+◌, ◌≤◌, ◌<◌}
use native.Mathlib.Nat.{not-suc-le-zero, le_of_suc-le-suc}
use native.Mathlib.Omega.{arith}
use native.Mathlib.Decide.{dec_lt}
use mathlib.Core.Bool.{Bool, true, false, cond}
use mathlib.Core.List.{List, [], ◌∷◌, ◌++◌}
use lib.ListN.{length, get_or, length-append, get_or-append, get_or-eq_default}
use lib.Seq.{get_or-append_seam}
use lib.Dec.{ltb}
use borrow.Author.Tests.{ltb-true, ltb-false, lt-ltb}
use Rattle.bundle.specs.Bundle.{at}
use Rattle.bundle.proofs.Tab.{at_none}
use Rattle.logic.specs.Table.{grow, table, below}

module _ {A R : Type 0} (build : (ℕ → A) → R → A) (d : A) where
  -- old cells stay
  grow_old : (rs : List R) (acc : List A) (t : ℕ) → t ≤ length acc → at d (grow build d acc rs) t ≡ at d acc t
  unfolding grow
  grow_old [] acc t h = refl
  grow_old (r ∷ rs) acc zero h = refl
  grow_old (r ∷ rs) acc (suc i) h =
      grow_old rs (acc ++ (build (at d acc) r ∷ [])) (suc i) (omega (arith, length-append acc (build (at d acc) r ∷ [])))
      ∙ get_or-append acc (build (at d acc) r ∷ []) d i h

  -- the cells so far are those of the whole table below the next number
  so_far : (rs : List R) (acc : List A) (n : ℕ) → n ≡ length acc → at d acc ≡ below d (suc n) (at d (grow build d acc rs))
  so_far rs acc n e = fun_ext (λ i. go i (ltb i (suc n)) refl)
    where
      go : (i : ℕ) (p : Bool) → ltb i (suc n) ≡ p → at d acc i ≡ cond p (at d (grow build d acc rs) i) d
      go i true q = sym (grow_old rs acc i (let l : i < suc n = ltb-true i (suc n) q in omega arith))
      go i false q = at_none d acc i (let l : suc n ≤ i = ltb-false i (suc n) q in omega arith)

  -- a new cell is what its record builds from the cells below it
  grow_new : (rs : List R) (acc : List A) (r₀ : R) (k n : ℕ) → n ≡ length acc + k → k < length rs
      → at d (grow build d acc rs) (suc n) ≡ build (below d (suc n) (at d (grow build d acc rs))) (get_or rs k r₀)
  unfolding grow
  grow_new [] acc r₀ k n e h = absurd (not-suc-le-zero h)
  grow_new (r ∷ rs) acc r₀ zero n e h =
      let x : A = build (at d acc) r in
      let n-is : n ≡ length acc = omega arith in
      let old : at d (grow build d (acc ++ (x ∷ [])) rs) (suc n) ≡ get_or (acc ++ (x ∷ [])) n d
      = grow_old rs (acc ++ (x ∷ [])) (suc n) (omega (arith, length-append acc (x ∷ []))) in
      let new : get_or (acc ++ (x ∷ [])) n d ≡ x = rw n-is (get_or-append_seam acc x [] d) in
      old ∙ new ∙ ap (λ (f : ℕ → A). build f r) (so_far (r ∷ rs) acc n n-is)
  grow_new (r ∷ rs) acc r₀ (suc k) n e h =
      grow_new rs (acc ++ (build (at d acc) r ∷ [])) r₀ k n (omega (arith, length-append acc (build (at d acc) r ∷ []))) (le_of_suc-le-suc h)

  grow_length : (rs : List R) (acc : List A) → length (grow build d acc rs) ≡ length acc + length rs
  unfolding grow
  grow_length [] acc = omega arith
  grow_length (r ∷ rs) acc =
      let x : A = build (at d acc) r in
      let ih : length (grow build d (acc ++ (x ∷ [])) rs) ≡ length (acc ++ (x ∷ [])) + length rs = grow_length rs (acc ++ (x ∷ [])) in
      omega (arith, length-append acc (x ∷ []))

  -- THE EQUATION. r₀ is the record of the numbers that have none; it builds the default.
  pub table_below : (r₀ : R) → ((f : ℕ → A) → build f r₀ ≡ d) → (rs : List R) (t : ℕ)
      → table build d rs t ≡ build (below d t (table build d rs)) (at r₀ rs t)
  unfolding table
  table_below r₀ none rs zero = sym (none (below d 0 (table build d rs)))
  table_below r₀ none rs (suc i) = go (dec_lt i (length rs))
    where
      go : Dec (i < length rs) → table build d rs (suc i) ≡ build (below d (suc i) (table build d rs)) (get_or rs i r₀)
      go (yes h) = grow_new rs [] r₀ i i (omega arith) h
      go (no h) =
          let past : length rs ≤ i = omega arith in
          rw (get_or-eq_default rs r₀ past)
          (get_or-eq_default (grow build d [] rs) d (omega (arith, grow_length rs [])) ∙ sym (none (below d (suc i) (table build d rs))))

  pub table_step : (r₀ : R) → ((f : ℕ → A) → build f r₀ ≡ d) → (rs : List R) (t : ℕ)
      → ((f g : ℕ → A) → ((i : ℕ) → i < t → f i ≡ g i) → build f (at r₀ rs t) ≡ build g (at r₀ rs t))
      → table build d rs t ≡ build (table build d rs) (at r₀ rs t)
  table_step r₀ none rs t reads =
      table_below r₀ none rs t
      ∙ reads (below d t (table build d rs)) (table build d rs) (λ i h. rw (lt-ltb i t h))

  -- appended records leave the cells as they are
  grow_append : (rs more : List R) (acc : List A) → grow build d acc (rs ++ more) ≡ grow build d (grow build d acc rs) more
  unfolding grow
  grow_append [] more acc = refl
  grow_append (r ∷ rs) more acc = grow_append rs more (acc ++ (build (at d acc) r ∷ []))

  pub table_append : (rs more : List R) (t : ℕ) → t ≤ length rs → table build d (rs ++ more) t ≡ table build d rs t
  unfolding table
  table_append rs more t h =
      ap (λ (l : List A). at d l t) (grow_append rs more []) ∙ grow_old more (grow build d [] rs) t (omega (arith, grow_length rs []))

-- Two tables of one list of records, and a relation of their cells. r₀ is any record: it stands for those that are not listed.
module _ {A B R : Type 0} (buildA : (ℕ → A) → R → A) (a₀ : A) (buildB : (ℕ → B) → R → B) (b₀ : B) (S : A → B → Type 0) (s₀ : S a₀ b₀) where
  abbrev Pairs : List A → List B → Type 0
  Pairs [] [] = Unit {0}
  Pairs [] (y ∷ ys) = ⊥
  Pairs (x ∷ xs) [] = ⊥
  Pairs (x ∷ xs) (y ∷ ys) = S x y × Pairs xs ys

  pairs_at : (xs : List A) (ys : List B) → Pairs xs ys → (i : ℕ) → S (at a₀ xs i) (at b₀ ys i)
  pairs_at xs ys h zero = s₀
  pairs_at [] [] h (suc i) = s₀
  pairs_at [] (y ∷ ys) h (suc i) = absurd h
  pairs_at (x ∷ xs) [] h (suc i) = absurd h
  pairs_at (x ∷ xs) (y ∷ ys) h (suc zero) = h.0
  pairs_at (x ∷ xs) (y ∷ ys) h (suc (suc i)) = pairs_at xs ys h.1 (suc i)

  pairs_snoc : (xs : List A) (ys : List B) → Pairs xs ys → (x : A) (y : B) → S x y → Pairs (xs ++ (x ∷ [])) (ys ++ (y ∷ []))
  pairs_snoc [] [] h x y s = (s, tt)
  pairs_snoc [] (v ∷ ys) h x y s = absurd h
  pairs_snoc (u ∷ xs) [] h x y s = absurd h
  pairs_snoc (u ∷ xs) (v ∷ ys) h x y s = (h.0, pairs_snoc xs ys h.1 x y s)

  -- what a record builds from cells that are so related is so related
  abbrev pub KeepsBoth : R → Type 0
  KeepsBoth r = (f : ℕ → A) (g : ℕ → B) → ((i : ℕ) → S (f i) (g i)) → S (buildA f r) (buildB g r)

  grow_both : (r₀ : R) (rs : List R) → ((i : ℕ) → KeepsBoth (get_or rs i r₀)) → (xs : List A) (ys : List B) → Pairs xs ys
      → Pairs (grow buildA a₀ xs rs) (grow buildB b₀ ys rs)
  unfolding grow
  grow_both r₀ [] k xs ys h = h
  grow_both r₀ (r ∷ rs) k xs ys h =
      grow_both r₀ rs (λ i. k (suc i)) (xs ++ (buildA (at a₀ xs) r ∷ [])) (ys ++ (buildB (at b₀ ys) r ∷ []))
      (pairs_snoc xs ys h (buildA (at a₀ xs) r) (buildB (at b₀ ys) r) (k 0 (at a₀ xs) (at b₀ ys) (pairs_at xs ys h)))

  pub table_both : (r₀ : R) (rs : List R) → ((t : ℕ) → KeepsBoth (at r₀ rs t)) → (t : ℕ) → S (table buildA a₀ rs t) (table buildB b₀ rs t)
  unfolding table
  table_both r₀ rs k t = pairs_at (grow buildA a₀ [] rs) (grow buildB b₀ [] rs) (grow_both r₀ rs (λ i. k (suc i)) [] [] tt) t

-- A table, and one of a longer list of records, built in a way that agrees on the old ones: the old cells are as they were.
pub table_kept : {A R : Type 0} (build build' : (ℕ → A) → R → A) (d : A) (r₀ : R) (rs rs' more : List R) → rs' ≡ rs ++ more
    → ((i : ℕ) (f : ℕ → A) → build' f (at r₀ rs i) ≡ build f (at r₀ rs i)) → (t : ℕ) → t ≤ length rs
    → table build' d rs' t ≡ table build d rs t
table_kept {A} {R} build build' d r₀ rs rs' more e same t h =
    ap (λ (l : List R). table build' d l t) e
    ∙ table_append build' d rs more t h
    ∙ table_both build' d build d (λ x y. x ≡ y) refl r₀ rs
    (λ i f g eq. same i f ∙ ap (λ (k : ℕ → A). build k (at r₀ rs i)) (fun_ext eq)) t

-- What holds of the default, and of whatever a listed record builds from cells of which it holds, holds of every cell.
module _ {A R : Type 0} (build : (ℕ → A) → R → A) (d : A) (P : A → Type 0) (P-d : P d) where
  abbrev pub Keeps : R → Type 0
  Keeps r = (f : ℕ → A) → ((i : ℕ) → P (f i)) → P (build f r)

  pub table_all : (r₀ : R) (rs : List R) → ((t : ℕ) → Keeps (at r₀ rs t)) → (t : ℕ) → P (table build d rs t)
  table_all r₀ rs k t = table_both build d build d (λ a a'. P a) P-d r₀ rs (λ i f g h. k i f h) t

-- Fusion: if h carries what a record builds from A's to what it builds from B's, it carries the one table to the other.
module _ {A B R : Type 0} (buildA : (ℕ → A) → R → A) (a₀ : A) (buildB : (ℕ → B) → R → B) (b₀ : B)
    (h : A → B) (h₀ : h a₀ ≡ b₀) (hs : (f : ℕ → A) (r : R) → h (buildA f r) ≡ buildB (λ i. h (f i)) r) where
  pub table_map : (rs : List R) (t : ℕ) → h (table buildA a₀ rs t) ≡ table buildB b₀ rs t
  unfolding table
  table_map [] zero = h₀
  table_map [] (suc t) = h₀
  table_map (r ∷ rs) t =
      table_both buildA a₀ buildB b₀ (λ a b. h a ≡ b) h₀ r (r ∷ rs)
      (λ i f g e. hs f (at r (r ∷ rs) i) ∙ ap (λ (k : ℕ → B). buildB k (at r (r ∷ rs) i)) (fun_ext e)) t

-- What holds of the default at any number, and of each record of a list at its own, holds at every number.
pub everywhere : {R : Type 0} (d : R) (rs : List R) (P : R → ℕ → Type 0) → ((t : ℕ) → P d t)
    → ((t : ℕ) → 1 ≤ t → t ≤ length rs → P (at d rs t) t) → (t : ℕ) → P (at d rs t) t
everywhere d rs P none here zero = none 0
everywhere d rs P none here (suc i) = go (dec_lt i (length rs))
  where
    go : Dec (i < length rs) → P (get_or rs i d) (suc i)
    go (yes h) = here (suc i) (omega arith) h
    go (no h) =
        let past : length rs ≤ i = omega arith in
        rw (get_or-eq_default rs d past) (none (suc i))
