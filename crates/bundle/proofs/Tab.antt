-- Laws of `tab` and of the total lookup `at`.
--     tab_length, tab_at     length, an element
--     tab_ext, tab_more      two functions that agree below n; one element more
--     at_tab, at_none, tab_none     the element of a number in range, and of one past the end
--     at_field               a field of the record of a number is the number's element in the list of that field alone
use mathlib.Core.Path.{◌≡◌, refl, sym, ap, ap₂, ◌∙◌}
use mathlib.Core.List.{List, [], ◌∷◌, ◌++◌}
use Prim.Native.Nat.{ℕ, zero, suc, ◌+◌, ◌-◌, ◌≤◌, ◌<◌}
use native.Mathlib.Numerals.{add-one}
use native.Mathlib.Nat.{lt-suc_self}
use native.Mathlib.Omega.{arith}
use native.Mathlib.Decide.{dec_lt}
use lib.ListN.{length, get_or, length-append, get_or-append, get_or-eq_default}
use lib.Seq.{get_or_at}
use Rattle.bundle.specs.Bundle.{at}
use Rattle.bundle.specs.File.{tab}

module _ {ℓ} {A : Type ℓ} where
  pub tab_length : (f : ℕ → A) (n : ℕ) → length (tab f n) ≡ n
  unfolding tab
  tab_length f zero = refl
  tab_length f (suc n) = simp (length-append, tab_length f n) (omega arith)

  pub tab_at : (f : ℕ → A) (n i : ℕ) (d : A) → i < n → get_or (tab f n) i d ≡ f i
  unfolding tab
  tab_at f zero i d l = absurd (omega arith)
  tab_at f (suc n) i d l = go (tab_at f n i d) (dec_lt i n)
    where
      go : (i < n → get_or (tab f n) i d ≡ f i) → Dec (i < n) → get_or (tab f n ++ (f n ∷ [])) i d ≡ f i
      go ih (yes h) = get_or-append (tab f n) (f n ∷ []) d i (rw tab_length h) ∙ ih h
      go ih (no h) = let e : i ≡ n = omega arith in
          rw e (get_or_at (tab f n) (f n) [] d n (tab_length f n))

  pub tab_ext : (f g : ℕ → A) (n : ℕ) → ((i : ℕ) → i < n → f i ≡ g i) → tab f n ≡ tab g n
  unfolding tab
  tab_ext f g zero h = refl
  tab_ext f g (suc n) h = ap₂ (λ (xs : List A) (x : A). xs ++ (x ∷ [])) (tab_ext f g n (λ i l. h i (omega arith))) (h n (lt-suc_self n))

  pub tab_more : (f g : ℕ → A) (n : ℕ) (x : A) → ((i : ℕ) → i < n → f i ≡ g i) → f n ≡ x → tab f (n + 1) ≡ tab g n ++ (x ∷ [])
  unfolding tab
  tab_more f g n x h e = rw add-one (ap₂ (λ (xs : List A) (y : A). xs ++ (y ∷ [])) (tab_ext f g n h) e)

  pub at_tab : (f : ℕ → A) (n i : ℕ) (d : A) → (i ≡ 0 → ⊥) → i ≤ n → at d (tab f n) i ≡ f (i - 1)
  at_tab f n zero d ne h = absurd (ne refl)
  at_tab f n (suc i) d ne h = tab_at f n i d h ∙ ap f (omega arith)

  pub at_none : (d : A) (xs : List A) (i : ℕ) → length xs < i → at d xs i ≡ d
  at_none d xs zero h = refl
  at_none d xs (suc i) h = let l : length xs ≤ i = omega arith in get_or-eq_default xs d l

pub tab_none : {A : Type 0} (d : A) (f : ℕ → A) (n i : ℕ) → n < i → at d (tab f n) i ≡ d
tab_none d f n i h = at_none d (tab f n) i (rw tab_length h)

-- of records f j with a field g, which is w j: the field of record i, d's field for none
module _ {A : Type 0} (d : A) (f : ℕ → A) (g : A → ℕ) (w : ℕ → ℕ) (zeros : g d ≡ 0) (same : (j : ℕ) → g (f j) ≡ w j) where
  pub at_field : (n i : ℕ) → g (at d (tab f n) i) ≡ at 0 (tab w n) i
  at_field n zero = zeros
  at_field n (suc i) = go (dec_lt i n)
    where
      go : Dec (i < n) → g (get_or (tab f n) i d) ≡ get_or (tab w n) i 0
      go (yes h) = ap g (tab_at f n i d h) ∙ same i ∙ sym (tab_at w n i 0 h)
      go (no h) =
          ap g (get_or-eq_default (tab f n) d (let l : length (tab f n) ≤ i = rw tab_length (omega arith) in l))
          ∙ zeros ∙ sym (get_or-eq_default (tab w n) 0 (let l : length (tab w n) ≤ i = rw tab_length (omega arith) in l))
