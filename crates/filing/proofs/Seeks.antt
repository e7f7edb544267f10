-- Laws of the first term that passes.
--     seek_none, seek_first     none passes; term t passes, and none below it
--     seek_le                   what is found is a term's number or 0
use mathlib.Core.Path.{◌≡◌, refl}
use mathlib.Core.Bool.{Bool, true, false, cond}
use mathlib.Core.List.{List, [], ◌∷◌}
use Prim.Native.Nat.{ℕ, zero, suc, ◌<◌, ◌≤◌}
use native.Mathlib.Omega.{arith}
use lib.ListN.{length}
use Rattle.bundle.specs.Bundle.{TermRecord, no_term, at}
use Rattle.logic.specs.Lookup.{seek, after}

not_true : (q : Bool) → (q ≡ true → ⊥) → q ≡ false
not_true true h = absurd (h refl)
not_true false h = refl

module _ (p : TermRecord → Bool) where
  pub seek_none : (rs : List TermRecord) → ((t : ℕ) → 1 ≤ t → t ≤ length rs → p (at no_term rs t) ≡ true → ⊥) → seek p rs ≡ 0
  unfolding seek
  seek_none [] none = refl
  seek_none (r ∷ rs) none =
      rw (not_true (p r) (none 1 (omega arith) (omega arith)), seek_none rs (later none))
    where
      later : ((t : ℕ) → 1 ≤ t → t ≤ suc (length rs) → p (at no_term (r ∷ rs) t) ≡ true → ⊥) → (t : ℕ) → 1 ≤ t → t ≤ length rs → p (at no_term rs t) ≡ true → ⊥
      later h zero one l e = absurd (omega arith)
      later h (suc i) one l e = h (suc (suc i)) (omega arith) (omega arith) e

  pub seek_first : (rs : List TermRecord) (t : ℕ) → 1 ≤ t → t ≤ length rs → p (at no_term rs t) ≡ true
      → ((j : ℕ) → 1 ≤ j → j < t → p (at no_term rs j) ≡ true → ⊥) → seek p rs ≡ t
  unfolding seek
  seek_first rs zero one l e none = absurd (omega arith)
  seek_first [] (suc i) one l e none = absurd (omega arith)
  seek_first (r ∷ rs) (suc zero) one l e none = rw e
  seek_first (r ∷ rs) (suc (suc i)) one l e none =
      rw (not_true (p r) (none 1 (omega arith) (omega arith)), seek_first rs (suc i) (omega arith) (omega arith) e (later none))
    where
      later : ((j : ℕ) → 1 ≤ j → j < suc (suc i) → p (at no_term (r ∷ rs) j) ≡ true → ⊥) → (j : ℕ) → 1 ≤ j → j < suc i → p (at no_term rs j) ≡ true → ⊥
      later h zero one l e = absurd (omega arith)
      later h (suc j) one l e = h (suc (suc j)) (omega arith) (omega arith) e

pub seek_le : (p : TermRecord → Bool) (rs : List TermRecord) → seek p rs ≤ length rs
unfolding seek
seek_le p [] = omega arith
seek_le p (r ∷ rs) = go (p r) (seek p rs) (seek_le p rs)
  where
    go : (q : Bool) (x : ℕ) → x ≤ length rs → cond q 1 (after x) ≤ suc (length rs)
    go true x h = omega arith
    go false zero h = omega arith
    go false (suc x) h = omega arith
