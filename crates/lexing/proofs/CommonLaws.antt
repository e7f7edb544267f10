-- Laws of runs compared with words.
--     shared_on, shared_differ, shared_other, shared_run     the loop of `runs::in_common`
--     same_common, starts_common     sameness and starts, by what is in common
--     starts_pointwise     starts, as `starts_with` has it
use Prim.Native.Nat.{ℕ, suc, ◌+◌, ◌≤◌, ◌<◌}
use native.Mathlib.Omega.{arith}
use native.Mathlib.Numerals.{add-one}
use mathlib.Core.Path.{◌≡◌, refl, ap, ap₂, ◌∙◌}
use mathlib.Core.Bool.{Bool, true, false, cond, ◌&&◌}
use mathlib.Core.List.{List, [], ◌∷◌}
use lib.ListN.{length, get_or, take, drop, drop_of_length-le}
use lib.Pointwise.{pointwise}
use lib.Seq.{drop-cons}
use lib.Dec.{eqb, eqb-suc-suc, eqb-zero-suc}
use borrow.Author.Tests.{eq-eqb, ne_eqb}
use Rattle.bundle.specs.Lists.{same_list}
use Rattle.grammar.specs.Parser.{starts}
use Rattle.lexing.specs.Common.{common}

-- the first j bytes are in common
pub record Shared (u v : List ℕ) (j : ℕ) : Type 0 where
  pub in_run : j ≤ length u
  pub in_other : j ≤ length v
  pub rest : common u v ≡ j + common (drop j u) (drop j v)

common_nil : (u : List ℕ) → common u [] ≡ 0
unfolding common
common_nil [] = refl
common_nil (x ∷ u) = refl

pub shared_on : (u v : List ℕ) (j : ℕ) → Shared u v j → j < length u → j < length v → get_or u j 0 ≡ get_or v j 0 → Shared u v (j + 1)
unfolding common
shared_on u v j h l k e =
    let one : common (drop j u) (drop j v) ≡ suc (common (drop (suc j) u) (drop (suc j) v)) = rw
    (drop-cons u j 0 l, drop-cons v j 0 k, eq-eqb (get_or u j 0) (get_or v j 0) e) in
    rw (add-one j) (record { in_run = l; in_other = k; rest = omega (arith, h.rest) })

pub shared_differ : (u v : List ℕ) (j : ℕ) → Shared u v j → j < length u → j < length v → (get_or u j 0 ≡ get_or v j 0 → ⊥) → j ≡ common u v
unfolding common
shared_differ u v j h l k e =
    let z : common (drop j u) (drop j v) ≡ 0 = rw (drop-cons u j 0 l, drop-cons v j 0 k, ne_eqb (get_or u j 0) (get_or v j 0) e) in
    omega (arith, h.rest)

pub shared_other : (u v : List ℕ) (j : ℕ) → Shared u v j → length v ≤ j → j ≡ common u v
shared_other u v j h l =
    let z : common (drop j u) (drop j v) ≡ 0 = rw (drop_of_length-le v l) (common_nil (drop j u)) in
    omega (arith, h.rest)

pub shared_run : (u v : List ℕ) (j : ℕ) → Shared u v j → length u ≤ j → j ≡ common u v
unfolding common
shared_run u v j h l =
    let z : common (drop j u) (drop j v) ≡ 0 = rw (drop_of_length-le u l) in
    omega (arith, h.rest)

-- ---- sameness

pub starts_common : (u v : List ℕ) → eqb (common u v) (length u) ≡ starts u v
unfolding common starts
starts_common [] v = refl
starts_common (x ∷ u) [] = eqb-zero-suc (length u)
starts_common (x ∷ u) (y ∷ v) = go (eqb x y) (starts_common u v)
  where
    go : (b : Bool) → eqb (common u v) (length u) ≡ starts u v → eqb (cond b (suc (common u v)) 0) (suc (length u)) ≡ (b && starts u v)
    go true h = eqb-suc-suc (common u v) (length u) ∙ h
    go false h = eqb-zero-suc (length u)

pub starts_pointwise : (u v : List ℕ) → pointwise eqb u (take (length u) v) ≡ starts u v
unfolding starts
starts_pointwise [] v = refl
starts_pointwise (x ∷ u) [] = refl
starts_pointwise (x ∷ u) (y ∷ v) = ap (λ p. eqb x y && p) (starts_pointwise u v)

pub same_common : (u v : List ℕ) → (eqb (common u v) (length u) && eqb (length u) (length v)) ≡ same_list u v
unfolding common same_list
same_common [] [] = refl
same_common [] (y ∷ v) = eqb-zero-suc (length v)
same_common (x ∷ u) [] = rw (eqb-zero-suc (length u))
same_common (x ∷ u) (y ∷ v) = go (eqb x y) (same_common u v)
  where
    go : (b : Bool) → (eqb (common u v) (length u) && eqb (length u) (length v)) ≡ same_list u v
        → (eqb (cond b (suc (common u v)) 0) (suc (length u)) && eqb (suc (length u)) (suc (length v))) ≡ (b && same_list u v)
    go true h = ap₂ ◌&&◌ (eqb-suc-suc (common u v) (length u)) (eqb-suc-suc (length u) (length v)) ∙ h
    go false h = rw (eqb-zero-suc (length u))
