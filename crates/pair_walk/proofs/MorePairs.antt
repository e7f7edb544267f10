-- A walk with more pairs left.
--     more_same, more_different     a walk that ended within n pairs ends the same with k more, and k more are left
--     same_few, different_few       no more pairs are left than there were
use mathlib.Core.Path.{◌≡◌, sym, ap, ◌∙◌}
use mathlib.Core.Bool.{Bool, true, false}
use Prim.Native.Nat.{ℕ, ◌+◌, ◌-◌, ◌≤◌}
use native.Mathlib.Omega.{arith}
use Rattle.bundle.specs.Bundle.{Bundle}
use Rattle.logic.specs.declared.Image.{Image}
use Rattle.logic.specs.declared.Limited.{Limited}
use Rattle.logic.specs.declared.Limited.TheVariants.{Same, Different}
use Rattle.logic.specs.ReflWalk.{Crossed, PairWalk, pair_walk_by, ended, within_by, limit}
use Rattle.logic.proofs.ReflWalk.{limit_fits, limit_same, limit_different, pair_walk_limited}

same_left : (n m : ℕ) (w : PairWalk) → limit n w ≡ Same m → (w.same ≡ true) × (w.pairs ≤ n) × (m ≡ n - w.pairs)
same_left n m w e =
    let f = limit_same n w m e in
    let is : Same m ≡ Same (n - w.pairs) = sym e ∙ limit_fits n w f.1 ∙ ap (λ (p : Bool). ended p (n - w.pairs)) f.0 in
    (f.0, f.1, cc)

different_left : (n m : ℕ) (w : PairWalk) → limit n w ≡ Different m → (w.same ≡ false) × (w.pairs ≤ n) × (m ≡ n - w.pairs)
different_left n m w e =
    let f = limit_different n w m e in
    let is : Different m ≡ Different (n - w.pairs) = sym e ∙ limit_fits n w f.1 ∙ ap (λ (p : Bool). ended p (n - w.pairs)) f.0 in
    (f.0, f.1, cc)

limit_more_same : (n m k : ℕ) (w : PairWalk) → limit n w ≡ Same m → limit (n + k) w ≡ Same (m + k)
limit_more_same n m k w e =
    let f = same_left n m w e in
    let left : n + k - w.pairs ≡ m + k = omega (arith, f.1, f.2) in
    limit_fits (n + k) w (omega (arith, f.1)) ∙ ap (λ (p : Bool). ended p (n + k - w.pairs)) f.0 ∙ ap Same left

limit_more_different : (n m k : ℕ) (w : PairWalk) → limit n w ≡ Different m → limit (n + k) w ≡ Different (m + k)
limit_more_different n m k w e =
    let f = different_left n m w e in
    let left : n + k - w.pairs ≡ m + k = omega (arith, f.1, f.2) in
    limit_fits (n + k) w (omega (arith, f.1)) ∙ ap (λ (p : Bool). ended p (n + k - w.pairs)) f.0 ∙ ap Different left

module _ (free : ℕ → ℕ → Bool) (image : ℕ → Image) (b : Bundle) (l : ℕ) (ps : Crossed) (r n m : ℕ) {a : Limited} (e : a ≡ within_by free image b l ps r n) where
  abbrev walked : PairWalk
  walked = pair_walk_by free image b l ps r

  limited : (k : ℕ) → within_by free image b l ps r k ≡ limit k walked
  limited k = pair_walk_limited free image b l ps r k

  here : limit n walked ≡ a
  here = sym (e ∙ limited n)

  module _ (is : a ≡ Same m) where
    pub same_few : m ≤ n
    same_few = omega (arith, (same_left n m walked (here ∙ is)).2)

    pub more_same : (k : ℕ) → Same (m + k) ≡ within_by free image b l ps r (n + k)
    more_same k = sym (limited (n + k) ∙ limit_more_same n m k walked (here ∙ is))

  module _ (is : a ≡ Different m) where
    pub different_few : m ≤ n
    different_few = omega (arith, (different_left n m walked (here ∙ is)).2)

    pub more_different : (k : ℕ) → Different (m + k) ≡ within_by free image b l ps r (n + k)
    more_different k = sym (limited (n + k) ∙ limit_more_different n m k walked (here ∙ is))
