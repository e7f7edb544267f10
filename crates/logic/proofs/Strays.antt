-- 22, stray.
--     stray_exactly     THE THEOREM: 22 exactly where a free variable of a side is mentioned by no entry of the step's context
use mathlib.Core.Path.{◌≡◌, refl}
use Prim.Native.Nat.{ℕ}
use native.Mathlib.Omega.{arith}
use mathlib.Core.Bool.{Bool, true, false, cond}
use mathlib.Core.Logic.{◌⊎◌, inl, inr}
use Rattle.bundle.specs.Bundle.{Step, step_of}
use Rattle.logic.specs.Terms.{tree}
use Rattle.logic.specs.Free.{Free}
use Rattle.logic.specs.Instance.{SidesInScope}
use Rattle.logic.specs.Rules.{step_refers, scoped, suffices, matches, sides, step_fault}
use Rattle.logic.specs.Statements.{Stray, StrayExactly}
use Rattle.logic.proofs.Scopes.{scoped_exactly, unscoped}

pub stray_exactly : StrayExactly
unfolding step_fault scoped
stray_exactly b well k =
    (λ e. there (step_refers b k) refl (scoped b k) refl (suffices b k) (matches b k) (sides b k) e, λ h. back h (scoped b k) refl)
  where
    s : Step
    s = step_of b k

    fault : Bool → Bool → Bool → Bool → Bool → ℕ
    fault p z q m t = cond p (cond z (cond q (cond m (cond t 0 14) 13) 21) 22) 12

    there : (p : Bool) → step_refers b k ≡ p → (z : Bool) → scoped b k ≡ z → (q m t : Bool) → fault p z q m t ≡ 22 → Stray b k
    there false refers z scope q m t e = absurd (omega arith)
    there true refers false scope q m t e =
        let (x, f, out) = unscoped b well s scope in
        record { refers = refers; variable = x; free = f; unmentioned = out }
    there true refers true scope false m t e = absurd (omega arith)
    there true refers true scope true false t e = absurd (omega arith)
    there true refers true scope true true false e = absurd (omega arith)
    there true refers true scope true true true e = absurd (omega arith)

    -- both sides in scope mention the variable
    mentions : (h : Stray b k) → SidesInScope b s → Free h.variable (tree b s.left) ⊎ Free h.variable (tree b s.right) → ⊥
    mentions h both (inl f) = h.unmentioned (both.0 h.variable f)
    mentions h both (inr f) = h.unmentioned (both.1 h.variable f)

    back : (h : Stray b k) (z : Bool) → scoped b k ≡ z → fault (step_refers b k) (scoped b k) (suffices b k) (matches b k) (sides b k) ≡ 22
    back h true scope = absurd (mentions h ((scoped_exactly b well s).0 scope) h.free)
    back h false scope = rw (h.refers, scope)
