-- A stray variable, by sets that are the free sets.
use mathlib.Core.Path.{◌≡◌, sym, ◌∙◌, subst}
use mathlib.Core.Bool.{true}
use Prim.Native.Nat.{ℕ}
use Rattle.logic.specs.Free.{free_at}
use Rattle.logic.specs.Contexts.{Mentioned}
use Rattle.free_variables.specs.FreeSets.{FreeSets}
use Rattle.free_variables.specs.TermSets.{TermSets, free_in}
use Rattle.images.proofs.ReadingRight.{free_right}

-- What is free by the sets s, which are k, is free.
pub stray_free : {s : TermSets} (k : TermSets) → s ≡ k → FreeSets k → (Γ t x : ℕ)
    → (free_in s t x ≡ true) × (Mentioned s.bundle Γ x → ⊥) → {v u : ℕ} → v ≡ x → u ≡ t
    → (free_at k.bundle u v ≡ true) × (Mentioned k.bundle Γ v → ⊥)
stray_free {s} k e sets Γ t x h p q =
    let told : (free_in k t x ≡ true) × (Mentioned k.bundle Γ x → ⊥) =
    subst (λ (z : TermSets). (free_in z t x ≡ true) × (Mentioned z.bundle Γ x → ⊥)) e h in
    (rw (p, q) (sym (free_right k sets t x) ∙ told.0), rw p told.1)
