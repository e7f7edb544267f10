-- What no entry of a context mentions.
--     only_above         what an entry does not mention is mentioned above it, or not at all; by kind: `not_fixed`, `not_replaced`, `no_entry`
use mathlib.Core.Path.{◌≡◌, sym, ◌∙◌, subst}
use mathlib.Core.Bool.{Bool, false, false≢true}
use Prim.Native.Nat.{ℕ}
use native.Mathlib.Omega.{arith}
use lib.Dec.{eqb}
use borrow.Author.Tests.{eqb-false}
use Rattle.bundle.specs.Bundle.{Bundle, context_of}
use Rattle.bundle.specs.Links.{items}
use Rattle.bundle.specs.Lists.{has}
use Rattle.logic.specs.Lists.{Among}
use Rattle.logic.specs.Contexts.{Mentioned, by_fixing, by_replacing, by_parent}
use Rattle.logic.proofs.Exactly.{has_exactly}

only_above : {b : Bundle} {c x : ℕ} → ((context_of b c).kind ≡ 1 → (context_of b c).a ≡ x → ⊥)
    → ((context_of b c).kind ≡ 2 → Among x (items b (context_of b c).a) → ⊥) → Mentioned b c x → Mentioned b (context_of b c).parent x
only_above fixes replaces (by_fixing k a) = absurd (fixes k a)
only_above fixes replaces (by_replacing k m) = absurd (replaces k m)
only_above fixes replaces (by_parent m) = m

-- as the fields were read
module _ (b : Bundle) (c x kind a : ℕ) (is-kind : kind ≡ (context_of b c).kind) (is-a : a ≡ (context_of b c).a) where
  pub not_fixed : kind ≡ 1 → eqb a x ≡ false → Mentioned b c x → Mentioned b (context_of b c).parent x
  not_fixed one e = only_above (λ _ same. eqb-false a x e (is-a ∙ same)) (λ two _. omega arith)

  pub not_replaced : (kind ≡ 1 → ⊥) → {r : Bool} → r ≡ has x (items b a) → r ≡ false → Mentioned b c x → Mentioned b (context_of b c).parent x
  not_replaced no_one r e =
      only_above (λ one _. no_one (is-kind ∙ one)) (λ _ m. false≢true (sym e ∙ r ∙ (has_exactly x (items b a)).1 (subst (λ (l : ℕ). Among x (items b l)) (sym is-a) m)))

  pub no_entry : (kind ≡ 1 → ⊥) → (kind ≡ 2 → ⊥) → Mentioned b c x → Mentioned b (context_of b c).parent x
  no_entry no_one no-two = only_above (λ one _. no_one (is-kind ∙ one)) (λ two _. no-two (is-kind ∙ two))
