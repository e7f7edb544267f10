-- Rules and their numbers.
--     number_of_rule      the number that stands for a rule
use mathlib.Core.Path.{◌≡◌, refl, sym, ap, ◌∙◌}
use mathlib.Core.Bool.{Bool, true, false, cond}
use Prim.Native.Nat.{ℕ}
use lib.Dec.{eqb}
use borrow.Author.Tests.{eqb-true}
use Rattle.logic.specs.Rules.{Rule, REFL, CONG, TRANS, BIND, LET, SKO_EXISTS, SKO_FOR_ALL, noRule, rule_number, rule_of}

module _ (n : ℕ) (r : Rule) where
  -- n is the number of the rule ρ, or else that of r
  next : (ρ : Rule) {rest : Rule} → (rest ≡ r → n ≡ rule_number r) → cond (eqb n (rule_number ρ)) ρ rest ≡ r → n ≡ rule_number r
  next ρ {rest} later = go (eqb n (rule_number ρ)) refl
    where
      go : (p : Bool) → eqb n (rule_number ρ) ≡ p → cond p ρ rest ≡ r → n ≡ rule_number r
      go true is e = eqb-true n (rule_number ρ) is ∙ ap rule_number e
      go false is e = later e

  pub number_of_rule : rule_of n ≡ r → (r ≡ noRule → ⊥) → n ≡ rule_number r
  unfolding rule_of
  number_of_rule e some =
      next REFL (next CONG (next TRANS (next BIND (next LET (next SKO_EXISTS (next SKO_FOR_ALL (λ none. absurd (some (sym none))))))))) e
