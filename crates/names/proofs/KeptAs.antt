-- What is kept, as a function of the variable.
--     kept_as   THE LAW: what is noted of the numbers up to the limit is the whole function
use mathlib.Core.Path.{◌≡◌, sym, fun_ext}
use Prim.Native.Nat.{ℕ, ◌≤◌, ◌<◌}
use mathlib.Core.Bool.{false}
use native.Mathlib.Omega.{arith}
use native.Mathlib.Decide.{dec_le}
use lib.ListN.{length}
use Rattle.std.proofs.lemmas.Bool.{false_from_ne_true, lt-leb}
use Rattle.bundle.specs.Bundle.{Bundle}
use Rattle.bundle.specs.Limits.{limits}
use Rattle.logic.specs.WellFormed.{TablesFormed}
use Rattle.expansion.specs.declared.Names.{Names}
use Rattle.expansion.specs.Names.{keeps}
use Rattle.expansion.proofs.KeptNames.{kept_number}
use Rattle.names.specs.declared.Kept.{Kept}
use Rattle.names.specs.Marks.{kept_in}

module _ (b : Bundle) (formed : TablesFormed b) (names : Names) (few : length b.variables ≤ limits.variables) where
  -- no number past the limit is kept
  none_past : (x : ℕ) → limits.variables < x → keeps names b x ≡ false
  none_past x past = false_from_ne_true (keeps names b x) (λ h. let n = kept_number b formed names x h in omega (arith, few, n.1, past))

  pub kept_as : (k : Kept) → ((x : ℕ) → x ≤ limits.variables → kept_in k x ≡ keeps names b x) → kept_in k ≡ keeps names b
  kept_as k same = fun_ext (λ x. go x (dec_le x limits.variables))
    where
      go : (x : ℕ) → Dec (x ≤ limits.variables) → kept_in k x ≡ keeps names b x
      go x (yes up) = same x up
      go x (no past) = rw (lt-leb x limits.variables (omega arith)) (sym (none_past x (omega arith)))
