-- An area that is `free_area` holds the free sets.
--     free_sets     it does, if each variable has a bit
--     sets_held     the same in the words of the code
use Prim.Native.Nat.{ℕ, ◌*◌, ◌-◌, ◌≤◌}
use mathlib.Core.Path.{◌≡◌, refl, sym, ap, ◌∙◌}
use mathlib.Core.Bool.{Bool, true, false, false≢true}
use mathlib.Core.List.{List}
use native.Mathlib.Omega.{arith}
use lib.ListN.{length}
use Rattle.bundle.specs.Bundle.{Bundle}
use Rattle.bundle.proofs.Tab.{tab_length}
use Rattle.sets.specs.Sets.{holds, member}
use Rattle.sets.proofs.Members.{holds_small}
use Rattle.logic.specs.Free.{free_at, free_area}
use Rattle.logic.proofs.Tests.{numbers_of_lem}
use Rattle.logic.proofs.Trees.{free_known}
use Rattle.free_variables.specs.FreeSets.{FreeSets}
use Rattle.free_variables.proofs.SetWords.{area_member}

-- A number with no bit is in no set, and is no variable: it is free nowhere.
pub free_sets : (b : Bundle) (n m : ℕ) (w : List ℕ) → 1 ≤ n → length b.variables ≤ 64 * n → n * length b.terms ≤ m → w ≡ free_area b n m
    → FreeSets (record { bundle = b; words = w; n = n })
unfolding member free_area
free_sets b n m w one few long area = record {
  long = rw (area, tab_length) long;
  same = λ t v first last. go t v first last (holds n v) refl;
}
  where
    none : (t v : ℕ) → holds n v ≡ false → (p : Bool) → free_at b t v ≡ p → false ≡ p
    none t v e true f =
        let k : (1 ≤ v) × (v ≤ length b.variables) = numbers_of_lem (length b.variables) v (free_known b t v f) in
        absurd (false≢true (sym e ∙ holds_small n v k.0 (omega arith)))
    none t v e false f = refl

    go : (t v : ℕ) → 1 ≤ t → t ≤ length b.terms → (p : Bool) → holds n v ≡ p → member w (n * (t - 1)) n v ≡ free_at b t v
    go t v first last true e = ap (λ (x : List ℕ). member x (n * (t - 1)) n v) area ∙ area_member b n m one t v first last long e
    go t v first last false e = rw e (none t v e (free_at b t v) refl)

pub sets_held : (b : Bundle) (n m : ℕ) (w : List ℕ) → 1 ≤ n → (length b.variables) ≤ 64 * n → n * (length b.terms) ≤ m → w ≡ free_area b n m
    → FreeSets (record { bundle = b; words = w; n = n })
sets_held b n m w one bits long area = free_sets b n m w one bits long area
