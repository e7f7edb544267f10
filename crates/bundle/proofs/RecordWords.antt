-- Records as their fields.
--     step_of_words   a step is its fields
use Prim.Native.Nat.{ℕ}
use mathlib.Core.Path.{◌≡◌}
use Rattle.bundle.specs.Bundle.{Step}

pub step_of_words : (r : Step) {k x y z w : ℕ} → k ≡ r.rule → x ≡ r.context → y ≡ r.left → z ≡ r.right → w ≡ r.premises
    → ◌≡◌ {A = Step} (record { rule = k; context = x; left = y; right = z; premises = w }) r
step_of_words r e f g h j = λ i. record { rule = e i; context = f i; left = g i; right = h i; premises = j i }
