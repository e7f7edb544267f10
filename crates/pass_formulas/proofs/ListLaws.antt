-- Lists that grow at their end.
--     has_more, different_more     a value that is not in a list of different ones
use Prim.Native.Nat.{ℕ}
use mathlib.Core.Path.{◌≡◌, refl, sym, ap, ap₂}
use mathlib.Core.Bool.{Bool, true, false, not, ◌&&◌, ◌||◌}
use mathlib.Core.List.{List, [], ◌∷◌, ◌++◌}
use lib.Dec.{eqb}
use borrow.Author.Tests.{ne_eqb, eqb-false, not-true}
use Rattle.std.proofs.lemmas.Bool.{or_parts}
use Rattle.bundle.specs.Lists.{has, different}
use Rattle.logic.proofs.Tests.{and_left, and_right}

has_more : (ys : List ℕ) (x y : ℕ) → has y ys ≡ false → eqb y x ≡ false → has y (ys ++ (x ∷ [])) ≡ false
unfolding has
has_more [] x y n e = ap (λ (p : Bool). p || false) e
has_more (z ∷ zs) x y n e = let (first, rest) = or_parts (eqb y z) (has y zs) n in ap₂ (λ (p q : Bool). p || q) first (has_more zs x y rest e)

pub different_more : (xs : List ℕ) (x : ℕ) → different xs ≡ true → has x xs ≡ false → different (xs ++ (x ∷ [])) ≡ true
unfolding has different
different_more [] x d n = refl
different_more (y ∷ ys) x d n =
    let (first, rest) = or_parts (eqb x y) (has x ys) n in
    let apart : eqb y x ≡ false = ne_eqb y x (λ z. eqb-false x y first (sym z)) in
    let was : has y ys ≡ false = not-true (has y ys) (and_left (not (has y ys)) (different ys) d) in
    ap₂ (λ (p q : Bool). not p && q) (has_more ys x y was apart) (different_more ys x (and_right (not (has y ys)) (different ys) d) rest)
