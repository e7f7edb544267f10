-- The stack of pending pairs.
--     Pair                                   a word that holds a result and a step
--     below_same, below_trans, below_set     what a visit leaves as it was
--     below_halves                           so the results and steps there
--     halves_first, halves_then              the first pair of a list, and the last one
use mathlib.Core.Path.{◌≡◌, refl, sym, ap, ◌∙◌}
use mathlib.Core.Bool.{Bool, true, false}
use mathlib.Core.List.{List, [], ◌∷◌, ◌++◌}
use Prim.Native.Nat.{ℕ, suc, ◌+◌, ◌≤◌, ◌<◌}
use native.Mathlib.Omega.{arith}
use lib.ListN.{length, get_or, take, set, length-set}
use lib.Seq.{take-take, take-set-le, get_or-take, get_or-set_same}
use Rattle.scratch.specs.Stack.{half_of, halves}
use Rattle.scratch.proofs.Halves.{halves_more, halves_same, halves_push}
use Rattle.placing.specs.Outcomes.{StackKept}

-- a pair of x and y
pub record Pair (pair x y : ℕ) : Type 0 where
  pub upper : half_of true pair ≡ x
  pub lower : half_of false pair ≡ y

pub below_same : (s : List ℕ) (h : ℕ) → StackKept s s h
below_same s h = record { long = refl; below = refl }

pub below_trans : {s s1 s2 : List ℕ} {h k : ℕ} → h ≤ k → StackKept s s1 h → StackKept s1 s2 k → StackKept s s2 h
below_trans {s} {s1} {s2} {h} {k} le p q = record {
  long = q.long ∙ p.long;
  below = sym (take-take h k s2 le) ∙ ap (take h) q.below ∙ take-take h k s1 le ∙ p.below;
}

pub below_set : (s : List ℕ) (h k x : ℕ) → h ≤ k → StackKept s (set s k x) h
below_set s h k x le = record { long = length-set s k x; below = take-set-le h s k x le }

below_at : {s s' : List ℕ} {h : ℕ} → StackKept s s' h → (i : ℕ) → i < h → get_or s' i 0 ≡ get_or s i 0
below_at {s} {s'} {h} p i l = sym (get_or-take h s' i 0 l) ∙ ap (λ (xs : List ℕ). get_or xs i 0) p.below ∙ get_or-take h s i 0 l

pub below_halves : {s s' : List ℕ} {to : ℕ} → StackKept s s' to → (u : Bool) (from : ℕ) → to ≤ length s → halves u s' from to ≡ halves u s from to
below_halves {s} {s'} {to} p u from k = halves_same u s from to s' p.long k (λ i a l. below_at p i l)

-- the pair x stored at h, then m more above it
pub halves_first : (s : List ℕ) (h x : ℕ) {s3 : List ℕ} → h < length s → StackKept (set s h x) s3 (h + 1) → (u : Bool) (m : ℕ) → h + 1 + m ≤ length s3
    → halves u s3 h (h + suc m) ≡ half_of u x ∷ halves u s3 (h + 1) (h + 1 + m)
halves_first s h x {s3} l p u m k =
    let e : h + suc m ≡ h + 1 + m = omega arith in
    let here : get_or s3 h 0 ≡ x = below_at p h (omega arith) ∙ get_or-set_same s h x 0 l in
    ap (λ (n : ℕ). halves u s3 h n) e
    ∙ halves_more u s3 h (h + 1 + m) (omega arith) k
    ∙ ap (λ (y : ℕ). half_of u y ∷ halves u s3 (h + 1) (h + 1 + m)) here

-- the pair x stored on top of those below
pub halves_then : {s s2 : List ℕ} {top : ℕ} → StackKept s s2 top → (u : Bool) (h x : ℕ) → h ≤ top → top < length s2
    → halves u (set s2 top x) h (top + 1) ≡ halves u s h top ++ (half_of u x ∷ [])
halves_then {s} {s2} {top} p u h x le l =
    halves_push u s2 h top x le l
    ∙ ap (λ (xs : List ℕ). xs ++ (half_of u x ∷ [])) (below_halves p u h (let e : length s2 ≡ length s = p.long in omega arith))
