-- `join` meets its contract. The invariant: the first k words are written; those that are read next are as they were.
use native.Mathlib.Omega.{arith}
use Prim.Native.Nat.{ℕ, ◌+◌, ◌≤◌, ◌<◌}
use mathlib.Core.Path.{◌≡◌, refl}
use mathlib.Core.Logic.{◌⊎◌, inl, inr}
use lib.ListN.{get_or, length-set}
use lib.Bits.{bit_or}
use Rattle.sets.specs.Sets.{filled}
use Rattle.sets.proofs.Members.{filled_more, filled_out}
use Rattle.unions.proofs.join.Goals as goal

-- word k of the other set has not been written yet
still : (n k second to : ℕ) → k < n → (second + n ≤ to) ⊎ (to + n ≤ second) → (second + k < to) ⊎ (to + k ≤ second + k)
still n k second to h (inl l) = inl (omega arith)
still n k second to h (inr l) = inr (omega arith)

pub loop-k-init : goal.loop-k-init
unfolding filled
loop-k-init c = (refl, refl)

pub loop-k-preserved : goal.loop-k-preserved
loop-k-preserved c =
    let l = c.loop-k in
    let a = c.args in
    let w = a.lists.now in
    let g : ℕ → ℕ = λ k. bit_or (get_or a.area.now (a.first + k) 0) (get_or w (a.second + k) 0) in
    let y : get_or l.lists (a.second + l.k) 0 ≡ get_or w (a.second + l.k) 0 =
    rw l.invariant.1
    (filled_out g w a.to l.k (a.second + l.k)
    (still a.n l.k a.second a.to (omega arith) c.requires.0)) in
    (simp length-set l.invariant.0, filled_more g w a.to l.k _ l.lists l.invariant.1 (rw y))
