-- `unite_kept` meets its contract. The invariant: the first k words are united.
use native.Mathlib.Omega.{arith}
use Prim.Native.Nat.{ℕ, ◌+◌}
use mathlib.Core.Path.{◌≡◌, refl}
use mathlib.Core.Logic.{inr}
use lib.ListN.{get_or, length-set}
use lib.Bits.{bit_or}
use Rattle.sets.specs.Sets.{filled}
use Rattle.sets.proofs.Members.{filled_more, filled_out}
use Rattle.unions.proofs.unite_kept.Goals as goal

pub loop-k-init : goal.loop-k-init
unfolding filled
loop-k-init c = (refl, refl)

pub loop-k-preserved : goal.loop-k-preserved
loop-k-preserved c =
    let l = c.loop-k in
    let a = c.args in
    let w = a.area.now in
    let g : ℕ → ℕ = λ k. bit_or (get_or w (a.at + k) 0) (get_or a.lists.now (a.from + k) 0) in
    let x : get_or l.area (a.at + l.k) 0 ≡ get_or w (a.at + l.k) 0 =
    rw l.invariant.1 (filled_out g w a.at l.k (a.at + l.k) (inr (omega arith))) in
    (simp length-set l.invariant.0, filled_more g w a.at l.k _ l.area l.invariant.1 (rw x))
