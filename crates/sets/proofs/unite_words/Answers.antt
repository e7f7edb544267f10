-- `sets::unite_words` meets its contract. The invariant: the first k words are united; those that are read next are as they were.
use native.Mathlib.Omega.{arith}
use Prim.Native.Nat.{ℕ, ◌+◌}
use mathlib.Core.Path.{◌≡◌, refl}
use mathlib.Core.Logic.{inl, inr}
use lib.ListN.{get_or}
use lib.Bits.{bit_or}
use Rattle.sets.specs.Sets.{filled}
use Rattle.sets.proofs.Members.{filled_more, filled_out}
use Rattle.sets.proofs.unite_words.Goals as goal

pub loop-k-init : goal.loop-k-init
unfolding filled
loop-k-init c = refl

pub loop-k-preserved : goal.loop-k-preserved
loop-k-preserved c =
    let l = c.loop-k in
    let a = c.args in
    let w = a.area.now in
    let g : ℕ → ℕ = λ k. bit_or (get_or w (a.to + k) 0) (get_or w (a.from + k) 0) in
    let x : get_or l.area (a.to + l.k) 0 ≡ get_or w (a.to + l.k) 0 =
    rw l.invariant (filled_out g w a.to l.k (a.to + l.k) (inr (omega arith))) in
    let y : get_or l.area (a.from + l.k) 0 ≡ get_or w (a.from + l.k) 0 =
    rw l.invariant (filled_out g w a.to l.k (a.from + l.k) (inl (omega arith))) in
    filled_more g w a.to l.k _ l.area l.invariant (rw (x, y))
