-- `sections::store_section` meets its contract. The invariant: the first i words are stored.
use Prim.Native.Nat.{◌+◌, ◌<◌}
use mathlib.Core.Path.{◌≡◌}
use native.Mathlib.Nat.{add-zero}
use native.Mathlib.Numerals.{add-one}
use native.Mathlib.Omega.{arith}
use lib.ListN.{length, drop, length-drop}
use lib.Seq.{take-suc, get_or-drop}
use Rattle.files.proofs.Encoded.{stored_none, stored_on}
use Rattle.files.proofs.sections.store_section.Goals as goal

pub loop-i-init : goal.loop-i-init
loop-i-init c = let a = c.args in rw add-zero (stored_none a.out.now a.place)

pub loop-i-preserved : goal.loop-i-preserved
loop-i-preserved c =
    let a = c.args in
    let l = c.loop-i in
    let e : a.place + (l.i + 1) ≡ a.place + l.i + 1 = omega arith in
    let ws = drop a.from a.words.now in
    let more : l.i < length ws = simp length-drop (omega arith) in
    rw (e, add-one l.i, take-suc ws l.i 0 more, get_or-drop) (stored_on l.invariant c.put_word.ensures)
