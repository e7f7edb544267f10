-- `Kept::marked` meets its contract.
use native.Mathlib.Omega.{arith}
use mathlib.Core.Path.{◌≡◌, sym, ◌∙◌}
use Prim.Native.Nat.{◌+◌, ◌-◌}
use Rattle.expansion.specs.Names.{listed, binders}
use Rattle.names.specs.Marks.{mark_of, counted}
use Rattle.names.proofs.Marks.{mark_on}
use Rattle.names.proofs.Kept.marked.Goals as goal

pub loop-t-init : goal.loop-t-init
unfolding mark_of listed binders counted
loop-t-init c x up = c.none-kept.ensures x up

pub loop-t-preserved : goal.loop-t-preserved
loop-t-preserved c x up =
    let b = c.args.bundle.now in
    let t = c.loop-t.t in
    let e : t + 1 - 1 ≡ t = omega arith in
    c.mark_term.ensures x up ∙ rw (c.loop-t.invariant x up, e) (sym (mark_on b x t (omega arith)))
