-- `notes::note_sorts` meets its contract.
use native.Mathlib.Omega.{arith}
use mathlib.Core.Path.{refl, ◌∙◌}
use lib.ListN.{length-set}
use Rattle.sorting.proofs.SortsNoted.{sorts_none, sorts_on, sorts_all_lem}
use Rattle.sorting.proofs.notes.note_sorts.Goals as goal

pub loop-t-init : goal.loop-t-init
loop-t-init c =
    (refl, sorts_none c.args.bundle.now c.args.sorts.now c.requires.1)

pub loop-t-preserved : goal.loop-t-preserved
loop-t-preserved c =
    let l = c.loop-t in
    let a = c.args in (
      length-set l.sorts l.t _ ∙ l.invariant.0,
      sorts_on a.bundle.now l.sorts l.t c.sort_by-sort.result l.invariant.1 (omega (arith, l.invariant.0, c.requires.0)) c.sort_by-sort.ensures,
    )

pub returns : goal.returns
returns c =
    let l = c.loop-t in
    let a = c.args in
    sorts_all_lem a.bundle.now l.sorts l.t l.invariant.1 (omega arith)
