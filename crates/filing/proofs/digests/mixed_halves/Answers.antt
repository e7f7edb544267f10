-- `mixed_halves` meets its contract.
use Rattle.scratch.proofs.Halves.{rest_none, rest_more}
use Rattle.filing.specs.Filing.{mix_all}
use Rattle.filing.proofs.digests.mixed_halves.Goals as goal

pub loop-pair-preserved : goal.loop-pair-preserved
unfolding mix_all
loop-pair-preserved c =
    let a = c.args in
    let l = c.loop-pair in
    rw (
      l.invariant,
      rest_more a.upper a.pairs.now l.pair-index c.loop-pair-test.true,
      ← c.half.ensures.0,
      c.mixed-sum.ensures,
    )

pub returns : goal.returns
unfolding mix_all
returns c =
    let a = c.args in
    let l = c.loop-pair in
    rw (l.invariant, rest_none a.upper a.pairs.now l.pair-index c.loop-pair-test.false)
