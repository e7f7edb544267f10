-- `heads::all_declared` meets its contract.
use mathlib.Core.Path.{◌∙◌, sym}
use Rattle.node_tests.proofs.PartLaws.{part_further}
use Rattle.node_tests.proofs.HeadLaws.{pass_end, pass_fails, pass_on}
use Rattle.node_tests.proofs.heads.all_declared.Goals as goal

pub returns-then-not-as_declared : goal.returns-then-not-as_declared
returns-then-not-as_declared c =
    pass_fails c.loop-rest.invariant (sym c.part_at.ensures ∙ c.loop-rest-test.true)
    (sym c.as_declared.ensures ∙ c.if-not-as_declared.true)

pub loop-rest-smaller : goal.loop-rest-smaller
loop-rest-smaller c = part_further c.after_formula-rest.ensures (sym c.part_at.ensures ∙ c.loop-rest-test.true)

pub loop-rest-preserved : goal.loop-rest-preserved
loop-rest-preserved c =
    pass_on c.loop-rest.invariant (sym c.part_at.ensures ∙ c.loop-rest-test.true)
    (sym c.as_declared.ensures ∙ c.if-not-as_declared.false) c.after_formula-rest.ensures

pub returns : goal.returns
returns c = pass_end c.loop-rest.invariant (sym c.part_at.ensures ∙ c.loop-rest-test.false)
