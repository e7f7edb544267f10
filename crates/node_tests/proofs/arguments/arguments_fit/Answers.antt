-- `arguments::arguments_fit` meets its contract.
use Rattle.node_tests.proofs.ArgumentLaws.{fits_end, fits_fails, fits_on}
use Rattle.node_tests.proofs.arguments.arguments_fit.Goals as goal

pub returns-then-here-sort : goal.returns-then-here-sort
returns-then-here-sort c =
    fits_fails c.loop-sort.invariant c.part_at-here.ensures c.in-Some.ensures.steps c.sort_at-s.ensures c.if-here-sort.true

pub loop-sort-preserved : goal.loop-sort-preserved
loop-sort-preserved c =
    fits_on c.loop-sort.invariant c.part_at-here.ensures c.in-Some.ensures.steps c.sort_at-s.ensures c.if-here-sort.false
    c.after_formula-rest.ensures

pub returns : goal.returns
returns c = fits_end c.loop-sort.invariant c.part_at.ensures c.in-None.ensures.steps.0
