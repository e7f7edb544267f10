-- `pair_walk` meets its contract: a walk that ends within few pairs ends the same within more.
use native.Mathlib.Omega.{arith}
use Rattle.pair_walk.proofs.MorePairs.{same_few, more_same, different_few, more_different}
use Rattle.pair_walk.proofs.pair_walk.Goals as goal

pub overflow_add-result : goal.overflow_add-result
overflow_add-result c = omega (arith, same_few _ _ _ _ _ _ _ _ c.walk_within-walked.ensures c.in-Same.is)

pub overflow_add-result-in-Different : goal.overflow_add-result-in-Different
overflow_add-result-in-Different c = omega (arith, different_few _ _ _ _ _ _ _ _ c.walk_within-walked.ensures c.in-Different.is)

pub returns-in-Same : goal.returns-in-Same
returns-in-Same c = more_same _ _ _ _ _ _ _ _ c.walk_within-walked.ensures c.in-Same.is 4032

pub returns-in-Different : goal.returns-in-Different
returns-in-Different c = more_different _ _ _ _ _ _ _ _ c.walk_within-walked.ensures c.in-Different.is 4032
