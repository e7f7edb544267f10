-- `steps::walk_verdict` meets its contract, case by case.
use mathlib.Core.Path.{sym, ap}
use Rattle.steps.specs.Verdicts.{walk_verdict}
use Rattle.steps.proofs.steps.walk_verdict.Goals as goal

pub returns-in-Same : goal.returns-in-Same
unfolding walk_verdict
returns-in-Same c = sym (ap walk_verdict c.in-Same.is)

pub returns-in-Different : goal.returns-in-Different
unfolding walk_verdict
returns-in-Different c = sym (ap walk_verdict c.in-Different.is)

pub returns-in-Spent : goal.returns-in-Spent
unfolding walk_verdict
returns-in-Spent c = sym (ap walk_verdict c.in-Spent.is)
