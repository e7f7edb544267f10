-- `is_settled` meets its contract: the set of the term and that of the context have nothing in common.
use native.Mathlib.Omega.{arith}
use Rattle.logic.proofs.Tests.{numbers_in}
use Rattle.free_variables.specs.TermSets.{settled_among}
use Rattle.free_variables.proofs.FreeWords.{numbers_past}
use Rattle.free_variables.proofs.parts.is_settled.Goals as goal

pub returns-then-t-eq0 : goal.returns-then-t-eq0
unfolding settled_among
returns-then-t-eq0 c = rw c.if-t-eq0.true

pub returns-then-t-terms : goal.returns-then-t-terms
unfolding settled_among
returns-then-t-terms c = rw (numbers_past c.args.terms c.args.t c.if-t-terms.true)

pub returns : goal.returns
unfolding settled_among
returns c = rw (numbers_in c.args.terms c.args.t (omega arith) c.if-t-terms.false) c.disjoint.ensures
