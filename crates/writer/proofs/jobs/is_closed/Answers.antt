-- `jobs::is_closed` meets its contract.
use Rattle.std.proofs.Common.{rules, not, refl, ◌∙◌, arith}
use Rattle.std.proofs.lemmas.Iterator.{YieldsList-from_range}
use Rattle.std.proofs.lemmas.Iterator.Search.{all_from_yields_List}
use Rattle.free_variables.specs.TermSets.{free_in}
use Rattle.writer.proofs.JobTests.{all_up_to}
use Rattle.writer.proofs.jobs.is_closed.Goals as goal

pub returns : goal.returns
returns c =
    all_from_yields_List (λ x. not (free_in c.args.sets.now c.args.t x)) _ _ _ c.all.ensures.ran (YieldsList-from_range _ _ _ refl (omega (arith, rw c.bundle.ensures at c.variables.ensures.0))) (λ x b q k. search rules)
    ∙ all_up_to _ _
