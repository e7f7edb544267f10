-- `rules::step_walk` meets its contract: the walk, where the rest of the rule's tests pass.
use Rattle.images.specs.LentReading.{step_in}
use Rattle.bundle.specs.RecordWords.{as_step}
use Rattle.rules.proofs.WalkLists.{cong_bad, cong_good, let_bad, let_good}
use Rattle.rules.proofs.rules.step_walk.Goals as goal

pub returns-in-None-clause-value : goal.returns-in-None-clause-value
returns-in-None-clause-value c =
    λ cong. cong_bad (step_in c.args.taken.now.bundle c.args.taken.now.bed) c.args.taken.now.bundle (as_step c.args.s) (c.in-None.ensures.cong_lists cong)

pub returns-in-None-clause-passes_value : goal.returns-in-None-clause-passes_value
returns-in-None-clause-passes_value c =
    λ other. let_bad (step_in c.args.taken.now.bundle c.args.taken.now.bed) c.args.taken.now.bundle (as_step c.args.s) (c.in-None.ensures.let_lists other)

pub returns-in-Some-clause-value : goal.returns-in-Some-clause-value
returns-in-Some-clause-value c =
    λ cong. cong_good (step_in c.args.taken.now.bundle c.args.taken.now.bed) c.args.taken.now.bundle (as_step c.args.s) c.walk.result c.in-Some.lists
    (c.in-Some.ensures.cong_lists cong) c.walk.ensures

pub returns-in-Some-clause-passes_value : goal.returns-in-Some-clause-passes_value
returns-in-Some-clause-passes_value c =
    λ other. let_good (step_in c.args.taken.now.bundle c.args.taken.now.bed) c.args.taken.now.bundle (as_step c.args.s) c.walk.result c.in-Some.lists
    (c.in-Some.ensures.let_lists other) c.walk.ensures
