-- What the walk of CONG and LET takes beside the premises, where the rest of the rule's tests pass.
use Rattle.std.specs.Prelude.{ℕ, ◌≡◌, true, false}
use Rattle.bundle.specs.Bundle.{Bundle, Step, term_of, context_of}
use Rattle.logic.specs.Tests.{passed}
use Rattle.logic.specs.Rules.{head_tests, body_step_by, body_tests}
use Rattle.rules.specs.declared.Lists.{Lists}

pub record CongLists (b : Bundle) (s : Step) (r : Lists) : Type 0 where
  pub good : passed (head_tests b s) ≡ true
  pub body : r.body ≡ false
  pub context : r.context ≡ s.context
  pub lefts : r.lefts ≡ (term_of b s.left).b
  pub rights : r.rights ≡ (term_of b s.right).b

pub record LetLists (step : ℕ → Step) (b : Bundle) (s : Step) (r : Lists) : Type 0 where
  pub good : passed (body_tests step b s) ≡ true
  pub body : r.body ≡ true
  pub context : r.context ≡ s.context
  pub lefts : r.lefts ≡ (term_of b s.left).b
  pub rights : r.rights ≡ (context_of b (body_step_by step b s).context).b
