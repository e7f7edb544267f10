-- `checks::is_declarations` meets its contract: the counts and words are those of the bundle.
use Rattle.reader.proofs.DeclarationTests.{bare_is}
use Rattle.reader.proofs.checks.is_declarations.Goals as goal

pub returns : goal.returns
returns c =
    rw (c.terms-terms.ensures.0, c.contexts-contexts.ensures.0, c.steps-steps.ensures.0, c.claim_left-left.ensures.0, c.claim_right-right.ensures.0)
    (bare_is c.args.bundle.now)
