-- `chains::mentions` meets its contract. The invariant: what the context mentions is mentioned from here up.
use Rattle.logic.proofs.Scopes.{empty_mentions}
use Rattle.show_rules.proofs.chains.mentions.Goals as goal

pub returns : goal.returns
returns c e m = empty_mentions _ _ (rw c.loop-c-test.false at (c.loop-c.invariant m))
