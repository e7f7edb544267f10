-- `place_plain` meets its contract: by what the lookup found.
use Rattle.bundle.specs.RecordWords.{as_term}
use Rattle.placing.proofs.Placings.{plain_is}
use Rattle.placing.proofs.place_plain.Goals as goal

pub returns-in-None : goal.returns-in-None
returns-in-None c n e = plain_is c.args.filed.now (as_term c.args.term) n e c.in-None.is c.add_term.ensures
