-- `items::starting` meets its contract.
use borrow.Author.Tests.{le-leb, lt-leb}
use Rattle.bundle.specs.Links.{starts_at}
use Rattle.bundle.proofs.items.starting.Goals as goal

pub returns-then-start-links : goal.returns-then-start-links
unfolding starts_at
returns-then-start-links c = rw (le-leb _ _ c.if-start-links.true)

pub returns-else-start-links : goal.returns-else-start-links
unfolding starts_at
returns-else-start-links c = rw (lt-leb _ _ c.if-start-links.false)
