-- `lists::followed` meets its contract.
use Rattle.bundle.specs.Links.{follows}
use Rattle.bundle.proofs.items.followed.Goals as goal

pub returns-then-i-next : goal.returns-then-i-next
unfolding follows
returns-then-i-next c = rw c.if-i-next.true

pub returns-else-i-next : goal.returns-else-i-next
unfolding follows
returns-else-i-next c = rw c.if-i-next.false
