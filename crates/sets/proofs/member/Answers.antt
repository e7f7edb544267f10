-- `sets::member` meets its contract.
use Rattle.sets.specs.Sets.{member}
use Rattle.sets.proofs.Members.{holds_zero, holds_high, holds_word}
use Rattle.sets.proofs.member.Goals as goal

pub returns-then-v-eq0 : goal.returns-then-v-eq0
unfolding member
returns-then-v-eq0 c = rw (holds_zero c.args.n c.args.v c.if-v-eq0.true)

pub returns-then-k-n : goal.returns-then-k-n
unfolding member
returns-then-k-n c = rw (holds_high c.args.n c.args.v c.if-k-n.true)

pub returns : goal.returns
unfolding member
returns c =
    rw (holds_word c.args.n c.args.v
    c.if-v-eq0.false c.if-k-n.false) c.bit_at.ensures
