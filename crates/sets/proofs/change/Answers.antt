-- `sets::change` meets its contract.
use mathlib.Core.Path.{refl}
use Rattle.sets.specs.Sets.{changed}
use Rattle.sets.proofs.Members.{holds_zero, holds_high, holds_word}
use Rattle.sets.proofs.change.Goals as goal

pub returns-then-v-eq0 : goal.returns-then-v-eq0
unfolding changed
returns-then-v-eq0 g c bit h = rw (holds_zero c.args.n c.args.v c.if-v-eq0.true) refl

pub returns-then-place-n : goal.returns-then-place-n
unfolding changed
returns-then-place-n g c bit h = rw (holds_high c.args.n c.args.v c.if-place-n.true) refl

pub returns : goal.returns
unfolding changed
returns g c bit h =
    rw (holds_word c.args.n c.args.v c.if-v-eq0.false c.if-place-n.false, h _ c.bit-word.result c.bit-word.ensures) refl
