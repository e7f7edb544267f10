-- `sets::clear` meets its contract: the first word, then the rest.
use mathlib.Core.Path.{◌∙◌}
use Rattle.sets.specs.Sets.{filled}
use Rattle.sets.proofs.Members.{filled_front}
use Rattle.sets.proofs.clear.Goals as goal

pub returns-then-n-eq0 : goal.returns-then-n-eq0
unfolding filled
returns-then-n-eq0 c = rw c.if-n-eq0.true

pub returns : goal.returns
returns c =
    let a = c.args in
    c.clear_words.ensures ∙ filled_front (λ k. 0) a.area.now a.at a.n c.if-n-eq0.false
