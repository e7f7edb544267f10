-- `place_let` meets its contract: by what the lookup found.
use mathlib.Core.Path.{refl}
use mathlib.Core.Bool.{true, false}
use Rattle.scratch.specs.Stack.{halves_of}
use Rattle.placing.proofs.OutcomeFacts.{outcome_done}
use Rattle.placing.proofs.Placings.{let_filed, list_word}
use Rattle.placing.proofs.place_let.Goals as goal

pub add_listed_term-requires : goal.add_listed_term-requires
add_listed_term-requires c =
    let a = c.args in
    let d = c.pairs_digest-d in
    let l = c.in_ok-variables.ensures in
    let vs = halves_of false a.pairs.now in (
      list_word a.filed.now vs l refl,
      c.requires,
      let_filed a.filed.now vs (halves_of true a.pairs.now) a.body d.result d.ensures (outcome_done l refl),
    )
