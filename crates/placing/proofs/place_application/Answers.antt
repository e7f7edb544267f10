-- `place_application` meets its contract: by what the lookup found.
use mathlib.Core.Path.{◌≡◌, ap, ◌∙◌}
use mathlib.Core.Bool.{true}
use Prim.Native.Nat.{ℕ}
use native.Mathlib.Omega.{arith}
use Rattle.scratch.specs.Stack.{halves_of}
use Rattle.filing.specs.Filing.{mix_all, root_digest}
use Rattle.placing.proofs.Placings.{application_filed}
use Rattle.placing.proofs.place_application.Goals as goal

pub add_listed_term-requires : goal.add_listed_term-requires
add_listed_term-requires c =
    let a = c.args in
    let d = c.mixed_halves-d in
    let vs = halves_of true a.arguments.now in
    let own : d.result ≡ mix_all (root_digest 2 a.symbol) vs = d.ensures ∙ ap (λ (n : ℕ). mix_all n vs) (rw (← c.number.ensures) c.root_digest-root.ensures) in
    (c.requires, omega arith, application_filed a.filed.now a.symbol vs d.result own)
