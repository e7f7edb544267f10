-- `both_in_scope` meets its contract: parts of the words, where the sets start.
use native.Mathlib.Omega.{arith}
use Prim.Native.Nat.{ℕ, ◌*◌, ◌-◌, ◌≤◌}
use mathlib.Core.Path.{ap₂, ◌∙◌}
use mathlib.Core.Bool.{◌&&◌}
use lib.ListN.{length}
use Rattle.free_variables.specs.TermSets.{mentioned_at}
use Rattle.free_variables.proofs.FreeWords.{set_within, scope_part}
use Rattle.free_variables.proofs.parts.both_in_scope.Goals as goal

pub returns : goal.returns
returns c =
    let a = c.args in
    let w = a.words.now in
    let p = c.requires in
    let m : ℕ = length a.scopes.now - mentioned_at a.n a.context in
    let l : ℕ = length w - a.n * (a.left - 1) in
    let r : ℕ = length w - a.n * (a.right - 1) in
    let first = set_within a.n a.terms a.left (length w) p.0 (λ z. omega (arith, p.2)) p.3 in
    let second = set_within a.n a.terms a.right (length w) p.0 (λ z. omega (arith, p.4)) p.5 in
    let room : a.n ≤ m = omega (arith, p.1) in
    let long-l : a.n ≤ l = omega (arith, first) in
    let long-r : a.n ≤ r = omega (arith, second) in
    c.both_subsets.ensures
    ∙ ap₂ ◌&&◌
    (scope_part a.terms w a.n a.scopes.now (mentioned_at a.n a.context) a.left (λ z. omega (arith, p.2)) p.3 l m long-l room)
    (scope_part a.terms w a.n a.scopes.now (mentioned_at a.n a.context) a.right (λ z. omega (arith, p.4)) p.5 r m long-r room)
