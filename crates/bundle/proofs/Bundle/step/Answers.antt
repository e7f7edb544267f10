-- `Bundle::step` meets its contract, by that of `step_in`.
use Prim.Native.Nat.{ℕ, ◌+◌, ◌*◌, ◌-◌, ◌<◌}
use native.Mathlib.Omega.{arith}
use mathlib.Core.Path.{◌≡◌, ◌∙◌}
use lib.ListN.{length}
use Rattle.bundle.specs.Bundle.{step_of, step_field}
use Rattle.bundle.specs.File.{bundle_at}
use Rattle.bundle.specs.Limits.{steps_at}
use Rattle.bundle.specs.Words.{word_at}
use Rattle.bundle.proofs.Fields.{steps_length}
use Rattle.bundle.proofs.Parts.{from_length, step_from}
use Rattle.bundle.proofs.RecordWords.{step_of_words}
use Rattle.bundle.proofs.Bundle.step.Goals as goal

pub step_in-requires : goal.step_in-requires
step_in-requires c =
    let b = c.self.inside in
    let w = c.self.invariant in
    let few : length c.args.self.now.steps ≡ b.counts.steps = rw (← c.self.view_is) (steps_length b.file.now b.counts) in
    (omega (arith, c.requires.0), rw w.steps (omega (arith, few, c.requires.1, w.whole.exact, from_length b.file.now (steps_at b.counts))))

pub returns : goal.returns
returns c =
    let b = c.self.inside in
    let w = c.self.invariant in
    let few : length c.args.self.now.steps ≡ b.counts.steps = rw (← c.self.view_is) (steps_length b.file.now b.counts) in
    let word : (k x : ℕ) → x ≡ word_at b.steps.now (5 * (c.args.i - 1) + k) → k < 5 → x ≡ step_field (step_of (bundle_at b.file.now b.counts) c.args.i) k =
    λ k x e l. (rw w.steps at e) ∙ step_from b.file.now b.counts c.args.i k c.requires.0 (omega (arith, few, c.requires.1)) l (omega (arith, w.whole.exact)) in
    rw (← c.self.view_is)
    (step_of_words _
    (word 0 _ c.step_in.ensures.0 (omega arith))
    (word 1 _ c.step_in.ensures.1 (omega arith))
    (word 2 _ c.step_in.ensures.2 (omega arith))
    (word 3 _ c.step_in.ensures.3 (omega arith))
    (word 4 _ c.step_in.ensures.4 (omega arith)))
