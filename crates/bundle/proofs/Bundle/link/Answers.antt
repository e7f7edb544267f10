-- `Bundle::link` meets its contract, by that of `link_in`.
use Prim.Native.Nat.{ℕ, ◌+◌, ◌*◌, ◌-◌, ◌<◌}
use native.Mathlib.Omega.{arith}
use mathlib.Core.Path.{◌≡◌, ◌∙◌}
use lib.ListN.{length}
use Rattle.bundle.specs.Bundle.{link_of, link_field}
use Rattle.bundle.specs.File.{bundle_at}
use Rattle.bundle.specs.Limits.{links_at}
use Rattle.bundle.specs.Words.{word_at}
use Rattle.bundle.proofs.Fields.{links_length}
use Rattle.bundle.proofs.Parts.{from_length, link_from}
use Rattle.bundle.proofs.Bundle.link.Goals as goal

pub link_in-requires : goal.link_in-requires
link_in-requires c =
    let b = c.self.inside in
    let w = c.self.invariant in
    let few : length c.args.self.now.links ≡ b.counts.links = rw (← c.self.view_is) (links_length b.file.now b.counts) in
    (omega (arith, c.requires.0), rw w.links (omega (arith, few, c.requires.1, w.whole.exact, from_length b.file.now (links_at b.counts))))

pub returns : goal.returns
returns c =
    let b = c.self.inside in
    let w = c.self.invariant in
    let few : length c.args.self.now.links ≡ b.counts.links = rw (← c.self.view_is) (links_length b.file.now b.counts) in
    let word : (k x : ℕ) → x ≡ word_at b.links.now (2 * (c.args.i - 1) + k) → k < 2 → x ≡ link_field (link_of (bundle_at b.file.now b.counts) c.args.i) k =
    λ k x e l. (rw w.links at e) ∙ link_from b.file.now b.counts c.args.i k c.requires.0 (omega (arith, few, c.requires.1)) l (omega (arith, w.whole.exact)) in
    rw (← c.self.view_is) (word 0 _ c.link_in.ensures.0 (omega arith), word 1 _ c.link_in.ensures.1 (omega arith))
