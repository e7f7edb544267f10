-- The invariant: the digest of all is the digest so far with as many items more as are left to take.
use mathlib.Core.Path.{◌≡◌}
use Rattle.bundle.specs.Links.{items}
use Rattle.duplicates.specs.Digests.{mix_items}
use Rattle.duplicates.proofs.mixed_items.Given as goal

abbrev pub invariant-loop-x : goal.invariant-loop-x
invariant-loop-x l = mix_items 8 l.fn.d (items l.bundle l.list) ≡ mix_items l.x-iterator.n l.sum l.x-iterator.iter
