-- The invariant: the digest of all is the digest so far with what is left of the list.
use Rattle.std.proofs.Common.{◌≡◌}
use Rattle.bundle.specs.Links.{items}
use Rattle.filing.specs.Filing.{mix_all}
use Rattle.filing.proofs.digests.mixed_items.Given as goal

abbrev pub invariant-loop-x : goal.invariant-loop-x
invariant-loop-x l = mix_all l.fn.d (items l.scratch l.list) ≡ mix_all l.sum l.x-iterator
