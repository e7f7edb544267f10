-- The invariant: the digest of all is the digest so far with the halves that are left.
use Rattle.std.proofs.Common.{◌≡◌, drop}
use Rattle.scratch.specs.Stack.{halves_of}
use Rattle.filing.specs.Filing.{mix_all}
use Rattle.filing.proofs.digests.mixed_halves.Given as goal

abbrev pub invariant-loop-pair : goal.invariant-loop-pair
invariant-loop-pair l = mix_all l.fn.d (halves_of l.upper l.pairs) ≡ mix_all l.sum (halves_of l.upper (drop l.pair-index l.pairs))
