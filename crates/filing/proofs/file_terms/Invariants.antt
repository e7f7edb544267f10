-- The invariant: the terms below t are filed.
use Rattle.std.proofs.Common.{◌-◌}
use Rattle.filing.specs.Filing.{FiledTo}
use Rattle.filing.proofs.file_terms.Given as goal

abbrev pub invariant-loop-t : goal.invariant-loop-t
invariant-loop-t l = FiledTo l.scratch l.index (l.t - 1)
