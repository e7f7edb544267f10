-- `names::number_within` meets its contract. The invariant: the digits so far are read as n, which is not too high.
use Prim.Native.Nat.{◌+◌}
use Rattle.lexing.proofs.NumeralLaws.{Counting}
use Rattle.lexing.proofs.names.number_within.Given as goal

abbrev pub invariant-loop-digit : goal.invariant-loop-digit
invariant-loop-digit l = Counting l.letter l.low l.high l.run l.n (l.digit-index + 1)
