-- `words::numeral` meets its contract. The invariant: the digits up to j have the value.
use mathlib.Core.Path.{◌≡◌}
use lib.ListN.{length}
use Rattle.pass_tokens.proofs.DigitLaws.{Digiting}
use Rattle.pass_tokens.proofs.words.numeral.Given as goal

abbrev pub invariant-loop-j : goal.invariant-loop-j
invariant-loop-j l = record { digits : Digiting l.text l.from l.high l.value l.j; end : l.end ≡ length l.text }
