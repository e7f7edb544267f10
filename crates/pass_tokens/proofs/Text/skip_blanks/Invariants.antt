-- `Text::skip_blanks` meets its contract. The invariant: white space and comments stand up to j.
use Prim.Native.Nat.{◌-◌}
use lib.ListN.{length}
use Rattle.pass_tokens.proofs.BlankLaws.{Skipping}
use Rattle.pass_tokens.proofs.Text.skip_blanks.Given as goal

abbrev pub invariant-loop-j : goal.invariant-loop-j
invariant-loop-j l = Skipping l.text l.self-inside.at l.j

abbrev pub decreases-loop-j : goal.decreases-loop-j
decreases-loop-j l = length l.text - l.j
