-- The cycle of calls of a reading in one pass. The measure is three times the bytes that are left; a formula has the least there, a let two more.
-- Each answer cites a law of PassTurns; here its arguments are only fetched from `c`.
use lib.ListN.{length}
use Prim.Native.Nat.{◌+◌, ◌*◌}
use mathlib.Core.Path.{◌≡◌}
use Rattle.pass_formulas.proofs.PassTurns as P
use Rattle.pass_formulas.proofs.one_pass.Pass.+pass.Given as goal

abbrev pub decreases-applied : goal.decreases-applied
decreases-applied l = 3 * length l.self.now.text + 1

abbrev pub decreases-bound : goal.decreases-bound
decreases-bound l = 3 * length l.self.now.text + 1

abbrev pub decreases-bracketed : goal.decreases-bracketed
decreases-bracketed l = 3 * length l.self.now.text + 1

abbrev pub decreases-formula : goal.decreases-formula
decreases-formula l = 3 * length l.self.now.text

abbrev pub decreases-local : goal.decreases-local
decreases-local l = 3 * length l.self.now.text + 2

abbrev pub decreases-quantified : goal.decreases-quantified
decreases-quantified l = 3 * length l.self.now.text + 1

abbrev pub invariant-applied-loop-self : goal.invariant-applied-loop-self
invariant-applied-loop-self l =
    (l.self.bundle.now ≡ l.fn.self.bundle.now) × P.Applying l.fn.self.bundle.now l.fn.filed l.fn.self.stack l.fn.self.text l.height l.filed l.self.stack l.self.text

abbrev pub decreases-applied-loop-self : goal.decreases-applied-loop-self
decreases-applied-loop-self l = length l.self.text

abbrev pub invariant-local-loop-self : goal.invariant-local-loop-self
invariant-local-loop-self l =
    (l.self.bundle.now ≡ l.fn.self.bundle.now) × P.Letting l.fn.self.bundle.now l.fn.filed l.fn.self.stack l.fn.self.text l.height l.filed l.self.stack l.self.text

abbrev pub decreases-local-loop-self : goal.decreases-local-loop-self
decreases-local-loop-self l = length l.self.text
