-- A check has a number: 0 says that none fails.
--     number_some    the number of a check is not 0
use mathlib.Core.Path.{◌≡◌}
use native.Mathlib.Omega.{arith}
use Rattle.logic.specs.declared.checks.Check.{Check}
use Rattle.logic.specs.Failures.{check_number}

pub number_some : (k : Check) → check_number k ≡ 0 → ⊥
number_some Check.Length e = absurd (omega (arith, e))
number_some Check.Version e = absurd (omega (arith, e))
number_some Check.Limits e = absurd (omega (arith, e))
number_some Check.Area e = absurd (omega (arith, e))
number_some Check.Next e = absurd (omega (arith, e))
number_some Check.Declared e = absurd (omega (arith, e))
number_some Check.Refers e = absurd (omega (arith, e))
number_some Check.Sorted e = absurd (omega (arith, e))
number_some Check.New e = absurd (omega (arith, e))
number_some Check.Context e = absurd (omega (arith, e))
number_some Check.Settled e = absurd (omega (arith, e))
number_some Check.Step e = absurd (omega (arith, e))
number_some Check.Matches e = absurd (omega (arith, e))
number_some Check.Side e = absurd (omega (arith, e))
number_some Check.Claim e = absurd (omega (arith, e))
number_some Check.Room e = absurd (omega (arith, e))
number_some Check.Closed e = absurd (omega (arith, e))
number_some Check.Job e = absurd (omega (arith, e))
number_some Check.Text e = absurd (omega (arith, e))
number_some Check.Name e = absurd (omega (arith, e))
number_some Check.Pairs e = absurd (omega (arith, e))
number_some Check.Scope e = absurd (omega (arith, e))
