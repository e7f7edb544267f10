-- The invariant: the first bad record of all is the first from this one on.
use mathlib.Core.Path.{◌≡◌}
use Rattle.logic.specs.Tests.{first_fault}
use Rattle.logic.proofs.Firsts.{rest_fault}
use Rattle.declarations.specs.Sections.{record_fault}
use Rattle.declarations.proofs.section_fault.Given as goal

abbrev pub invariant-loop-record : goal.invariant-loop-record
invariant-loop-record l = first_fault (record_fault l.bundle l.section) l.n ≡ rest_fault (record_fault l.bundle l.section) l.n l.«record»
