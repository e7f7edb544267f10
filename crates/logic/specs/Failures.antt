-- Which check fails, as the code says it: an `Err` of a check, by its number; and an `Ok` where none does.
use Rattle.std.specs.Prelude.{ℕ, Result, Ok, Err}
use Rattle.logic.specs.declared.checks.Check.{Check}
use Rattle.logic.specs.declared.checks.Failure.{Failure}
use Rattle.logic.specs.Tests.{Fault, fault}

-- the number of a check
abbrev pub check_number : Check → ℕ
check_number Check.Length = 1
check_number Check.Version = 2
check_number Check.Limits = 3
check_number Check.Area = 4
check_number Check.Next = 5
check_number Check.Declared = 6
check_number Check.Refers = 7
check_number Check.Sorted = 8
check_number Check.New = 9
check_number Check.Context = 10
check_number Check.Settled = 11
check_number Check.Step = 12
check_number Check.Matches = 13
check_number Check.Side = 14
check_number Check.Claim = 15
check_number Check.Room = 16
check_number Check.Closed = 17
check_number Check.Job = 18
check_number Check.Text = 19
check_number Check.Name = 20
check_number Check.Pairs = 21
check_number Check.Scope = 22

-- the number of the check that fails, 0 where none does
abbrev pub number_in : {A : Type 0} → Result A Check → ℕ
number_in (Ok x) = 0
number_in (Err c) = check_number c

-- the number and the record, 0 and 0 where none does
abbrev pub fault_in : {A : Type 0} → Result A Failure → Fault
fault_in (Ok x) = fault 0 0
fault_in (Err f) = fault (check_number f.check) f.«record»
