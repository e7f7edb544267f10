-- The verdict on a text: 0 read, 19 unread or 20 unknown with the byte; from any state of the parser that keeps no formula.
use Rattle.std.specs.Prelude.{ℕ, suc, ◌+◌, Bool, cond, not, ◌&&◌, List, [], ◌∷◌, length, eqb, ltb, Result, Ok, Err}
use Rattle.std.proofs.Math.Option.{Option, none, some}
use Rattle.logic.specs.Tests.{Fault, fault}
use Rattle.logic.specs.declared.checks.Check.{Check}
use Rattle.logic.specs.declared.checks.Failure.{Failure}
use Rattle.grammar.specs.Bytes.{class_of, word_of}
use Rattle.grammar.specs.Grammar.{between}
use Rattle.grammar.specs.Parser.{State, step, finish, stack_of}
use Rattle.grammar.specs.Names.{Name, ends_at, ended_by, first_unknown, Resolved, resolved, unread_at, unknown_at}
use Rattle.lexing.specs.Codes.{word_code}
use Rattle.lexing.specs.Counted.{place_of, known_among}
use Rattle.spots.specs.Spots.{due_at, cell}
use Rattle.spots.specs.Runs.{sort_start}

-- the names declared, where there are so many symbols and variables
unfoldable pub declared_by : ℕ → ℕ → Name → Bool
unfolding known_among
declared_by symbols variables x = known_among symbols variables x.place x.spelled

-- 19 and 20 together, as Req 01 has them (grammar, Names)
unfoldable pub verdict_of : Resolved → Fault
verdict_of (resolved φ) = fault 0 0
verdict_of (unread_at n) = fault 19 n
verdict_of (unknown_at n) = fault 20 n

-- ---- the same, byte by byte

unfoldable pub unknown_or : Option ℕ → Fault → Fault
unknown_or none v = v
unknown_or (some m) v = fault 20 m

unfoldable pub go_on : ℕ → Option (State (Unit {0})) → (State (Unit {0}) → Fault) → Fault
go_on n none f = fault 19 n
go_on n (some st) f = f st

unfoldable pub at_end : ℕ → Option (Unit {0}) → Fault
at_end n none = fault 19 n
at_end n (some u) = fault 0 0

unfoldable pub judge_from : (Name → Bool) → ℕ → List ℕ → State (Unit {0}) → Fault
unfolding unknown_or go_on at_end first_unknown ends_at ended_by step finish class_of
judge_from known n [] st = unknown_or (first_unknown known (ends_at n st.mode st.stack.due)) (at_end n (finish st))
judge_from known n (c ∷ cs) st =
    unknown_or (first_unknown known (ended_by (class_of c) n st.mode st.stack.due)) (go_on n (step st c) (judge_from known (suc n) cs))

-- between lexemes, at a spot and with these spots held
abbrev pub standing : ℕ → List ℕ → State (Unit {0})
standing s held = record { mode = between; stack = stack_of (due_at s held) }

-- ---- one word

-- what refuses it: 19 at a byte, or 20 at the first byte of a name
abbrev pub unread_text : ℕ → Failure
unread_text i = record { check = Check.Text; «record» = i }

abbrev pub unknown_name : ℕ → Failure
unknown_name i = record { check = Check.Name; «record» = i }

-- how many bytes of a run could still become a word that is due at a spot
unfoldable pub viable_bytes : ℕ → List ℕ → ℕ
unfolding sort_start
viable_bytes s w = cond (eqb (cell s 11) 0) 0 (cond (eqb (cell s 11) 1) (length w) (sort_start w))

abbrev pub code_of_run : List ℕ → ℕ
code_of_run w = word_code (word_of w)

-- the run is a name that is not known as the kind due at a spot
unfoldable pub is_unknown : (Name → Bool) → ℕ → List ℕ → Bool
is_unknown known s w = eqb (code_of_run w) 9 && not (known (record { place = place_of (cell s 12); spelled = w }))

-- a run at a spot, from a byte on: the spot after it, or 20 or 19 with the byte
unfoldable pub word_met : (Name → Bool) → ℕ → ℕ → List ℕ → Result ℕ Failure
unfolding is_unknown viable_bytes
word_met known s i w =
    cond (ltb (cell s (code_of_run w)) 20) (cond (is_unknown known s w) (Err (unknown_name i)) (Ok (cell s (code_of_run w))))
    (Err (unread_text (i + viable_bytes s w)))
