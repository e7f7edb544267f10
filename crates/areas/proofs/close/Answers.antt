-- `areas::close` meets its contract: zeros from the end that the answer says, which is how many bytes are kept.
use Rattle.std.proofs.Common.{rules}
use Prim.Native.Nat.{ℕ}
use mathlib.Core.Path.{◌≡◌, refl, ◌∙◌}
use native.Mathlib.Omega.{arith}
use Rattle.std.specs.Prelude.{Result, Ok, Err, List}
use Rattle.std.specs.Result.{result_unwrap_or}
use Rattle.logic.specs.declared.checks.Failure.{Failure}
use Rattle.expansion.specs.Answer.{Written, answer_in}
use Rattle.expansion.specs.AreasAfter.{kept, Zeroed}
use Rattle.areas.proofs.close.Goals as goal

-- where the zeros begin
end_is : (a : Result ℕ Failure) {n : ℕ} → n ≡ result_unwrap_or a 0 → n ≡ kept (answer_in a)
unfolding kept
end_is (Ok n) e = e
end_is (Err f) e = e

-- zeros from one end on, by its other name
moved : {n m : ℕ} {out words sets out' words' sets' : List ℕ} → n ≡ m → Zeroed (Written n) out words sets out' words' sets'
    → Zeroed (Written m) out words sets out' words' sets'
moved e z = rw (← e) z

-- zeros after an end are those that the answer asks for
zeroed : (a : Result ℕ Failure) {n : ℕ} {out words sets out' words' sets' : List ℕ} → n ≡ result_unwrap_or a 0 → Zeroed (Written n) out words sets out' words' sets'
    → Zeroed (answer_in a) out words sets out' words' sets'
unfolding kept
zeroed (Ok n) e z = moved e z
zeroed (Err f) e z = let at_none = moved e z in record { output = at_none.output; scratch = at_none.scratch; stack = at_none.stack }

pub zero_after-requires : goal.zero_after-requires
zero_after-requires c = omega (arith, end_is c.args.answer c.unwrap_or-end.ensures, c.requires)

pub returns : goal.returns
returns c = (refl, zeroed c.args.answer c.unwrap_or-end.ensures c.zero_after.ensures)
