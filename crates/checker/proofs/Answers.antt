-- The answer and the lent area, from what the code finds wrong with a file.
--     answer_is     the answer is that of the definitions
--     area_zeros    something is wrong: the cleared area is what is to be left
--     area_free     nothing is: so is the area that holds the free sets
use Prim.Native.Nat.{ℕ}
use mathlib.Core.Path.{◌≡◌, sym, ap, ◌∙◌}
use mathlib.Core.Bool.{true, false, false≢true}
use mathlib.Core.List.{List}
use native.Mathlib.Omega.{arith}
use lib.ListN.{length}
use Rattle.std.specs.Prelude.{Result, Ok, Err, IfOk, is_err}
use Rattle.bundle.specs.Limits.{set_words}
use Rattle.bundle.specs.File.{bundle_of}
use Rattle.sets.specs.Sets.{cleared}
use Rattle.logic.specs.declared.checks.Failure.{Failure}
use Rattle.logic.specs.Failures.{check_number, fault_in}
use Rattle.logic.specs.Tests.{Fault, fault}
use Rattle.logic.specs.Free.{free_area}
use Rattle.judgement.specs.declared.Acceptance.{Acceptance}
use Rattle.judgement.specs.Answer.{Refused, answer_in}
use Rattle.judgement.specs.Judge.{acceptance, fault_of, judge, area_after}
use Rattle.judgement.proofs.Accepting.{accepted_where, refused_where}
use Rattle.judgement.proofs.Demands.{area_left}
use Rattle.sets.proofs.Cleared.{all_cleared}
use Rattle.logic.proofs.CheckNumbers.{number_some}

module _ (f : List ℕ) (m : ℕ) where
  refused_is : (k : Failure) → fault (check_number k.check) k.«record» ≡ fault_of f m → Refused (check_number k.check) k.«record» ≡ judge f m
  refused_is k found = sym ((refused_where f m (check_number k.check) k.«record»).1 (omega (arith, number_some k.check), sym found))

  none : fault 0 0 ≡ fault_of f m → (fault_of f m).number ≡ 0
  none found = ap (λ (x : Fault). x.number) (sym found)

  -- r is what the code finds in f, where m words are lent
  pub answer_is : (r : Result Acceptance Failure) → fault_in r ≡ fault_of f m → IfOk r (λ a. a ≡ acceptance (bundle_of f)) → answer_in r ≡ judge f m
  answer_is (Ok a) found said = sym ((accepted_where f m a).1 (none found, said))
  answer_is (Err k) found said = refused_is k found

  -- x is what stood in the area, y what does once it is cleared
  pub area_zeros : (r : Result Acceptance Failure) → fault_in r ≡ fault_of f m → is_err r ≡ true
      → (x y : List ℕ) → length x ≡ m → y ≡ cleared x 0 (length x) → y ≡ area_after f m
  area_zeros (Ok a) found e x y long clear = absurd (false≢true e)
  area_zeros (Err k) found e x y long clear = clear ∙ all_cleared x ∙ rw long (sym ((area_left f m).refused _ _ (sym (refused_is k found))))

  pub area_free : (r : Result Acceptance Failure) → fault_in r ≡ fault_of f m → is_err r ≡ false
      → (x : List ℕ) → IfOk r (λ _. x ≡ free_area (bundle_of f) set_words m) → x ≡ area_after f m
  unfolding area_after
  area_free (Ok a) found e x sets = rw (none found) sets
  area_free (Err k) found e x sets = absurd (false≢true (sym e))
