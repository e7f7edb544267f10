-- What a call leaves before the zeros are written and after, whatever the call.
--     stored_refused, stored_written     the answer is a refusal; the file of a bundle was stored
--     file_room                          the file's bytes are within the output
--     left_zeroed                        what was stored, and zeros: the outcome
use Prim.Native.Nat.{ℕ, ◌-◌, ◌≤◌}
use native.Mathlib.Omega.{arith}
use mathlib.Core.Path.{◌≡◌, refl, sym, ap, ◌∙◌}
use mathlib.Core.List.{List, ◌++◌}
use lib.ListN.{length, take, replicate, take-append-drop}
use Rattle.expansion.specs.Answer.{Answer, Written, Refused}
use Rattle.bundle.specs.Bundle.{Bundle}
use Rattle.expansion.specs.File.{file_of}
use Rattle.expansion.specs.Expansion.{Outcome, writes}
use Rattle.expansion.specs.AreasAfter.{Left, Stored, kept, Zeroed}
use Rattle.expansion.specs.Demands.{ZerosLeft}
use Rattle.expansion.proofs.Files.{file_cut}

module _ {o : Outcome} {out words sets out' words' sets' : List ℕ} (lo : length out' ≡ length out) (lw : length words' ≡ length words)
    (ls : length sets' ≡ length sets) where
  pub stored_refused : {m i : ℕ} → Refused m i ≡ o.answer → Stored o out words sets out' words' sets' (Refused m i)
  stored_refused e = record {
    answer = e;
    output = lo;
    scratch = lw;
    stack = ls;
    file = λ n k. let z : ◌≡◌ {A = ℕ} 0 1 = cc in absurd (omega arith);
  }

  -- the file of B, n bytes long
  pub stored_written : (B : Bundle) (n : ℕ) → o ≡ writes B (length out) (length words) (length sets) → n ≡ length (file_of B) → n ≤ length out
      → take n out' ≡ file_of B → Stored o out words sets out' words' sets' (Written n)
  stored_written B n is size room file = record {
    answer = ap Written size ∙ sym (ap (λ (p : Outcome). p.answer) is);
    output = lo;
    scratch = lw;
    stack = ls;
    file = λ m k.
        let e : n ≡ m = cc in
        let start : take n o.out ≡ file_of B = rw (is, size) (file_cut B (replicate (length out - length (file_of B)) 0)) in
        rw (← e) (room, file ∙ sym start);
  }

module _ (o : Outcome) (out words sets out' words' sets' : List ℕ) where
  pub file_room : (r : Answer) → Stored o out words sets out' words' sets' r → kept r ≤ length out'
  unfolding kept
  file_room (Written n) s = omega (arith, (s.file n refl).0, s.output)
  file_room (Refused n i) s = omega arith

  output_is : (r : Answer) → ZerosLeft (length out) (length words) (length sets) o → Stored o out words sets out' words' sets' r
      → take (kept r) out' ++ replicate (length out' - kept r) 0 ≡ o.out
  unfolding kept
  output_is (Written n) z s =
      rw (s.output, (s.file n refl).1, ← (z.written n (sym s.answer)).1) (take-append-drop n o.out)
  output_is (Refused n i) z s =
      let l : length out' - 0 ≡ length out = omega (arith, s.output) in
      rw l (sym (z.refused n i (sym s.answer)))

  pub left_zeroed : (r : Answer) {out'' words'' sets'' : List ℕ} → ZerosLeft (length out) (length words) (length sets) o
      → Stored o out words sets out' words' sets' r → Zeroed r out' words' sets' out'' words'' sets'' → Left o r out'' words'' sets''
  left_zeroed r z s after = record {
    answer = s.answer;
    output = after.output ∙ output_is r z s;
    scratch = after.scratch ∙ rw s.scratch (sym z.scratch);
    stack = after.stack ∙ rw s.stack (sym z.stack);
  }
