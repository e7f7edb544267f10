-- `areas::zero_after` meets its contract: zeros in scratch and stack, then in the output from the given end on.
use Rattle.std.proofs.Common.{rules}
use Prim.Native.Nat.{ℕ, ◌-◌}
use mathlib.Core.List.{List, [], ◌++◌, append-nil}
use lib.ListN.{length, take, drop, replicate, length-drop}
use Rattle.std.proofs.lemmas.List.{drop_all}
use mathlib.Core.Path.{◌≡◌, refl, ◌∙◌}
use native.Mathlib.Omega.{arith}
use Rattle.sets.proofs.Cleared.{all_cleared}
use Rattle.expansion.specs.AreasAfter.{kept}
use Rattle.areas.proofs.zero_after.Goals as goal

-- zeros from place n on
tail_zeros : (out ys : List ℕ) (n : ℕ) → ys ≡ replicate (length out - n) 0
    → take n out ++ (ys ++ drop (length out - n) (drop n out)) ≡ take n out ++ replicate (length out - n) 0
tail_zeros out ys n e =
    let past : drop (length out - n) (drop n out) ≡ [] = drop_all (length out - n) (drop n out) (omega (arith, length-drop n out)) in
    rw (past, e, append-nil)

pub returns : goal.returns
unfolding kept
returns c = record {
  output =
      let n = c.args.end in
      let out = c.args.out.now in
      let zeros : c.fill-2.new.self ≡ replicate (length out - n) 0 = search rules in
      tail_zeros out c.fill-2.new.self n zeros;
  scratch = search rules;
  stack = c.clear.ensures ∙ all_cleared _;
}
