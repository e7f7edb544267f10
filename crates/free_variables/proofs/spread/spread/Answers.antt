-- `spread` meets its contract. The invariant: the sets from t on are moved, the words below them are as they were.
use native.Mathlib.Omega.{arith}
use native.Mathlib.Nat.{mul-le-mul_right}
use native.Mathlib.Decide.{ℕ_discrete}
use Prim.Native.Nat.{ℕ, ◌+◌, ◌*◌, ◌-◌, ◌≤◌, ◌<◌}
use mathlib.Core.Path.{◌≡◌, ◌∙◌}
use mathlib.Core.List.{List}
use Rattle.bundle.specs.Limits.{set_words}
use Rattle.free_variables.specs.Spread.{Moved, SpreadOne}
use Rattle.free_variables.proofs.spread.spread.Invariants.{Partly}
use Rattle.free_variables.proofs.spread.spread.Goals as goal

-- one set more
module _ (w v u : List ℕ) (n terms t : ℕ) (words-fit : n ≤ set_words) (so : Partly w v n terms t) (some : 0 < t) (one : SpreadOne v u n set_words (t - 1)) where
  partly_on : Partly w u n terms (t - 1)
  partly_on = record {
    few = omega (arith, so.few);
    long = one.long ∙ so.long;
    moved = λ q up low. go q up low (ℕ_discrete q (t - 1));
    lower = λ j h. one.lower j h ∙ so.lower j (omega arith);
    rest = λ j h. one.upper j (omega (arith, so.few)) ∙ so.rest j h;
  }
    where
      go : (q : ℕ) → t - 1 ≤ q → q < terms → Dec (q ≡ t - 1) → Moved w u n set_words q
      go q up low (yes e) = rw e (record {
        words = λ k l. one.moved.words k l ∙ so.lower (n * (t - 1) + k) (omega (arith, mul-le-mul_right (t - 1) words-fit));
        zeros = one.moved.zeros;
      })
      go q up low (no e) =
          let m = so.moved q (omega arith) low in
          record {
            words = λ k l. one.upper (set_words * q + k) (omega arith) ∙ m.words k l;
            zeros = λ k past l. one.upper (set_words * q + k) (omega arith) ∙ m.zeros k past l;
          }

pub loop-t-preserved : goal.loop-t-preserved
loop-t-preserved c =
    let a = c.args in
    let p = c.requires in
    let l = c.loop-t in
    let r = c.spread_set in
    partly_on a.area.now l.area r.new.area a.n a.terms l.t p.0 l.invariant c.loop-t-test.true r.ensures
