-- `steps::steps_fault_in` meets its contract.
use native.Mathlib.Omega.{arith}
use Prim.Native.Nat.{◌+◌, ◌-◌}
use mathlib.Core.Path.{◌≡◌, refl, sym, ap, ◌∙◌}
use lib.ListN.{length}
use Rattle.bundle.specs.LinkNotes.{AllTo}
use Rattle.bundle.proofs.LinkNotes.{noted_none, lower_up}
use Rattle.logic.specs.Rules.{steps_fault, last_pairs}
use Rattle.logic.proofs.Firsts.{rest_start, rest_on, rest_here, rest_end}
use Rattle.free_variables.specs.TermSets.{Words}
use Rattle.images.proofs.ReadingRight.{fault_right, pairs_right}
use Rattle.steps.proofs.Verdicts.{last_later}
use Rattle.logic.proofs.CheckNumbers.{number_some}
use Rattle.steps.proofs.steps.steps_fault_in.Goals as goal

pub loop-k-init : goal.loop-k-init
unfolding steps_fault last_pairs
loop-k-init c =
    let p = c.requires in
    let b = c.args.known.now.sets.bundle in record {
      some = omega arith;
      rest = rw (c.steps-steps.ensures.0, c.bundle.ensures) (rest_start _ _);
      noted = noted_none (AllTo b 0) (length b.links) _ p.2 p.1;
      told = refl;
    }

pub step_fault-requires : goal.step_fault-requires
step_fault-requires c =
    let l = c.loop-k in
    let count : c.steps-steps.result ≡ length c.args.known.now.sets.bundle.steps = rw c.bundle.ensures at c.steps-steps.ensures.0 in
    rw c.of-judging.ensures (l.invariant.noted, l.invariant.some, omega (arith, count))

pub returns-in-Err : goal.returns-in-Err
returns-in-Err c =
    let k = c.args.known.now in
    let l = c.loop-k in
    let words : Words k.sets.words = rw (c.words-words.ensures.0, c.sets.ensures.0) at c.words-words.ensures.2 in
    let s = rw c.of-judging.ensures at c.in-Err.ensures in
    let right = s.fact.number ∙ fault_right k c.requires.0 words _ (omega arith) l.k in
    record {
      fault = sym (l.invariant.rest ∙ rest_here _ _ _ right (omega arith) (number_some c.in-Err.check));
      pairs = tt;
    }

pub loop-k-preserved : goal.loop-k-preserved
loop-k-preserved c =
    let k = c.args.known.now in
    let l = c.loop-k in
    let s = rw c.of-judging.ensures at c.in-Ok.ensures in
    let words : Words k.sets.words = rw (c.words-words.ensures.0, c.sets.ensures.0) at c.words-words.ensures.2 in
    let right = s.fact.number ∙ fault_right k c.requires.0 words _ (omega arith) l.k in
    let walk = s.fact.pairs ∙ pairs_right k c.requires.0 words _ (omega arith) l.k in record {
      some = omega arith;
      rest = l.invariant.rest ∙ rest_on _ _ _ right (omega arith) refl;
      noted = lower_up k.sets.bundle (l.k - 1) (l.k + 1 - 1) _ (omega arith) s.lower_noted;
      told = last_later k.sets.bundle l.k l.pairs c.in-Ok.walked _ l.invariant.some l.invariant.told walk c.later_pairs-pairs.ensures;
    }

pub returns : goal.returns
returns c =
    let b = c.args.known.now.sets.bundle in
    let l = c.loop-k in
    let count : c.steps-steps.result ≡ length b.steps = rw c.bundle.ensures at c.steps-steps.ensures.0 in
    record {
      fault = sym (l.invariant.rest ∙ rest_end _ _ _ (omega arith));
      pairs = l.invariant.told ∙ ap (last_pairs b) (omega (arith, count));
    }
