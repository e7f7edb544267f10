-- Verdicts of steps.
--     walk_judged               what a walk says of a REFL that neither form takes
--     form_judged               a REFL that a form takes
--     other_judged              of another rule: no pairs
--     images_here               the images read in a context
--     leaves_at_most            a walk leaves no more pairs than there were
--     scope_read, stray_judged, in_scope_judged   with check 22
--     after_refers, after_rule  and with check 12
--     on_ok                     what holds at any rate holds where nothing is wrong
--     last_later                the pairs of the last REFL walked, step by step
use Rattle.std.specs.Prelude.{Result, Ok, Err, IfOk}
use mathlib.Core.Path.{◌≡◌, refl, sym, ap, ◌∙◌}
use mathlib.Core.Bool.{Bool, true, false, cond, not, ◌&&◌}
use Prim.Native.Nat.{ℕ, suc, ◌+◌, ◌-◌, ◌≤◌}
use mathlib.Core.List.{List, []}
use native.Mathlib.Omega.{arith}
use native.Mathlib.Decide.{dec_le}
use lib.ListN.{length}
use lib.Dec.{eqb, leb}
use borrow.Author.Tests.{eqb-true, eqb-false, ne_eqb, le-leb, lt-leb}
use Rattle.bundle.specs.Bundle.{Bundle, Step}
use Rattle.bundle.specs.Links.{items}
use Rattle.bundle.specs.Lists.{numbers, each}
use Rattle.logic.specs.declared.Image.{Image}
use Rattle.logic.specs.declared.checks.Check.{Check}
use Rattle.logic.specs.declared.Limited.{Limited}
use Rattle.logic.specs.declared.Mention.TheVariants.{Absent}
use Rattle.logic.specs.Contexts.{as_image}
use Rattle.logic.specs.Tests.{passed, first_failing}
use Rattle.logic.specs.Failures.{number_in}
use Rattle.logic.specs.Readings.{Reading}
use Rattle.logic.specs.ReflWalk.{PairWalk, refl_walk_by, within_by, pair_limit, limit}
use Rattle.logic.specs.Rules.{rule_of, refl_holds_by, refl_matches_by, refl_suffices_by, scoped_by, matches_by, sides_by, refers_where}
use Rattle.logic.specs.Rules.{walked_by, pairs_by, walked_pairs, last_pairs}
use Rattle.logic.proofs.ReflWalk.{limit_fits, limit_over, pair_walk_limited}
use Rattle.logic.proofs.Pairs.{last_more, last_same}
use Rattle.free_variables.specs.TermSets.{in_scope_in, mentioned_at}
use Rattle.images.specs.ContextRows.{mention_at, image_at}
use Rattle.images.specs.LentReading.{Known, images_in, all_in_scope_in, reading_in}
use Rattle.steps.specs.Verdicts.{LeavesAtMost, walk_verdict, Judged, JudgedScoped, JudgedAfter, later}
use Rattle.steps.proofs.RuleOf.{fault_refers, fault_rule, no_pairs, refl_tests}

-- ---- what a walk says

module _ (w : PairWalk) where
  limit_leaves : LeavesAtMost pair_limit (limit pair_limit w)
  limit_leaves = go (dec_le w.pairs pair_limit) w.same refl
    where
      go : Dec (w.pairs ≤ pair_limit) → (p : Bool) → w.same ≡ p → LeavesAtMost pair_limit (limit pair_limit w)
      go (yes h) true e = rw (limit_fits pair_limit w h, e) (omega arith)
      go (yes h) false e = rw (limit_fits pair_limit w h, e) tt
      go (no h) p e = rw (limit_over pair_limit w (omega arith)) tt

  -- its number, by 21 and 13, and its pairs
  limit_number : number_in (walk_verdict (limit pair_limit w)) ≡ cond (leb w.pairs pair_limit) (cond w.same 0 13) 21
  unfolding walk_verdict
  limit_number = go (dec_le w.pairs pair_limit) w.same refl
    where
      go : Dec (w.pairs ≤ pair_limit) → (p : Bool) → w.same ≡ p
          → number_in (walk_verdict (limit pair_limit w)) ≡ cond (leb w.pairs pair_limit) (cond w.same 0 13) 21
      go (yes h) true e = rw (limit_fits pair_limit w h, le-leb w.pairs pair_limit h, e)
      go (yes h) false e = rw (limit_fits pair_limit w h, le-leb w.pairs pair_limit h, e)
      go (no h) p e = rw (limit_over pair_limit w (omega arith), lt-leb w.pairs pair_limit (omega arith))

  limit_pairs : IfOk (walk_verdict (limit pair_limit w)) (λ n. n ≡ w.pairs)
  unfolding walk_verdict
  limit_pairs = go (dec_le w.pairs pair_limit) w.same refl
    where
      go : Dec (w.pairs ≤ pair_limit) → (p : Bool) → w.same ≡ p → IfOk (walk_verdict (limit pair_limit w)) (λ n. n ≡ w.pairs)
      go (yes h) true e = rw (limit_fits pair_limit w h, e) (omega arith)
      go (yes h) false e = rw (limit_fits pair_limit w h, e) tt
      go (no h) p e = rw (limit_over pair_limit w (omega arith)) tt

pub leaves_at_most : (free : ℕ → ℕ → Bool) (image : ℕ → Image) (b : Bundle) (l r : ℕ) (a : Limited) → a ≡ within_by free image b l [] r pair_limit
    → LeavesAtMost pair_limit a
leaves_at_most free image b l r a e = rw (e, pair_walk_limited free image b l [] r pair_limit) (limit_leaves _)

-- the images that are read in a context are those of its row
pub images_here : (b : Bundle) (images : List ℕ) (k : ℕ) → k ≤ length b.contexts → image_at (length b.variables) images k ≡ images_in b images k
images_here b images k h = sym (λ i x. as_image (cond (le-leb k (length b.contexts) h i) (mention_at (length b.variables) images k x) Absent))

-- ---- a REFL

module _ (g : Reading) (b : Bundle) (s : Step) (is : s.rule ≡ 1) where
  pub form_judged : refl_holds_by g.settled g.image b s ≡ true → Judged g b s (Ok 0)
  unfolding first_failing refl_suffices_by refl_matches_by pairs_by walked_by
  form_judged h = record {
    number = sym (refl_tests g b s is ∙ rw h);
    pairs = rw (is, h);
  }

  pub walk_judged : (a : Limited) (image : ℕ → Image) → image ≡ g.image s.context
      → a ≡ within_by g.free image b s.left [] s.right pair_limit → refl_holds_by g.settled g.image b s ≡ false → (r : Result ℕ Check)
      → r ≡ walk_verdict a → Judged g b s r
  unfolding first_failing refl_suffices_by refl_matches_by pairs_by walked_by
  walk_judged a image same e h r r-is =
      let w : PairWalk = refl_walk_by g.free g.image b s in
      let a-is : a ≡ limit pair_limit w =
      e ∙ ap (λ (f : ℕ → Image). within_by g.free f b s.left [] s.right pair_limit) same
      ∙ pair_walk_limited g.free (g.image s.context) b s.left [] s.right pair_limit in
      let is-walk : r ≡ walk_verdict (limit pair_limit w) = r-is ∙ ap walk_verdict a-is in
      let told : pairs_by g b s ≡ w.pairs = rw (is, h) in
      record {
        number = ap number_in is-walk ∙ limit_number w ∙ sym (refl_tests g b s is ∙ rw h);
        pairs = rw (is-walk, told) (limit_pairs w);
      }

-- ---- another rule

pub other_judged : (g : Reading) (b : Bundle) (s : Step) (r : Result ℕ Check) → (s.rule ≡ 1 → ⊥)
    → number_in r ≡ cond (matches_by g b (rule_of s.rule) s) (cond (sides_by g b (rule_of s.rule) s) 0 14) 13
    → IfOk r (λ n. n ≡ 0) → Judged g b s r
unfolding first_failing pairs_by walked_by
other_judged g b s r not n none =
    let told : pairs_by g b s ≡ 0 = rw (ne_eqb s.rule 1 not) in
    record {
      number = n ∙ sym (rw (no_pairs g b s s.rule not));
      pairs = rw told none;
    }

-- ---- with check 22

-- what the code asks of the sides is what the reading asks
pub scope_read : (k : Known) (bed : List ℕ) (s : Step) → s.context ≤ length k.sets.bundle.contexts
    → (in_scope_in k.sets k.scopes (mentioned_at k.sets.n s.context) s.left && in_scope_in k.sets k.scopes (mentioned_at k.sets.n s.context) s.right)
    ≡ scoped_by (reading_in k bed).in_scope s
unfolding scoped_by reading_in all_in_scope_in
scope_read k bed s h = rw (le-leb s.context (length k.sets.bundle.contexts) h)

module _ (g : Reading) (b : Bundle) (s : Step) {p : Bool} (scope : p ≡ scoped_by g.in_scope s) where
  pub stray_judged : p ≡ false → JudgedScoped g b s (Err Check.Scope)
  unfolding first_failing
  stray_judged h = record { number = rw (← scope, h); pairs = tt }

  pub in_scope_judged : (r : Result ℕ Check) → p ≡ true → Judged g b s r → JudgedScoped g b s r
  unfolding first_failing
  in_scope_judged r h j = record { number = j.number ∙ rw (← scope, h); pairs = j.pairs }

-- ---- and with check 12

module _ (g : Reading) (b : Bundle) (s : Step) (n : ℕ) (s' : Step) (same : s ≡ s') (p : Bool) (walked : p ≡ each (numbers n) (items b s.premises)) where
  pub after_refers : passed (refers_where p b s) ≡ false → JudgedAfter g b n s' (Err Check.Step)
  after_refers refers = record { number = fault_refers g b s n s' same p walked refers; pairs = tt }

  pub after_rule : (r : Result ℕ Check) → passed (refers_where p b s) ≡ true → JudgedScoped g b s r → JudgedAfter g b n s' r
  after_rule r refers j = record {
    number = fault_rule g b s n s' same p walked (number_in r) refers j.number;
    pairs = rw (← same) j.pairs;
  }

-- ---- all steps

pub on_ok : {P : Type 0} (r : Result ℕ Check) → P → IfOk r (λ _. P)
on_ok (Ok n) h = h
on_ok (Err k) h = tt

-- step by step, the pairs of the last REFL walked
pub last_later : (b : Bundle) (k p q r : ℕ) → 1 ≤ k → p ≡ last_pairs b (k - 1) → q ≡ walked_pairs b k → r ≡ later p q → r ≡ last_pairs b (k + 1 - 1)
unfolding later
last_later b k p q r some before walk is = go (eqb q 0) refl
  where
    n : suc (k - 1) ≡ k
    n = omega arith

    here : q ≡ walked_pairs b (suc (k - 1))
    here = walk ∙ ap (walked_pairs b) (sym n)

    up : last_pairs b (k + 1 - 1) ≡ last_pairs b (suc (k - 1))
    up = ap (last_pairs b) (omega arith)

    go : (z : Bool) → eqb q 0 ≡ z → r ≡ last_pairs b (k + 1 - 1)
    go true e = is ∙ rw e (before ∙ sym (up ∙ last_same b (k - 1) q here (eqb-true q 0 e)))
    go false e = is ∙ rw e (sym (up ∙ last_more b (k - 1) q here (eqb-false q 0 e)))
