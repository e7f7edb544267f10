-- Which jobs fail no check, and what the answer and the output are then.
--     long_exactly, bare_exactly, closed_exactly     4, 18 and 17 say of a job and of the areas what document 01 says
--     job_exactly             no check fails exactly with a well-formed closed job that fits, and long enough areas
--     written_where           a file is written exactly where the fault's number is 0
--     refused_job_where       the job is refused with number n, not 0, and record i exactly where that is the fault
--     job_answer, job_file, job_room     where no check fails: the answer is the file's length, the output up to that is the file, and has room for it
--     zeros_left              what is left in the areas
use Prim.Native.Nat.{ℕ, zero, suc, ◌+◌, ◌-◌, ◌≤◌}
use mathlib.Core.Path.{◌≡◌, refl, ap, ◌∙◌}
use mathlib.Core.Logic.{◌↔◌}
use mathlib.Core.Bool.{Bool, true, false, cond, not}
use mathlib.Core.List.{List, []}
use native.Mathlib.Omega.{arith}
use lib.ListN.{length, take, replicate}
use lib.Seq.{drop-append_seam}
use borrow.Author.Tests.{eqb-true, eq-eqb, leb-true, le-leb}
use Rattle.std.proofs.lemmas.List.{nil_from_length}
use Rattle.std.proofs.lemmas.Bool.Decides.{Decides-not}
use Rattle.bundle.specs.Bundle.{Bundle}
use Rattle.bundle.specs.Limits.{header_words, Within}
use Rattle.bundle.specs.File.{bundle_of, own_counts}
use Rattle.bundle.proofs.Limits.{within_all, within_true}
use Rattle.logic.specs.Tests.{Fault}
use Rattle.logic.specs.Lists.{All}
use Rattle.logic.specs.Tests.{fault}
use Rattle.logic.specs.Terms.{tree}
use Rattle.logic.specs.Free.{Free, Closed, free_at}
use Rattle.logic.specs.WellFormed.{TablesFormed}
use Rattle.logic.specs.Checks.{header_fault, sections_fault, tables_fault}
use Rattle.logic.proofs.Tests.{passed_each, all_passed, up_to_lem, up_to_all}
use Rattle.logic.proofs.Exactly.{number_exactly}
use Rattle.logic.proofs.Firsts.{next_both, both_next}
use Rattle.logic.proofs.FreeSettled.{free_at_exactly, free_number}
use Rattle.logic.proofs.Formed.{tables_exactly}
use Rattle.judgement.specs.Order.{Holds}
use Rattle.judgement.proofs.Order.{none_fails, all_hold}
use Rattle.logic.proofs.Headers.{header_exactly}
use Rattle.expansion.specs.declared.Names.{Names}
use Rattle.expansion.specs.Answer.{Written, Refused}
use Rattle.expansion.specs.Visit.{visited, expanded}
use Rattle.expansion.specs.File.{file_of}
use Rattle.expansion.specs.Expansion.{long_enough, is_bare, rule_closed, job_fault, Outcome, outcome_of, expansion}
use Rattle.expansion.specs.JobOrder.{last_checks}
use Rattle.expansion.specs.Demands.{JobFormed, Fits, LongEnough, ZerosLeft}
use Rattle.expansion.proofs.Files.{file_length, file_cut}
use Rattle.expansion.proofs.JobOrder.{last_fault, last_find}

-- ---- 4

-- three tests count for 3 only where all hold
three_of : (p q s : Bool) → 3 ≤ cond p 1 0 + cond q 1 0 + cond s 1 0 → (p ≡ true) × (q ≡ true) × (s ≡ true)
three_of true true true h = (refl, refl, refl)
three_of true true false h = absurd (omega arith)
three_of true false true h = absurd (omega arith)
three_of true false false h = absurd (omega arith)
three_of false true true h = absurd (omega arith)
three_of false true false h = absurd (omega arith)
three_of false false true h = absurd (omega arith)
three_of false false false h = absurd (omega arith)

pub long_exactly : (out words sets : ℕ) → (3 ≤ long_enough out words sets) ↔ LongEnough out words sets
unfolding long_enough
long_exactly out words sets = (there, back)
  where
    there : 3 ≤ long_enough out words sets → LongEnough out words sets
    there l =
        let t = three_of _ _ _ l in
        record { output = leb-true _ _ t.0; scratch = leb-true _ _ t.1; stack = leb-true _ _ t.2 }

    back : LongEnough out words sets → 3 ≤ long_enough out words sets
    back h = rw (le-leb _ _ h.output, le-leb _ _ h.scratch, le-leb _ _ h.stack) (omega arith)

-- ---- 18 and 17

module _ (b : Bundle) where
  pub bare_exactly : (is_bare b ≡ true) ↔ ((b.contexts ≡ []) × (b.steps ≡ []) × (b.right ≡ 0))
  bare_exactly = (
    λ e.
        let t = passed_each _ e in (
          nil_from_length b.contexts (eqb-true (length b.contexts) 0 t.0),
          nil_from_length b.steps (eqb-true (length b.steps) 0 t.1.0),
          eqb-true b.right 0 t.1.1.0,
        ),
    λ h.
        all_passed _ (
          eq-eqb (length b.contexts) 0 (ap length h.0),
          (eq-eqb (length b.steps) 0 (ap length h.1), (eq-eqb b.right 0 h.2, tt)),
        ),
  )

  pub closed_exactly : TablesFormed b → (rule_closed b ≡ true) ↔ Closed (tree b b.left)
  closed_exactly formed = (
    λ e x h. let n = free_number b formed b.left x h in (here x).0 (up_to_lem (length b.variables) _ e x n.0 n.1) h,
    λ h. up_to_all (length b.variables) _ (λ x lo hi. (here x).1 (h x)),
  )
    where
      here : (x : ℕ) → (not (free_at b b.left x) ≡ true) ↔ (Free x (tree b b.left) → ⊥)
      here x = Decides-not (free_at b b.left x) (free_at_exactly b formed b.left x)

-- ---- all checks

module _ (names : Names) (f : List ℕ) (out words sets : ℕ) where
  b : Bundle
  b = bundle_of f

  m : ℕ
  m = long_enough out words sets

  pub job_exactly : ((job_fault names f out words sets).number ≡ 0) ↔ (JobFormed f × Closed (tree (bundle_of f) (bundle_of f).left) × Fits names f × LongEnough out words sets)
  unfolding job_fault tables_fault b m
  job_exactly = (there, back)
    where
      there : (job_fault names f out words sets).number ≡ 0 → JobFormed f × Closed (tree b b.left) × Fits names f × LongEnough out words sets
      there e =
          let halves = next_both (tables_fault f m 3) (last_fault names b) e in
          let tables = next_both (fault (header_fault f m 3) 0) (sections_fault b) halves.0 in
          let good = (header_exactly f m 3).0 tables.0 in
          let formed : TablesFormed b = (tables_exactly b).0 tables.1 in
          let last : All Holds (last_checks names b) = all_hold (last_checks names b) (last_find names b).numbers (rw (last_find names b).first halves.1) in
          let bare = (bare_exactly b).0 last.0 in (
            record {
              header = good.0;
              tables = formed;
              contexts = bare.0;
              steps = bare.1;
              right = bare.2;
              left = (number_exactly (length b.terms) b.left).0 last.1.0;
            },
            (closed_exactly b formed).0 last.1.1.0,
            within_all (own_counts (visited names b).bundle) last.1.1.1.0,
            (long_exactly out words sets).0 good.1,
          )

      back : JobFormed f × Closed (tree b b.left) × Fits names f × LongEnough out words sets → (job_fault names f out words sets).number ≡ 0
      back (formed, closed, fits, long) =
          let last : All Holds (last_checks names b) = (
            (bare_exactly b).1 (formed.contexts, formed.steps, formed.right),
            (
              (number_exactly (length b.terms) b.left).1 formed.left,
              ((closed_exactly b formed.tables).1 closed, (within_true (own_counts (visited names b).bundle) fits, tt)),
            ),
          ) in
          both_next (tables_fault f m 3) (last_fault names b)
          (both_next (fault (header_fault f m 3) 0) (sections_fault b) ((header_exactly f m 3).1 (formed.header, (long_exactly out words sets).1 long))
          ((tables_exactly b).1 formed.tables))
          (rw (← (last_find names b).first, none_fails (last_checks names b) last))

-- ---- the answer

-- written where the fault's number is 0, else refused with its number and record
written_as : (names : Names) (b : Bundle) (r : Fault) (k out words sets : ℕ) → ((n : ℕ) × ((outcome_of names b r k out words sets).answer ≡ Written n)) ↔ (k ≡ 0)
unfolding outcome_of
written_as names b r zero out words sets = (λ e. refl, λ e. (_, refl))
written_as names b r (suc k) out words sets = (λ (n, e). cc, λ e. absurd (omega arith))

refused_as : (names : Names) (b : Bundle) (r : Fault) (out words sets n i : ℕ)
    → ((outcome_of names b r r.number out words sets).answer ≡ Refused n i) ↔ ((1 ≤ n) × (r ≡ fault n i))
unfolding outcome_of
refused_as names b r out words sets n i = (there r.number refl, back)
  where
    there : (k : ℕ) → r.number ≡ k → (outcome_of names b r k out words sets).answer ≡ Refused n i → (1 ≤ n) × (r ≡ fault n i)
    there zero q e = (let z : ◌≡◌ {A = ℕ} 0 1 = cc in omega arith, cc)
    there (suc k) q e =
        let same : suc k ≡ n = cc in
        let at : r.«record» ≡ i = cc in
        (omega arith, λ j. record { number = (q ∙ same) j; «record» = at j })

    some : (k : ℕ) → 1 ≤ k → (outcome_of names b (fault k i) k out words sets).answer ≡ Refused k i
    some zero l = absurd (omega arith)
    some (suc k) l = refl

    back : (1 ≤ n) × (r ≡ fault n i) → (outcome_of names b r r.number out words sets).answer ≡ Refused n i
    back h = rw h.1 (some n h.0)

module _ (names : Names) (f : List ℕ) (out words sets : ℕ) where
  pub written_where : ((n : ℕ) × ((expansion names f out words sets).answer ≡ Written n)) ↔ ((job_fault names f out words sets).number ≡ 0)
  unfolding expansion
  written_where = written_as names (bundle_of f) (job_fault names f out words sets) (job_fault names f out words sets).number out words sets

  pub refused_job_where : (n i : ℕ) → ((expansion names f out words sets).answer ≡ Refused n i) ↔ ((1 ≤ n) × (job_fault names f out words sets ≡ fault n i))
  unfolding expansion
  refused_job_where n i = refused_as names (bundle_of f) (job_fault names f out words sets) out words sets n i

  -- where no check fails
  module _ (passes : (job_fault names f out words sets).number ≡ 0) where
    job_outcome : expansion names f out words sets ≡ outcome_of names (bundle_of f) (job_fault names f out words sets) 0 out words sets
    unfolding expansion
    job_outcome = ap (λ (k : ℕ). outcome_of names (bundle_of f) (job_fault names f out words sets) k out words sets) passes

    pub job_answer : (expansion names f out words sets).answer ≡ Written (length (file_of (expanded names (bundle_of f))))
    unfolding outcome_of
    job_answer = ap (λ (o : Outcome). o.answer) job_outcome

    pub job_file : take (length (file_of (expanded names (bundle_of f)))) (expansion names f out words sets).out ≡ file_of (expanded names (bundle_of f))
    unfolding outcome_of
    job_file =
        let n : ℕ = length (file_of (expanded names (bundle_of f))) in
        ap (λ (o : Outcome). take n o.out) job_outcome ∙ file_cut (expanded names (bundle_of f)) (replicate (out - n) 0)

    -- the file is no longer than the output
    pub job_room : length (file_of (expanded names (bundle_of f))) ≤ out
    unfolding expanded header_words
    job_room =
        let h = (job_exactly names f out words sets).0 passes in
        let fits : Within (own_counts (visited names (bundle_of f)).bundle) = h.2 in
        let long : LongEnough out words sets = h.3 in
        omega (arith, file_length (expanded names (bundle_of f)))

-- ---- what is left

zeros_as : (names : Names) (b : Bundle) (r : Fault) (k out words sets : ℕ) → (k ≡ 0 → length (file_of (expanded names b)) ≤ out)
    → ZerosLeft out words sets (outcome_of names b r k out words sets)
unfolding outcome_of
zeros_as names b r zero out words sets room = record {
  scratch = refl;
  stack = refl;
  refused = λ n i e. cc;
  written = λ n e.
      let same : length (file_of (expanded names b)) ≡ n = cc in
      rw (← same) (room refl, drop-append_seam (file_of (expanded names b)) (replicate (out - length (file_of (expanded names b))) 0));
}
zeros_as names b r (suc k) out words sets room = record {
  scratch = refl;
  stack = refl;
  refused = λ n i e. refl;
  written = λ n e. (let z : ◌≡◌ {A = ℕ} 0 1 = cc in omega arith, cc);
}

pub zeros_left : (names : Names) (f : List ℕ) (out words sets : ℕ) → ZerosLeft out words sets (expansion names f out words sets)
unfolding expansion
zeros_left names f out words sets =
    zeros_as names (bundle_of f) (job_fault names f out words sets) (job_fault names f out words sets).number out words sets (job_room names f out words sets)
