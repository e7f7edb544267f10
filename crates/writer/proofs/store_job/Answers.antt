-- `store_job` meets its contract: the checks in their order, the visit to the rule, and the file.
use mathlib.Core.Path.{◌≡◌, refl, sym, ap, ◌∙◌}
use mathlib.Core.List.{List}
use Prim.Native.Nat.{ℕ, ◌*◌, ◌≤◌}
use native.Mathlib.Omega.{arith}
use lib.ListN.{length}
use Rattle.std.specs.Prelude.{Some, None}
use Rattle.std.proofs.lemmas.Result.{err_from_is_err_and}
use Rattle.bundle.specs.declared.Counts.{Counts}
use Rattle.bundle.specs.Bundle.{Bundle}
use Rattle.bundle.specs.File.{bundle_of, counts_of, own_counts}
use Rattle.bundle.specs.Limits.{limits, set_words, bytes_of}
use Rattle.bundle.proofs.Fields.{own_counts_are, variables_length, terms_length}
use Rattle.logic.specs.Tests.{first_failing, fault}
use Rattle.logic.specs.WellFormed.{TablesFormed}
use Rattle.logic.specs.Checks.{tables_fault}
use Rattle.logic.specs.declared.checks.Check.{Check}
use Rattle.logic.specs.Failures.{check_number}
use Rattle.logic.proofs.Headers.{bundle_is}
use Rattle.expansion.specs.declared.Names.{Names}
use Rattle.expansion.specs.Names.{keeps}
use Rattle.expansion.specs.Visit.{claiming}
use Rattle.expansion.specs.File.{file_of}
use Rattle.expansion.specs.Expansion.{long_enough, early_tests}
use Rattle.expansion.specs.Demands.{LongEnough}
use Rattle.expansion.proofs.AreasAfter.{stored_refused}
use Rattle.names.specs.declared.Kept.{Kept}
use Rattle.names.specs.Marks.{kept_in}
use Rattle.names.proofs.KeptAs.{kept_as}
use Rattle.placing.proofs.OutcomeFacts.{visit_done, outcome_full}
use Rattle.logic.proofs.CheckNumbers.{number_some}
use Rattle.writer.proofs.Expanding.{header_formed, areas_long, tables_formed, refused_early, refused_late, refused_full, stored_expanded}
use Rattle.writer.proofs.Expanding.{Begun, visit_asks, visit_is, version_kept}
use Rattle.writer.proofs.store_job.Goals as goal

-- the job f; k says whether the areas are long enough, and the checks 1 to 9 find nothing: the job is opened as b
module _ (f : List ℕ) (out words sets : ℕ) {k : ℕ} (enough : k ≡ long_enough out words sets) (tested : fault 0 0 ≡ tables_fault f k 3)
    {b : Bundle} (opened : b ≡ bundle_of f) where
  none : (tables_fault f (long_enough out words sets) 3).number ≡ 0
  none = rw (← enough, ← tested)

  areas : LongEnough out words sets
  areas = areas_long f out words sets none

  -- a set for each term
  stack_room : set_words * length b.terms ≤ sets
  stack_room =
      let formed = header_formed f out words sets none in
      let terms : length b.terms ≡ (counts_of f).terms = ap (λ (b : Bundle). length b.terms) (opened ∙ sym (bundle_is f refl)) ∙ terms_length f (counts_of f) in
      omega (arith, terms, formed.whole.within.terms, areas.stack)

  version : (bundle_of f).version ≡ 1
  version =
      let formed = header_formed f out words sets none in
      ap (λ (b : Bundle). b.version) (sym (bundle_is f refl)) ∙ ap (λ (k : Counts). k.version) (own_counts_are f (counts_of f)) ∙ formed.version

  -- B is the bundle in the scratch
  formed : {B : Bundle} → B ≡ b → TablesFormed B
  formed copied = rw (copied, opened) (tables_formed f out words sets none)

  -- what is kept is what the choice says of the job: it has no more variables than the limit
  marked : (names : Names) (k : Kept) → ((x : ℕ) → x ≤ limits.variables → kept_in k x ≡ keeps names b x) → kept_in k ≡ keeps names (bundle_of f)
  marked names k same =
      let whole = header_formed f out words sets none in
      let variables : length (bundle_of f).variables ≡ (counts_of f).variables = ap (λ (b : Bundle). length b.variables) (sym (bundle_is f refl))
      ∙ variables_length f (counts_of f) in
      kept_as (bundle_of f) (tables_formed f out words sets none) names (omega (arith, variables, whole.whole.within.variables)) k (rw opened at same)

  -- what 18, 15, 17 find
  early_is : {n : ℕ} → n ≡ first_failing (early_tests b) → n ≡ first_failing (early_tests (bundle_of f))
  early_is late = late ∙ ap (λ (b : Bundle). first_failing (early_tests b)) opened

  -- nothing, and the rule's number is read
  begun : {B : Bundle} {left : ℕ} → 0 ≡ first_failing (early_tests b) → left ≡ b.left → B ≡ b → Begun f out words sets B left
  begun late read copied = record {
    none = none;
    early = sym (early_is late);
    copied = copied ∙ opened;
    read = read ∙ ap (λ (b : Bundle). b.left) opened;
  }

pub returns-in_err-bundle : goal.returns-in_err-bundle
returns-in_err-bundle c =
    let a = c.args in
    let p = err_from_is_err_and c.from_residual.result c.from_residual.ensures.1 in
    let k = c.in_err-bundle.field-0.0 in
    rw (p.1, p.2)
    (stored_refused refl refl refl
    (refused_early a.names a.job.now (length a.out.now) (length a.words.now) (length a.sets.now) (fault (check_number k.check) k.«record»)
    (c.in_err-bundle.ensures.fault ∙ rw c.long_enough-enough.ensures) (number_some k.check)))

pub job_fault-requires : goal.job_fault-requires
job_fault-requires c =
    let a = c.args in
    let t = c.in_ok-bundle.ensures in
    stack_room a.job.now (length a.out.now) (length a.words.now) (length a.sets.now) c.long_enough-enough.ensures t.fault t.bundle

pub returns-in_err-job_fault : goal.returns-in_err-job_fault
returns-in_err-job_fault c =
    let a = c.args in
    let r = c.from_residual-in_err-job_fault in
    let p = err_from_is_err_and r.result r.ensures.1 in
    let t = c.in_ok-bundle.ensures in
    rw (p.1, p.2)
    (stored_refused refl refl c.job_fault.auto.sets
    (refused_late a.names a.job.now (length a.out.now) (length a.words.now) (length a.sets.now)
    (none a.job.now (length a.out.now) (length a.words.now) (length a.sets.now) c.long_enough-enough.ensures t.fault t.bundle) _
    (early_is a.job.now (length a.out.now) (length a.words.now) (length a.sets.now) c.long_enough-enough.ensures t.fault t.bundle
    c.in_err-job_fault.ensures.1) (number_some c.in_err-job_fault.field-0.0)))

pub copy_job-requires : goal.copy_job-requires
copy_job-requires c =
    let a = c.args in
    let t = c.in_ok-bundle.ensures in
    (areas a.job.now (length a.out.now) (length a.words.now) (length a.sets.now) c.long_enough-enough.ensures t.fault t.bundle).scratch

pub of-filed-requires : goal.of-filed-requires
of-filed-requires c =
    let a = c.args in
    let t = c.in_ok-bundle.ensures in
    formed a.job.now (length a.out.now) (length a.words.now) (length a.sets.now) c.long_enough-enough.ensures t.fault t.bundle c.copy_job.ensures

pub visit_term-requires : goal.visit_term-requires
visit_term-requires c =
    let a = c.args in
    let t = c.in_ok-bundle.ensures in
    let b = begun a.job.now (length a.out.now) (length a.words.now) (length a.sets.now) c.long_enough-enough.ensures t.fault t.bundle
    c.in_ok-job_fault.ensures.1 c.claim_left-left.ensures.0 (c.of-filed.ensures ∙ c.copy_job.ensures) in
    visit_asks b c.job_fault.auto.sets

pub store_file-requires : goal.store_file-requires
store_file-requires c =
    let a = c.args in
    let t = c.in_ok-bundle.ensures in
    let some : c.visit_term.result ≡ Some c.in_ok-visited.visited = grind arith in
    let words = rw some at c.visit_term.ensures.words in
    let b = begun a.job.now (length a.out.now) (length a.words.now) (length a.sets.now) c.long_enough-enough.ensures t.fault t.bundle
    c.in_ok-job_fault.ensures.1 c.claim_left-left.ensures.0 (c.of-filed.ensures ∙ c.copy_job.ensures) in
    let kept = marked a.job.now (length a.out.now) (length a.words.now) (length a.sets.now) c.long_enough-enough.ensures t.fault t.bundle a.names _
    c.of-kept.ensures in
    let told = visit_done (visit_is b a.names kept _ _ c.visit_term.ensures.outcome) some in (
      c.claim_left-left.ensures.1,
      words.0,
      (areas a.job.now (length a.out.now) (length a.words.now) (length a.sets.now) c.long_enough-enough.ensures t.fault t.bundle).output,
      rw (c.view.ensures ∙ c.scratch.ensures)
          (version_kept a.names (bundle_of a.job.now) told.bundle
          (version a.job.now (length a.out.now) (length a.words.now) (length a.sets.now) c.long_enough-enough.ensures t.fault t.bundle)),
    )

pub returns-in_err-visited : goal.returns-in_err-visited
returns-in_err-visited c =
    let a = c.args in
    let r = c.from_residual-in_err-visited in
    let p = err_from_is_err_and r.result r.ensures.1 in
    let t = c.in_ok-bundle.ensures in
    let b = begun a.job.now (length a.out.now) (length a.words.now) (length a.sets.now) c.long_enough-enough.ensures t.fault t.bundle
    c.in_ok-job_fault.ensures.1 c.claim_left-left.ensures.0 (c.of-filed.ensures ∙ c.copy_job.ensures) in
    let kept = marked a.job.now (length a.out.now) (length a.words.now) (length a.sets.now) c.long_enough-enough.ensures t.fault t.bundle a.names _
    c.of-kept.ensures in
    let none : c.visit_term.result ≡ None = grind arith in
    let room : c.in_err-visited.field-0.0 ≡ Check.Room = grind arith in
    rw (p.1, p.2, room)
    (stored_refused refl (omega arith) (c.visit_term.auto.stack ∙ c.job_fault.auto.sets)
    (refused_full b a.names (outcome_full (visit_is b a.names kept _ _ c.visit_term.ensures.outcome) none)))

pub returns : goal.returns
returns c =
    let a = c.args in
    let t = c.in_ok-bundle.ensures in
    let b = begun a.job.now (length a.out.now) (length a.words.now) (length a.sets.now) c.long_enough-enough.ensures t.fault t.bundle
    c.in_ok-job_fault.ensures.1 c.claim_left-left.ensures.0 (c.of-filed.ensures ∙ c.copy_job.ensures) in
    let some : c.visit_term.result ≡ Some c.in_ok-visited.visited = grind arith in
    let kept = marked a.job.now (length a.out.now) (length a.words.now) (length a.sets.now) c.long_enough-enough.ensures t.fault t.bundle a.names _
    c.of-kept.ensures in
    let told = visit_done (visit_is b a.names kept _ _ c.visit_term.ensures.outcome) some in
    let f = c.store_file.ensures in
    stored_expanded a.names a.job.now a.out.now a.words.now a.sets.now c.store_file.new.out _ _ f.0 (omega arith)
    (c.visit_term.auto.stack ∙ c.job_fault.auto.sets) b told (f.2 ∙ ap (λ (b : Bundle). bytes_of (own_counts b)) (c.view.ensures ∙ c.scratch.ensures))
    (f.3 ∙ ap (λ (b : Bundle). file_of (claiming b c.claim_left-left.result c.in_ok-visited.visited.result)) (c.view.ensures ∙ c.scratch.ensures))
