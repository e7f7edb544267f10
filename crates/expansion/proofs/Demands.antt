-- THE DEMANDS on the writer.
--     bytes_exactly             a string of bytes is one by each of its places
--     refused_job_exactly       a job is refused with number n and record i exactly where that check is the first that fails
--     written_exactly           a file is written exactly for well-formed closed jobs that fit, with long enough areas
--     areas_left                what is left in the areas besides the file: zeros
--     written_well              what is to hold of the file of a bundle that was derived from the job's
--     expansion_right           demand 3, its second half
use Prim.Native.Nat.{ℕ, zero, suc, ◌*◌, ◌≤◌, ◌<◌}
use mathlib.Core.Path.{◌≡◌, refl, sym, subst, ◌∙◌}
use mathlib.Core.Logic.Iff
use mathlib.Core.List.{List, [], ◌∷◌}
use native.Mathlib.Omega.{arith}
use lib.ListN.{length, get_or}
use Rattle.bundle.specs.Bundle.{Bundle}
use Rattle.bundle.specs.Limits.{header_words, set_words, Within}
use Rattle.bundle.specs.File.{counts_of, bundle_by, bundle_of, own_counts}
use Rattle.judgement.specs.Answer.{Accepted}
use Rattle.judgement.specs.Judge.{acceptance, judge}
use Rattle.judgement.specs.Demands.{Acceptable}
use Rattle.judgement.proofs.Order.{first_fails, fails_first, failing_number}
use Rattle.judgement.proofs.Demands.{accepted_exactly, accepted_sound}
use Rattle.expansion.specs.Visit.{expanded}
use Rattle.expansion.specs.File.{file_of}
use Rattle.expansion.specs.JobOrder.{all_job_checks}
use Rattle.expansion.specs.Demands.{Bytes, BytesExactly, JobFormed, RefusedJobExactly, WrittenExactly, AreasLeft, WrittenWell, ExpansionRight}
use Rattle.expansion.proofs.SmallNumbers.{SmallBundle}
use Rattle.expansion.proofs.Files.{file_length, file_counts, file_bundle, file_whole}
use Rattle.expansion.proofs.SmallWords.{file_small, expanded_small}
use Rattle.expansion.proofs.JobOrder.{job_checks_find}
use Rattle.expansion.proofs.JobChecks.{job_exactly, written_where, refused_job_where, job_answer, job_file, zeros_left}
use Rattle.expansion.proofs.Derived.{Derived, derived}

pub bytes_exactly : BytesExactly
bytes_exactly f = (there f, back f)
  where
    there : (f : List ℕ) → Bytes f → (i : ℕ) → get_or f i 0 < 256
    there [] h zero = omega arith
    there [] h (suc i) = omega arith
    there (x ∷ xs) h zero = h.0
    there (x ∷ xs) h (suc i) = there xs h.1 i

    back : (f : List ℕ) → ((i : ℕ) → get_or f i 0 < 256) → Bytes f
    back [] h = tt
    back (x ∷ xs) h = (h 0, back xs (λ i. h (suc i)))

pub refused_job_exactly : RefusedJobExactly
refused_job_exactly names f out words sets n i =
    let finds = job_checks_find names f out words sets in (
      λ e. let r = (refused_job_where names f out words sets n i).0 e in fails_first (all_job_checks names f out words sets) n i r.0 (finds.first ∙ r.1),
      λ h. (refused_job_where names f out words sets n i).1 (failing_number finds h, sym finds.first ∙ first_fails (all_job_checks names f out words sets) n i h),
    )

pub written_exactly : WrittenExactly
written_exactly names f out words sets = Iff.trans (written_where names f out words sets) (job_exactly names f out words sets)

pub areas_left : AreasLeft
areas_left = zeros_left

-- f is the job, B the bundle that is written
module _ (f : List ℕ) (B : Bundle) (fit : Within (own_counts B)) (small : SmallBundle B) (theorem : Derived (bundle_of f) B)
    (one : (bundle_of f).version ≡ 1) where
  same : B ≡ bundle_of (file_of B)
  same = sym (file_bundle B fit small)

  here : Derived (bundle_of f) (bundle_of (file_of B))
  here = subst (Derived (bundle_of f)) same theorem

  acceptable : (m : ℕ) → set_words * (counts_of (file_of B)).terms ≤ m → Acceptable (file_of B) m
  unfolding header_words
  acceptable m long = record {
    header =
        record { long = omega (arith, file_length B); version = rw (file_counts B fit small) (theorem.longer.version ∙ one); whole = file_whole B fit small };
    area = long;
    formed = here.formed;
    steps = here.steps;
    claim = here.claim;
  }

  file_accepted : (m : ℕ) → set_words * (counts_of (file_of B)).terms ≤ m
      → judge (file_of B) m ≡ Accepted (acceptance (bundle_of (file_of B)))
  file_accepted m long = (accepted_exactly (file_of B) m _).1 (acceptable m long, refl)

  pub written_well : WrittenWell f (file_of B)
  written_well = record {
    accepted = file_accepted;
    left = here.left;
    records = here.longer;
    plain = here.plain;
    closed = here.closed;
    equal =
        let m : ℕ = set_words * (counts_of (file_of B)).terms in
        accepted_sound (file_of B) m _ (file_accepted m (omega arith));
  }

job_version : {f : List ℕ} → JobFormed f → (bundle_of f).version ≡ 1
unfolding bundle_of bundle_by
job_version formed = formed.header.version

pub expansion_right : ExpansionRight
unfolding expanded
expansion_right names f out words sets bytes formed closed fits long =
    let b : Bundle = bundle_of f in
    let passes = (job_exactly names f out words sets).1 (formed, closed, fits, long) in (
      length (file_of (expanded names b)),
      job_answer names f out words sets passes,
      rw (job_file names f out words sets passes)
          (written_well f (expanded names b) fits (expanded_small names b (file_small f bytes) fits)
          (derived names b formed.tables formed.contexts formed.steps formed.left closed) (job_version formed)),
    )
