-- How large the number and the record, or the byte, of a refusal can be, and the length of a job.
--     refused_reading_small     the number is 1 to 20; the record at most the limit of links, or the byte at most the text's length
--     job_short                 a job has at most as many bytes as the longest file
use Prim.Native.Nat.{ℕ, zero, suc, ◌≤◌}
use native.Mathlib.Omega.{arith}
use mathlib.Core.Path.{◌≡◌, refl, ap, sym, ◌∙◌, subst}
use mathlib.Core.Logic.{◌⊎◌, inl, inr}
use mathlib.Core.List.{List, [], ◌∷◌, ◌++◌}
use lib.ListN.{length, length-append}
use Rattle.bundle.specs.Bundle.{Bundle}
use Rattle.bundle.specs.Limits.{limits, bytes_of}
use Rattle.bundle.specs.File.{bundle_of, own_counts}
use Rattle.bundle.proofs.Limits.{within_words}
use Rattle.logic.specs.Tests.{Fault}
use Rattle.logic.specs.Tests.{first_failing, fault, or_else, or_next}
use Rattle.logic.specs.Checks.{header_fault, links_fault, symbols_fault, variables_fault, terms_fault, sections_fault, tables_fault}
use Rattle.judgement.specs.Order.{FirstFailing}
use Rattle.judgement.proofs.Order.{first_fails, failing_number}
use Rattle.judgement.proofs.Sizes.{last_number, SmallFault, failing_le, none_small, else_small, tables_small}
use Rattle.expansion.specs.Answer.{Written, Refused}
use Rattle.expansion.specs.File.{file_of}
use Rattle.expansion.specs.Expansion.{Outcome, long_enough}
use Rattle.expansion.specs.Demands.{LongEnough}
use Rattle.expansion.proofs.Files.{file_length}
use Rattle.grammar.specs.Grammar.{Unread, breaks, stops}
use Rattle.grammar.specs.Names.{Located, Every, StandsIn}
use Rattle.grammar.proofs.NamesPlaced.{names_stand}
use Rattle.reading.specs.Reader.{Answer, job, refused, job_of}
use Rattle.reading.specs.Answers.{filed_for, Answered, unread, unknown, missorted, full, read}
use Rattle.reading.specs.Reading.{last_tests, declarations_fault, leaves, reading}
use Rattle.reading.specs.ReadOrder.{declaration_checks}
use Rattle.reading.specs.Demands.{DeclarationsFormed}
use Rattle.reading.proofs.Answers.{answers_exactly}
use Rattle.reading.proofs.ReadOrder.{declarations_find, declarations_exactly}
use Rattle.reading.proofs.Demands.{read_exactly, refused_exactly}
use Rattle.reader.specs.Storing.{Declared}
use Rattle.reader.proofs.Answering.{answer_is}

-- ---- the declarations

-- another rest
other : (n i : ℕ) (rest rest' : Fault) → (SmallFault rest → SmallFault rest') → SmallFault (or_else n i rest) → SmallFault (or_else n i rest')
unfolding or_else
other zero i rest rest' h s = h s
other (suc n) i rest rest' h s = s

module _ (f : List ℕ) (out words sets : ℕ) where
  declarations_small : SmallFault (declarations_fault f out words sets)
  unfolding declarations_fault tables_fault sections_fault
  declarations_small =
      let b : Bundle = bundle_of f in
      let last : Fault = or_else (first_failing (last_tests b)) 0 (fault 0 0) in
      other (header_fault f (long_enough out words sets) 3) 0 (sections_fault b)
      (or_next (links_fault b) (or_next (symbols_fault b) (or_next (variables_fault b) last)))
      (other (links_fault b).number (links_fault b).«record» (or_next (symbols_fault b) (or_next (variables_fault b) (terms_fault b)))
      (or_next (symbols_fault b) (or_next (variables_fault b) last))
      (other (symbols_fault b).number (symbols_fault b).«record» (or_next (variables_fault b) (terms_fault b)) (or_next (variables_fault b) last)
      (other (variables_fault b).number (variables_fault b).«record» (terms_fault b) last
      (λ s. else_small (first_failing (last_tests b)) 0 (fault 0 0) (failing_le (last_tests b) (omega arith, tt)) (omega arith) none_small))))
      (tables_small f (long_enough out words sets) 3)

-- ---- the text

every_at : (P : Located → Type 0) (xs : List Located) (l : Located) (ys : List Located) → Every P (xs ++ (l ∷ ys)) → P l
every_at P [] l ys h = h.0
every_at P (x ∷ xs) l ys h = every_at P xs l ys h.1

stands_low : (text : List ℕ) (l : Located) → StandsIn text l → l.first ≤ length text
stands_low text l s = omega (arith, s.place, ap length s.parts, length-append s.before (l.called.spelled ++ s.after))

unread_low : (text : List ℕ) (n : ℕ) → Unread text n → n ≤ length text
unread_low text n (breaks l c d) = omega arith
unread_low text n (stops c d) = omega arith

answered_small : (b : Bundle) (text : List ℕ) (a : Answer) → Answered b text a → (m i : ℕ) → a ≡ refused m i → (1 ≤ m) × (m ≤ last_number) × (i ≤ length text)
answered_small b text a (unread {n} u k) m i e =
    let same : 19 ≡ m = cc in
    let place : n ≡ i = cc in
    (omega arith, omega arith, omega (arith, unread_low text n u))
answered_small b text a (unknown {n} u) m i e =
    let same : 20 ≡ m = cc in
    let place : n ≡ i = cc in
    let stands : StandsIn text u.unknown =
    every_at (StandsIn text) u.before u.unknown u.after (subst (Every (StandsIn text)) u.split (names_stand text)) in
    (omega arith, omega arith, omega (arith, stands_low text u.unknown stands, u.first))
answered_small b text a (missorted φ n h) m i e =
    let same : 8 ≡ m = cc in
    let place : 0 ≡ i = cc in
    (omega arith, omega arith, omega arith)
answered_small b text a (full φ r h) m i e =
    let same : 16 ≡ m = cc in
    let place : 0 ≡ i = cc in
    (omega arith, omega arith, omega arith)
answered_small b text a (read φ r fit) m i e = let z : ◌≡◌ {A = ℕ} 0 1 = cc in absurd (omega arith)

-- ---- both

pub refused_reading_small : (f text : List ℕ) (out words sets n i : ℕ) → (reading f text out words sets).answer ≡ Refused n i
    → (1 ≤ n) × (n ≤ last_number) × ((k : ℕ) → limits.links ≤ k → length text ≤ k → i ≤ k)
refused_reading_small f text out words sets n i e = go ((refused_exactly f text out words sets n i).0 e)
  where
    go : FirstFailing (declaration_checks f out words sets) n i ⊎ (DeclarationsFormed f × LongEnough out words sets × Answered (bundle_of f) text (refused n i))
        → (1 ≤ n) × (n ≤ last_number) × ((k : ℕ) → limits.links ≤ k → length text ≤ k → i ≤ k)
    go (inl h) =
        let is : declarations_fault f out words sets ≡ fault n i =
        sym (declarations_find f out words sets).first ∙ first_fails (declaration_checks f out words sets) n i h in
        let s : SmallFault (fault n i) = subst SmallFault is (declarations_small f out words sets) in
        (failing_number (declarations_find f out words sets) h, omega (arith, s.number), λ k a l. omega (arith, s.place))
    go (inr (formed, long, means)) =
        let s = answered_small (bundle_of f) text (refused n i) means n i refl in
        (s.0, s.1, λ k a l. omega (arith, s.2))

-- ---- the job

pub job_short : (f text : List ℕ) (out words sets n : ℕ) → (reading f text out words sets).answer ≡ Written n → n ≤ bytes_of limits
unfolding leaves
job_short f text out words sets n e =
    let (formed, long, (φ, r, fit)) = (read_exactly f text out words sets).0 (n, e) in
    let b : Bundle = bundle_of f in
    let J : Bundle = job_of (filed_for b φ) in
    let d : Declared f out words sets b = record { none = (declarations_exactly f out words sets).1 (formed, long); bundle = refl } in
    let is : reading f text out words sets ≡ leaves (job J) out words sets = answer_is d text ((answers_exactly b text (job J)).1 (read φ r fit)) in
    let told : (reading f text out words sets).answer ≡ Written (length (file_of J)) = ap (λ (o : Outcome). o.answer) is in
    let same : n ≡ length (file_of J) = cc in
    omega (arith, file_length J, within_words (own_counts (filed_for b φ).bundle) fit)
