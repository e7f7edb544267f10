-- The answer to a text, as the code comes to it. D is the bundle of the declarations.
--     refused_declared                        a check of the declarations fails
--     formed, areas_long                      none does: what is known then of the file and the areas
--     declared_version, copied_formed         and of D, which is copied into the scratch
--     answer_is, refused_text                 the answer by what is read of the text; 19, 20 or 8
--     Settled, settled, read_as               none of them: the text is read as φ
--     refused_records                         16
--     Held, held_done, held_version                         the records are in the scratch
--     stored_read                             the job: what is left before the zeros are written
use Prim.Native.Nat.{ℕ, zero, suc, ◌≤◌}
use native.Mathlib.Omega.{arith}
use mathlib.Core.Path.{◌≡◌, refl, sym, ap, ◌∙◌, subst}
use mathlib.Core.Bool.{Bool, true, false, cond, ◌&&◌}
use mathlib.Core.List.{List, []}
use lib.ListN.{length, take}
use Rattle.std.specs.Prelude.{Option, Some, None}
use lib.Dec.{eqb}
use borrow.Author.Tests.{eqb-true}
use Rattle.bundle.specs.Words.{largest_word}
use Rattle.bundle.specs.Bundle.{Bundle}
use Rattle.bundle.specs.Limits.{limits, bytes_of, Within}
use Rattle.bundle.specs.File.{bundle_of, own_counts}
use Rattle.bundle.proofs.Limits.{within_words}
use Rattle.logic.specs.Tests.{Fault}
use Rattle.logic.specs.Tests.{fault}
use Rattle.logic.specs.Symbols.{truth_sort}
use Rattle.logic.specs.WellFormed.{TablesFormed}
use Rattle.logic.proofs.Tests.{and_left, and_right}
use Rattle.endings.specs.declared.ReadTerm.{ReadTerm}
use Rattle.formulas.specs.ReadGives.{TooLarge, TextOutcome, done, full as tooLarge, ReadsText}
use Rattle.formulas.proofs.Sizes.{file_longer}
use Rattle.formulas.proofs.TextTurns.{too_large_never_fits}
use Rattle.expansion.specs.Answer.{Written, Refused}
use Rattle.expansion.specs.Visit.{claiming}
use Rattle.expansion.specs.File.{file_of}
use Rattle.expansion.specs.Expansion.{Outcome, writes}
use Rattle.expansion.specs.Demands.{LongEnough}
use Rattle.expansion.specs.AreasAfter.{Stored}
use Rattle.expansion.proofs.Files.{file_length}
use Rattle.expansion.proofs.AreasAfter.{stored_written}
use Rattle.grammar.specs.Grammar.{Formula}
use Rattle.grammar.specs.Names.{names, Resolved, resolved, unread_at, unknown_at, resolve}
use Rattle.grammar.proofs.NamesExact.{resolved_exactly}
use Rattle.reading.specs.Called.{known_in}
use Rattle.reading.specs.Typing.{Typed, only}
use Rattle.reading.specs.Local.{head_sort, fine, plain, typed}
use Rattle.reading.specs.WellSorted.{WellSorted}
use Rattle.reading.specs.Records.{file}
use Rattle.reading.specs.Reader.{Answer, job, refused, job_of, fitting_job, sorted_job, answer_of, read_text}
use Rattle.reading.specs.Answers.{ReadAs, filed_for, FitsLimits, full, read}
use Rattle.reading.specs.Reading.{declarations_fault, answer_after, leaves, reading}
use Rattle.reading.specs.Demands.{DeclarationsFormed}
use Rattle.reader.specs.Texts.{is_bool, text_fault}
use Rattle.reader.specs.Storing.{Declared}
use Rattle.reading.proofs.LocalSorts.{sorts_local}
use Rattle.reading.proofs.TypingExactly.{typing_exactly}
use Rattle.reading.proofs.Answers.{names_exactly, answers_exactly}
use Rattle.reading.proofs.ReadOrder.{declarations_exactly}
use Rattle.reading.proofs.Jobs.{declared_checked}

-- ---- the answer by what refuses the text

well_sorted : (b : Bundle) (φ : Formula) → is_bool b φ ≡ true → WellSorted b φ truth_sort
well_sorted b φ e =
    let tests : fine b φ ≡ true = and_left (fine b φ) (eqb (head_sort b φ) truth_sort) e in
    let bool : head_sort b φ ≡ truth_sort = eqb-true (head_sort b φ) truth_sort (and_right (fine b φ) (eqb (head_sort b φ) truth_sort) e) in
    subst (WellSorted b φ) bool ((typing_exactly b φ (typed b φ)).0 (sorts_local b φ ∙ ap (λ (p : Bool). only p (typed b φ)) tests)).0

module _ (b : Bundle) where
  sorted_by : (p : Bool) (t : Typed) → sorted_job b (only p t) ≡ cond (p && eqb t.sort truth_sort) (fitting_job (file t.term b)) (refused 8 0)
  unfolding sorted_job
  sorted_by true t = refl
  sorted_by false t = refl

  by_fault : (r : Resolved) → ((text_fault b r).number ≡ 0 → ⊥) → answer_of b r ≡ refused (text_fault b r).number (text_fault b r).«record»
  unfolding answer_of text_fault
  by_fault (resolved φ) ne = ap (sorted_job b) (sorts_local b φ) ∙ sorted_by (fine b φ) (typed b φ) ∙ go (is_bool b φ) ne
    where
      go : (p : Bool) → ((cond p (fault 0 0) (fault 8 0)).number ≡ 0 → ⊥)
          → cond p (fitting_job (filed_for b φ)) (refused 8 0) ≡ refused (cond p (fault 0 0) (fault 8 0)).number (cond p (fault 0 0) (fault 8 0)).«record»
      go true ne = absurd (ne refl)
      go false ne = refl
  by_fault (unread_at n) ne = refl
  by_fault (unknown_at n) ne = refl

  -- the text is read as φ
  by_none : (r : Resolved) → (text_fault b r).number ≡ 0 → (φ : Formula) × (r ≡ resolved φ) × (is_bool b φ ≡ true)
  unfolding text_fault
  by_none (resolved φ) e = (φ, refl, go (is_bool b φ) e)
    where
      go : (p : Bool) → (cond p (fault 0 0) (fault 8 0)).number ≡ 0 → p ≡ true
      go true e = refl
      go false e = absurd (omega arith)
  by_none (unread_at n) e = absurd (omega arith)
  by_none (unknown_at n) e = absurd (omega arith)

-- ---- the declarations f, and areas of these lengths

module _ (f text : List ℕ) (out words sets : ℕ) where
  pub refused_declared : (r : Fault) → r ≡ declarations_fault f out words sets → (r.number ≡ 0 → ⊥)
      → Refused r.number r.«record» ≡ (reading f text out words sets).answer
  unfolding reading answer_after leaves
  refused_declared r e ne =
      go r.number ne ∙ ap (λ (d : Fault). (leaves (answer_after d.number d.«record» (read_text (bundle_of f) text)) out words sets).answer) e
    where
      go : (m : ℕ) → (m ≡ 0 → ⊥) → Refused m r.«record» ≡ (leaves (answer_after m r.«record» (read_text (bundle_of f) text)) out words sets).answer
      go zero ne = absurd (ne refl)
      go (suc m) ne = refl

-- no check of the declarations fails
module _ {f : List ℕ} {out words sets : ℕ} {D : Bundle} (declared : Declared f out words sets D) where
  pub formed : DeclarationsFormed f
  formed = ((declarations_exactly f out words sets).0 declared.none).0

  pub areas_long : LongEnough out words sets
  areas_long = ((declarations_exactly f out words sets).0 declared.none).1

  pub declared_version : D.version ≡ 1
  unfolding bundle_of
  declared_version = ap (λ (b : Bundle). b.version) declared.bundle ∙ formed.header.version

  -- B is in the scratch
  pub copied_formed : {B : Bundle} → B ≡ D → TablesFormed B
  copied_formed copied = rw (copied, declared.bundle) (declared_checked f formed).formed.tables

  module _ (text : List ℕ) where
    reading_is : reading f text out words sets ≡ leaves (read_text D text) out words sets
    unfolding reading answer_after
    reading_is = rw declared.bundle (go (declarations_fault f out words sets).number declared.none)
      where
        go : (m : ℕ) → m ≡ 0
            → leaves (answer_after m (declarations_fault f out words sets).«record» (read_text (bundle_of f) text)) out words sets
            ≡ leaves (read_text (bundle_of f) text) out words sets
        go zero e = refl
        go (suc m) e = absurd (omega arith)

    pub answer_is : {a : Answer} → read_text D text ≡ a → reading f text out words sets ≡ leaves a out words sets
    answer_is e = reading_is ∙ ap (λ (a : Answer). leaves a out words sets) e

    refused_by : {m i : ℕ} → read_text D text ≡ refused m i → Refused m i ≡ (reading f text out words sets).answer
    unfolding leaves
    refused_by e = sym (ap (λ (o : Outcome). o.answer) (answer_is e))

    -- r is what the code has found
    pub refused_text : (r : Fault) → r ≡ text_fault D (resolve (known_in D) text) → (r.number ≡ 0 → ⊥)
        → Refused r.number r.«record» ≡ (reading f text out words sets).answer
    unfolding read_text
    refused_text r found ne =
        refused_by (by_fault D (resolve (known_in D) text) (λ z. ne (ap (λ (x : Fault). x.number) found ∙ z))
        ∙ sym (ap (λ (x : Fault). refused x.number x.«record») found))

-- ---- the text

-- beside D nothing refuses the text before its records are placed; it is read as φ
pub record Settled (D : Bundle) (text : List ℕ) (φ : Formula) : Type 0 where
  pub resolves : resolve (known_in D) text ≡ resolved φ
  pub bool : is_bool D φ ≡ true

pub settled : (D : Bundle) (text : List ℕ) (r : Fault) → r ≡ text_fault D (resolve (known_in D) text) → r.number ≡ 0 → (φ : Formula) × Settled D text φ
settled D text r found z =
    let (φ, resolves, bool) = by_none D (resolve (known_in D) text) (sym (ap (λ (x : Fault). x.number) found) ∙ z)
    in (φ, record { resolves = resolves; bool = bool })

module _ {D : Bundle} {text : List ℕ} {φ : Formula} (s : Settled D text φ) where
  pub read_as : ReadAs D text φ
  read_as =
      let reads = (resolved_exactly (known_in D) text φ).0 s.resolves in
      record {
        named = record { reads = reads.0; names = (names_exactly D (names φ [])).0 reads.1 };
        sorted = well_sorted D φ s.bool;
      }

  -- the declarations f, and areas of these lengths
  module _ {f : List ℕ} {out words sets : ℕ} (declared : Declared f out words sets D) where
    never_fits : TooLarge (plain D φ) D 0 limits.terms → FitsLimits D φ → ⊥
    never_fits =
        subst (λ (b : Bundle). ReadAs b text φ → TooLarge (plain b φ) b 0 limits.terms → FitsLimits b φ → ⊥) (sym declared.bundle)
        (too_large_never_fits f text φ (formed declared)) read_as

    refused_full : TooLarge (plain D φ) D 0 limits.terms → Refused 16 0 ≡ (reading f text out words sets).answer
    refused_full h = refused_by declared text ((answers_exactly D text (refused 16 0)).1 (full φ read_as (never_fits h)))

    written : FitsLimits D φ → reading f text out words sets ≡ writes (job_of (filed_for D φ)) out words sets
    unfolding leaves
    written fit = answer_is declared text ((answers_exactly D text (job (job_of (filed_for D φ)))).1 (read φ read_as fit))

-- ---- the job

-- the bundle B has the records of the formula beside D, whose term is t
pub record Held (D : Bundle) (φ : Formula) (B : Bundle) (t : ℕ) : Type 0 where
  pub bundle : B ≡ (filed_for D φ).bundle
  pub term : t ≡ (filed_for D φ).term

-- B₀ is in the scratch before the records are read, B after that, r is the answer
module _ {D : Bundle} {text : List ℕ} {φ : Formula} (s : Settled D text φ) {B₀ B : Bundle} {r : Option ReadTerm} (copied : B₀ ≡ D)
    (told : ReadsText D text B₀ B r) where
  outcome : TextOutcome D φ D B r
  outcome = subst (λ (b : Bundle). TextOutcome D φ b B r) copied (told.0 φ (read_as s).named.reads)

  pub refused_records : {f : List ℕ} {out words sets : ℕ} → Declared f out words sets D → r ≡ None
      → Refused 16 0 ≡ (reading f text out words sets).answer
  refused_records declared k = refused_full s declared (go outcome)
    where
      go : TextOutcome D φ D B r → TooLarge (plain D φ) D 0 limits.terms
      go (done h x i d) = absurd (cc)
      go (tooLarge h i) = h

  pub held_done : {x : ReadTerm} → r ≡ Some x → Held D φ B x.term
  held_done {x} k = go outcome
    where
      go : TextOutcome D φ D B r → Held D φ B x.term
      go (done h y i d) = record { bundle = d.bundle; term = ap (λ (z : ReadTerm). z.term) (same y (sym k ∙ i)) ∙ d.term }
        where
          same : (y : ReadTerm) → ◌≡◌ {A = Option ReadTerm} (Some x) (Some y) → x ≡ y
          same y e = cc
      go (tooLarge h i) = absurd (cc)

-- its version is a word, as that of the declarations
pub held_version : {D B : Bundle} {φ : Formula} {t : ℕ} → Held D φ B t → D.version ≡ 1 → B.version ≤ largest_word
held_version {D} {B} {φ} h d =
    let e : B.version ≡ 1 = ap (λ (b : Bundle). b.version) h.bundle ∙ (file_longer (plain D φ) D).version ∙ d in
    omega (arith, e)

-- the scratch is S, and the file was stored, n bytes long
pub stored_read : {D S B : Bundle} {φ : Formula} {t : ℕ} {text : List ℕ} → Held D φ B t → Settled D text φ → S ≡ B
    → {f out words sets out' words' sets' : List ℕ} → Declared f (length out) (length words) (length sets) D
    → length out' ≡ length out → length words' ≡ length words → length sets' ≡ length sets → {n : ℕ} → Within (own_counts S) → n ≡ bytes_of (own_counts S)
    → take n out' ≡ file_of (claiming S t 0)
    → Stored (reading f text (length out) (length words) (length sets)) out words sets out' words' sets' (Written n)
stored_read {D} {S} {B} {φ} h s held {out = out} declared lo lw ls {n} within size stored =
    let J : Bundle = job_of (filed_for D φ) in
    let bundle : S ≡ (filed_for D φ).bundle = held ∙ h.bundle in
    let size_is : n ≡ length (file_of J) = size ∙ ap (λ (b : Bundle). bytes_of (own_counts b)) bundle ∙ sym (file_length J) in
    let room : n ≤ length out = omega (arith, size, within_words (own_counts S) within, (areas_long declared).output) in
    let fits : FitsLimits D φ = subst (λ (b : Bundle). Within (own_counts b)) bundle within in
    stored_written lo lw ls J n (written s declared fits) size_is room (stored ∙ (λ i. file_of (claiming (bundle i) (h.term i) 0)))
