-- THE THEOREM of the answer to a text.
--     names_exactly, unknown_exactly     names that are known, and the first that is not
--     sorted_job_lem, unsorted_job           the answer to a formula that is well sorted and Bool, and to one that is not
--     answers_exactly                    THE THEOREM: an answer is given exactly where it means what it says
use Prim.Native.Nat.{ℕ}
use mathlib.Core.Path.{◌≡◌, refl, sym, ap, ◌∙◌, subst}
use mathlib.Core.Logic.{◌↔◌}
use mathlib.Core.Bool.{Bool, true, false, cond, true≢false}
use mathlib.Core.List.{List, [], ◌∷◌, ◌++◌}
use mathlib.Core.Option.{Option, none, some, none-ne-some, some-injective}
use lib.Dec.{eqb}
use borrow.Author.Tests.{eqb-true, eqb-false}
use Rattle.std.proofs.lemmas.Bool.{and_from}
use Rattle.bundle.specs.File.{own_counts}
use Rattle.bundle.specs.Bundle.{Bundle}
use Rattle.bundle.proofs.Limits.{within_all, within_true}
use Rattle.logic.specs.Lists.{All}
use Rattle.logic.specs.Symbols.{truth_sort}
use Rattle.logic.proofs.Tests.{and_left, and_right}
use Rattle.grammar.specs.Grammar.{Formula}
use Rattle.grammar.specs.Names.{Name, names, Located, called_of, met, first_unknown, all_known, Resolved, resolved, unread_at, unknown_at, resolve}
use Rattle.grammar.proofs.NamesExact.{resolved_exactly, unread_first, unknown_first}
use Rattle.reading.specs.Called.{known_in, DeclaredName}
use Rattle.reading.specs.Typing.{Typed, sorts}
use Rattle.reading.specs.Local.{plain}
use Rattle.reading.specs.WellSorted.{WellSorted}
use Rattle.reading.specs.Records.{file}
use Rattle.reading.specs.Reader.{Answer, job, refused, job_of, fits, fitting_job, sorted_job, answer_of, read_text}
use Rattle.reading.specs.Answers.{Named, ReadAs, filed_for, FitsLimits, FirstUnknown, Answered, unread, unknown, missorted, full, read}
use Rattle.reading.specs.Answers.{AnswersExactly}
use Rattle.reading.proofs.KnownNames.{known_exactly}
use Rattle.reading.proofs.TypingExactly.{typing_exactly}

-- ---- names

module _ (b : Bundle) where
  pub names_exactly : (xs : List Name) → (all_known (known_in b) xs ≡ true) ↔ All (DeclaredName b) xs
  unfolding all_known
  names_exactly [] = (λ e. tt, λ h. refl)
  names_exactly (x ∷ xs) = (
    λ e. (
      (known_exactly b x).0 (and_left (known_in b x) (all_known (known_in b) xs) e),
      (names_exactly xs).0 (and_right (known_in b x) (all_known (known_in b) xs) e),
    ),
    λ h. and_from (known_in b x) (all_known (known_in b) xs) ((known_exactly b x).1 h.0) ((names_exactly xs).1 h.1),
  )

  -- the same of names with their first bytes
  located_exactly : (ls : List Located) → (all_known (known_in b) (called_of ls) ≡ true) ↔ All (λ l. DeclaredName b l.called) ls
  unfolding all_known called_of
  located_exactly [] = (λ e. tt, λ h. refl)
  located_exactly (l ∷ ls) =
      let rest : Bool = all_known (known_in b) (called_of ls) in (
        λ e. ((known_exactly b l.called).0 (and_left (known_in b l.called) rest e), (located_exactly ls).0 (and_right (known_in b l.called) rest e)),
        λ h. and_from (known_in b l.called) rest ((known_exactly b l.called).1 h.0) ((located_exactly ls).1 h.1),
      )

  -- the first that is not known
  first_there : (ls : List Located) (n : ℕ) → first_unknown (known_in b) ls ≡ some n → FirstUnknown b ls n
  unfolding first_unknown
  first_there [] n e = absurd (none-ne-some n e)
  first_there (l ∷ ls) n e = go (known_in b l.called) refl e (first_there ls n)
    where
      go : (p : Bool) → known_in b l.called ≡ p → cond p (first_unknown (known_in b) ls) (some l.first) ≡ some n
          → (first_unknown (known_in b) ls ≡ some n → FirstUnknown b ls n) → FirstUnknown b (l ∷ ls) n
      go true q e later =
          let r : FirstUnknown b ls n = later e in
          record {
            before = l ∷ r.before;
            unknown = r.unknown;
            after = r.after;
            split = ap (λ (xs : List Located). l ∷ xs) r.split;
            known = ((known_exactly b l.called).0 q, r.known);
            fails = r.fails;
            first = r.first;
          }
      go false q e later = record {
        before = [];
        unknown = l;
        after = ls;
        split = refl;
        known = tt;
        fails = λ h. true≢false (sym ((known_exactly b l.called).1 h) ∙ q);
        first = some-injective l.first n e;
      }

  first_back : (ls : List Located) (n : ℕ) → FirstUnknown b ls n → first_unknown (known_in b) ls ≡ some n
  unfolding first_unknown
  first_back ls n h = ap (first_unknown (known_in b)) h.split ∙ go h.before h.known
    where
      unlike : (p : Bool) → known_in b h.unknown.called ≡ p → p ≡ false
      unlike true q = absurd (h.fails ((known_exactly b h.unknown.called).0 q))
      unlike false q = refl

      go : (xs : List Located) → All (λ l. DeclaredName b l.called) xs → first_unknown (known_in b) (xs ++ (h.unknown ∷ h.after)) ≡ some n
      go [] k = rw (unlike (known_in b h.unknown.called) refl) (ap some h.first)
      go (l ∷ xs) k = rw ((known_exactly b l.called).1 k.0) (go xs k.1)

  pub unknown_exactly : (ls : List Located) (n : ℕ) → (first_unknown (known_in b) ls ≡ some n) ↔ FirstUnknown b ls n
  unknown_exactly ls n = (first_there ls n, first_back ls n)

-- ---- formulas

module _ (b : Bundle) (φ : Formula) where
  -- its term, where it is well sorted and Bool
  bool_term : WellSorted b φ truth_sort → sorts b φ ≡ some (record { term = plain b φ; sort = truth_sort })
  bool_term h = (typing_exactly b φ (record { term = plain b φ; sort = truth_sort })).1 (h, refl)

  pub sorted_job_lem : WellSorted b φ truth_sort → sorted_job b (sorts b φ) ≡ fitting_job (filed_for b φ)
  unfolding sorted_job
  sorted_job_lem h = ap (sorted_job b) (bool_term h)

  pub unsorted_job : (WellSorted b φ truth_sort → ⊥) → sorted_job b (sorts b φ) ≡ refused 8 0
  unfolding sorted_job
  unsorted_job not = go (sorts b φ) refl
    where
      bool : (t : Typed) → sorts b φ ≡ some t → (p : Bool) → eqb t.sort truth_sort ≡ p → cond p (fitting_job (file t.term b)) (refused 8 0) ≡ refused 8 0
      bool t e true q = absurd (not (subst (WellSorted b φ) (eqb-true t.sort truth_sort q) ((typing_exactly b φ t).0 e).0))
      bool t e false q = refl

      go : (o : Option Typed) → sorts b φ ≡ o → sorted_job b o ≡ refused 8 0
      go none e = refl
      go (some t) e = bool t e (eqb t.sort truth_sort) refl

  -- one or the other
  sorted_or : {A : Type 0} → (WellSorted b φ truth_sort → A) → ((WellSorted b φ truth_sort → ⊥) → A) → A
  sorted_or {A} sorted not = go (sorts b φ) refl
    where
      bool : (t : Typed) → sorts b φ ≡ some t → (p : Bool) → eqb t.sort truth_sort ≡ p → A
      bool t e true q = sorted (subst (WellSorted b φ) (eqb-true t.sort truth_sort q) ((typing_exactly b φ t).0 e).0)
      bool t e false q =
          not (λ h. eqb-false t.sort truth_sort q (ap (λ (u : Typed). u.sort) (some-injective t _ (sym e ∙ bool_term h))))

      go : (o : Option Typed) → sorts b φ ≡ o → A
      go none e = not (λ h. none-ne-some _ (sym e ∙ bool_term h))
      go (some t) e = bool t e (eqb t.sort truth_sort) refl

  fits_not : (FitsLimits b φ → ⊥) → fits (filed_for b φ) ≡ false
  fits_not not = go (fits (filed_for b φ)) refl
    where
      go : (p : Bool) → fits (filed_for b φ) ≡ p → p ≡ false
      go true q = absurd (not (within_all (own_counts (filed_for b φ).bundle) q))
      go false q = refl

-- ---- the answer

module _ (b : Bundle) (text : List ℕ) where
  by_fit : (φ : Formula) → ReadAs b text φ → (p : Bool) → fits (filed_for b φ) ≡ p → Answered b text (cond p (job (job_of (filed_for b φ))) (refused 16 0))
  by_fit φ r true q = read φ r (within_all (own_counts (filed_for b φ).bundle) q)
  by_fit φ r false q = full φ r (λ h. true≢false (sym (within_true (own_counts (filed_for b φ).bundle) h) ∙ q))

  by_sort : (φ : Formula) → Named b text φ → Answered b text (sorted_job b (sorts b φ))
  unfolding fitting_job
  by_sort φ n =
      sorted_or b φ
      (λ h. subst (Answered b text) (sym (sorted_job_lem b φ h)) (by_fit φ (record { named = n; sorted = h }) (fits (filed_for b φ)) refl))
      (λ not. subst (Answered b text) (sym (unsorted_job b φ not)) (missorted φ n not))

  by_names : (r : Resolved) → resolve (known_in b) text ≡ r → Answered b text (answer_of b r)
  unfolding answer_of
  by_names (resolved φ) e =
      let h = (resolved_exactly (known_in b) text φ).0 e in
      by_sort φ (record { reads = h.0; names = (names_exactly b (names φ [])).0 h.1 })
  by_names (unread_at n) e = let h = (unread_first (known_in b) text n).0 e in unread h.0 ((located_exactly b (met text)).0 h.1)
  by_names (unknown_at n) e = unknown ((unknown_exactly b (met text) n).0 ((unknown_first (known_in b) text n).0 e))

  answers_mean : Answered b text (read_text b text)
  unfolding read_text
  answers_mean = by_names (resolve (known_in b) text) refl

  resolves : (φ : Formula) → Named b text φ → resolve (known_in b) text ≡ resolved φ
  resolves φ n = (resolved_exactly (known_in b) text φ).1 (n.reads, (names_exactly b (names φ [])).1 n.names)

  reads_job : (φ : Formula) → ReadAs b text φ → read_text b text ≡ fitting_job (filed_for b φ)
  unfolding read_text answer_of
  reads_job φ r = ap (answer_of b) (resolves φ r.named) ∙ sorted_job_lem b φ r.sorted

  answers_only : (a : Answer) → Answered b text a → read_text b text ≡ a
  unfolding read_text answer_of fitting_job
  answers_only a (unread {n} u k) = ap (answer_of b) ((unread_first (known_in b) text n).1 (u, (located_exactly b (met text)).1 k))
  answers_only a (unknown {n} u) = ap (answer_of b) ((unknown_first (known_in b) text n).1 ((unknown_exactly b (met text) n).1 u))
  answers_only a (missorted φ n not) = ap (answer_of b) (resolves φ n) ∙ unsorted_job b φ not
  answers_only a (full φ r not) = reads_job φ r ∙ rw (fits_not b φ not)
  answers_only a (read φ r fit) = reads_job φ r ∙ rw (within_true (own_counts (filed_for b φ).bundle) fit)

pub answers_exactly : AnswersExactly
answers_exactly b text a = (λ e. subst (Answered b text) e (answers_mean b text), answers_only b text a)
