-- Each answer cites a law of ListTurns or TermTurns; here their arguments are only fetched from `c`.
use mathlib.Core.Path.{◌≡◌, ap, subst, ◌∙◌}
use mathlib.Core.Bool.{true, false}
use mathlib.Core.Logic.{inl, inr}
use Prim.Native.Nat.{ℕ}
use native.Mathlib.Omega.{arith}
use Rattle.std.proofs.lemmas.Bool.Decides.{nat_tests}
use Rattle.bundle.specs.Bundle.{Bundle, link_of, term_of}
use Rattle.bundle.specs.File.{own_counts}
use Rattle.bundle.specs.declared.Counts.{Counts}
use Rattle.bundle.specs.Limits.{Within}
use Rattle.bundle.specs.declared.records.TermWords.{TermWords}
use Rattle.bundle.specs.RecordWords.{as_term}
use Rattle.std.specs.Prelude.{Option, Some}
use Rattle.logic.specs.declared.kinds.Kind.{Kind as KindName}
use Rattle.logic.specs.Terms.{kind_of}
use Rattle.logic.specs.Named.{kind_in, kind_named}
use Rattle.scratch.specs.Stack.{half_of}
use Rattle.names.specs.Marks.{kept_in}
use Rattle.placing.specs.Outcomes.{VisitFits}
use Rattle.placing.proofs.Pairs.{Pair}
use Rattle.visits.proofs.ListTurns.{left_le, LinkReads, list_none, first_asks, first_full, first_height, rest_asks, list_more}
use Rattle.visits.proofs.TermTurns.{Reads, term_kind, term_words_lem, term_variable, scope_closed, scope_asks, scope_word, scope_full, scope_done}
use Rattle.visits.proofs.TermTurns.{args_asks, args_full, args_ready, apply_done, let_closed, body_asks, body_full, body_ready, body_done}
use Rattle.visits.proofs.visits.+visit_list_visit_term.Goals as goal

-- what the scratch s of the filed b says of its counts, of a link, of a term
within : {s b : Bundle} {k : Counts} → s ≡ b → (k ≡ own_counts s) × Within k → Within (own_counts b)
within e k = subst (λ (x : Bundle). Within (own_counts x)) e (subst Within k.0 k.1)

link_reads : {s b : Bundle} {l value next : ℕ} → s ≡ b → (l ≡ 0 → ⊥) → value ≡ (link_of s l).value → next ≡ (link_of s l).next → LinkReads b l value next
link_reads {s} {b} {l} e some v n = record {
  some = some;
  value_is = v ∙ ap (λ (x : Bundle). (link_of x l).value) e;
  next_is = n ∙ ap (λ (x : Bundle). (link_of x l).next) e;
}

term_reads : {s b : Bundle} {t : ℕ} {w : TermWords} → s ≡ b → as_term w ≡ term_of s t → Reads b t w
term_reads {s} {b} {t} e r = record { is = r ∙ ap (λ (x : Bundle). term_of x t) e }

-- the record that was read, and its kind, in the arm of the kind's name
arm : {s b : Bundle} {t : ℕ} {w : TermWords} {r : Option KindName} {k k' : KindName} → s ≡ b → as_term w ≡ term_of s t → kind_of w.kind ≡ kind_named r → r ≡ Some k
    → k ≡ k' → Reads b t w × (kind_of w.kind ≡ kind_in k')
arm e read of is name = (term_reads e read, of ∙ ap kind_named is ∙ ap kind_in name)

-- the word that holds a result and a step
pair : {p x y : ℕ} → half_of true p ≡ x → half_of false p ≡ y → Pair p x y
pair upper lower = record { upper = upper; lower = lower }

-- ---- the visit to a list

pub visit_list-returns-then-list-eq0 : goal.visit_list-returns-then-list-eq0
visit_list-returns-then-list-eq0 t c =
    list_none (within c.scratch.ensures c.counts.ensures) c.if-list-eq0.true

pub visit_list-visit_term-requires : goal.visit_list-visit_term-requires
visit_list-visit_term-requires t c =
    let reads = link_reads (c.view-view.ensures ∙ c.scratch-scratch.ensures) c.if-list-eq0.false c.link_field-value.ensures.0 c.link_field-next.ensures.0 in
    let k = first_asks c.requires reads in
    (omega (arith, c.decreases, k.1), k.0)

pub visit_list-returns-in_err-visited : goal.visit_list-returns-in_err-visited
visit_list-returns-in_err-visited t c =
    let reads = link_reads (c.view-view.ensures ∙ c.scratch-scratch.ensures) c.if-list-eq0.false c.link_field-value.ensures.0 c.link_field-next.ensures.0 in
    rw c.from_residual.ensures (first_full c.requires reads c.visit_term.ensures c.in_err-visited.was)

-- a place for the pair
pub visit_list-prove-unreachable-requires-2 : goal.visit_list-prove-unreachable-requires-2
visit_list-prove-unreachable-requires-2 t c =
    let reads = link_reads (c.view-view.ensures ∙ c.scratch-scratch.ensures) c.if-list-eq0.false c.link_field-value.ensures.0 c.link_field-next.ensures.0 in
    let k = first_height c.requires reads c.visit_term.ensures c.in_ok-visited.was in
    omega (arith, k.2)

pub visit_list-visit_list-requires : goal.visit_list-visit_list-requires
visit_list-visit_list-requires t c =
    let reads = link_reads (c.view-view.ensures ∙ c.scratch-scratch.ensures) c.if-list-eq0.false c.link_field-value.ensures.0 c.link_field-next.ensures.0 in
    let k = rest_asks c.requires reads c.visit_term.ensures c.in_ok-visited.was (pair c.pack.ensures.0 c.pack.ensures.1) in
    (omega (arith, c.decreases, k.1), k.0)

pub visit_list-returns : goal.visit_list-returns
visit_list-returns t c =
    let reads = link_reads (c.view-view.ensures ∙ c.scratch-scratch.ensures) c.if-list-eq0.false c.link_field-value.ensures.0 c.link_field-next.ensures.0 in
    list_more c.requires reads c.visit_term.ensures c.in_ok-visited.was (pair c.pack.ensures.0 c.pack.ensures.1) c.visit_list.ensures

-- ---- the visit to a term

-- ---- a variable

pub visit_term-close_variable-requires : goal.visit_term-close_variable-requires
visit_term-close_variable-requires t c =
    term_words_lem c.requires (within c.scratch-scratch.ensures c.counts.ensures)

pub visit_term-returns-in-Some-Variable : goal.visit_term-returns-in-Some-Variable
visit_term-returns-in-Some-Variable t c =
    let read = arm (c.view.ensures ∙ c.scratch-scratch.ensures) c.term_words-words.ensures.0 c.of.ensures c.in-Some-Variable.is c.in-Some-Variable.field-0-is in
    term_variable c.requires read.0 read.1 c.close_variable.ensures.0 c.close_variable.ensures.1

-- ---- a binder

pub visit_term-open_binder-requires : goal.visit_term-open_binder-requires
visit_term-open_binder-requires t c =
    let k = term_words_lem c.requires (within c.scratch-scratch.ensures c.counts.ensures) in
    (c.term_words-words.ensures.1.first, k.0)

pub visit_term-returns-in_err-opened-in-Some-Binder : goal.visit_term-returns-in_err-opened-in-Some-Binder
visit_term-returns-in_err-opened-in-Some-Binder t c =
    let read = arm (c.view.ensures ∙ c.scratch-scratch.ensures) c.term_words-words.ensures.0 c.of.ensures c.in-Some-Binder.is c.in-Some-Binder.field-0-is in
    rw c.from_residual-in_err-opened-in-Some-Binder.ensures (scope_closed c.requires read.0 (kept_in c.args.kept.now) read.1 c.keeps.ensures c.open_binder.ensures c.in_err-opened-in-Some-Binder.was)

pub visit_term-visit_term-requires : goal.visit_term-visit_term-requires
visit_term-visit_term-requires t c =
    let read = arm (c.view.ensures ∙ c.scratch-scratch.ensures) c.term_words-words.ensures.0 c.of.ensures c.in-Some-Binder.is c.in-Some-Binder.field-0-is in
    let k = scope_asks c.requires read.0 (kept_in c.args.kept.now) read.1 c.keeps.ensures c.open_binder.ensures c.in_ok-opened-in-Some-Binder.was in
    (omega (arith, c.decreases, k.1), k.0)

pub visit_term-returns-in_err-body-in-Some-Binder : goal.visit_term-returns-in_err-body-in-Some-Binder
visit_term-returns-in_err-body-in-Some-Binder t c =
    let read = arm (c.view.ensures ∙ c.scratch-scratch.ensures) c.term_words-words.ensures.0 c.of.ensures c.in-Some-Binder.is c.in-Some-Binder.field-0-is in
    rw c.from_residual-in_err-body-in-Some-Binder.ensures
    (scope_full c.requires read.0 (kept_in c.args.kept.now) read.1 c.keeps.ensures c.open_binder.ensures c.in_ok-opened-in-Some-Binder.was c.visit_term.ensures c.in_err-body-in-Some-Binder.was)

pub visit_term-close_binder-requires : goal.visit_term-close_binder-requires
visit_term-close_binder-requires t c =
    let read = arm (c.view.ensures ∙ c.scratch-scratch.ensures) c.term_words-words.ensures.0 c.of.ensures c.in-Some-Binder.is c.in-Some-Binder.field-0-is in
    let w = within c.scratch-scratch.ensures c.counts.ensures in
    let k = term_words_lem c.requires w in
    let fits = subst VisitFits c.in_ok-body-in-Some-Binder.was c.visit_term.ensures.words in
    (k.0, k.1, scope_word c.requires read.0 (kept_in c.args.kept.now) read.1 c.keeps.ensures c.open_binder.ensures c.in_ok-opened-in-Some-Binder.was c.term_words-words.ensures.1.first w, fits.0, fits.1)

pub visit_term-returns-in_ok-body-in-Some-Binder : goal.visit_term-returns-in_ok-body-in-Some-Binder
visit_term-returns-in_ok-body-in-Some-Binder t c =
    let read = arm (c.view.ensures ∙ c.scratch-scratch.ensures) c.term_words-words.ensures.0 c.of.ensures c.in-Some-Binder.is c.in-Some-Binder.field-0-is in
    scope_done c.requires read.0 (kept_in c.args.kept.now) read.1 c.keeps.ensures c.open_binder.ensures c.in_ok-opened-in-Some-Binder.was c.visit_term.ensures c.in_ok-body-in-Some-Binder.was c.close_binder.ensures.0
    c.close_binder.ensures.1

-- ---- an application

pub visit_term-visit_list-requires : goal.visit_term-visit_list-requires
visit_term-visit_list-requires t c =
    let read = arm (c.view.ensures ∙ c.scratch-scratch.ensures) c.term_words-words.ensures.0 c.of.ensures c.in-Some-Application.is c.in-Some-Application.field-0-is in
    (omega (arith, c.decreases, left_le c.term_words-words.result.second), args_asks c.requires read.0 (inl read.1))

pub visit_term-returns-in_err-top-in-Some-Application : goal.visit_term-returns-in_err-top-in-Some-Application
visit_term-returns-in_err-top-in-Some-Application t c =
    let read = arm (c.view.ensures ∙ c.scratch-scratch.ensures) c.term_words-words.ensures.0 c.of.ensures c.in-Some-Application.is c.in-Some-Application.field-0-is in
    rw c.from_residual.ensures (args_full c.requires read.0 (inl read.1) c.visit_list.ensures c.in_err-top-in-Some-Application.was)

-- the pairs are on the stack

pub visit_term-prove-unreachable-requires-in-Some-Application : goal.visit_term-prove-unreachable-requires-in-Some-Application
visit_term-prove-unreachable-requires-in-Some-Application t c =
    let read = arm (c.view.ensures ∙ c.scratch-scratch.ensures) c.term_words-words.ensures.0 c.of.ensures c.in-Some-Application.is c.in-Some-Application.field-0-is in
    let k = args_ready c.requires read.0 (inl read.1) c.visit_list.ensures c.in_ok-top-in-Some-Application.was in
    grind (arith, nat_tests)

pub visit_term-close_application-requires : goal.visit_term-close_application-requires
visit_term-close_application-requires t c =
    let k = term_words_lem c.requires (within c.scratch-scratch.ensures c.counts.ensures) in
    (k.0, k.1, c.term_words-words.ensures.1.first)

pub visit_term-returns-in_ok-top-in-Some-Application : goal.visit_term-returns-in_ok-top-in-Some-Application
visit_term-returns-in_ok-top-in-Some-Application t c =
    let read = arm (c.view.ensures ∙ c.scratch-scratch.ensures) c.term_words-words.ensures.0 c.of.ensures c.in-Some-Application.is c.in-Some-Application.field-0-is in
    apply_done c.requires read.0 (inl read.1) c.visit_list.ensures c.in_ok-top-in-Some-Application.was read.1 c.close_application.ensures.0
    c.close_application.ensures.1

-- ---- a let

pub visit_term-visit_list-requires-in-Some-Let : goal.visit_term-visit_list-requires-in-Some-Let
visit_term-visit_list-requires-in-Some-Let t c =
    let read = arm (c.view.ensures ∙ c.scratch-scratch.ensures) c.term_words-words.ensures.0 c.of.ensures c.in-Some-Let.is c.in-Some-Let.field-0-is in
    (omega (arith, c.decreases, left_le c.term_words-words.result.second), args_asks c.requires read.0 (inr read.1))

pub visit_term-returns-in_err-top-in-Some-Let : goal.visit_term-returns-in_err-top-in-Some-Let
visit_term-returns-in_err-top-in-Some-Let t c =
    let read = arm (c.view.ensures ∙ c.scratch-scratch.ensures) c.term_words-words.ensures.0 c.of.ensures c.in-Some-Let.is c.in-Some-Let.field-0-is in
    rw c.from_residual-in_err-top-in-Some-Let.ensures (args_full c.requires read.0 (inr read.1) c.visit_list-in-Some-Let.ensures c.in_err-top-in-Some-Let.was)

-- the pairs are on the stack

pub visit_term-prove-unreachable-requires-in-Some-Let : goal.visit_term-prove-unreachable-requires-in-Some-Let
visit_term-prove-unreachable-requires-in-Some-Let t c =
    let read = arm (c.view.ensures ∙ c.scratch-scratch.ensures) c.term_words-words.ensures.0 c.of.ensures c.in-Some-Let.is c.in-Some-Let.field-0-is in
    let k = args_ready c.requires read.0 (inr read.1) c.visit_list-in-Some-Let.ensures c.in_ok-top-in-Some-Let.was in
    grind (arith, nat_tests)

pub visit_term-open_let-requires : goal.visit_term-open_let-requires
visit_term-open_let-requires t c =
    let k = term_words_lem c.requires (within c.scratch-scratch.ensures c.counts.ensures) in
    (c.term_words-words.ensures.1.first, k.0)

pub visit_term-returns-in_err-inner-in-Some-Let : goal.visit_term-returns-in_err-inner-in-Some-Let
visit_term-returns-in_err-inner-in-Some-Let t c =
    let read = arm (c.view.ensures ∙ c.scratch-scratch.ensures) c.term_words-words.ensures.0 c.of.ensures c.in-Some-Let.is c.in-Some-Let.field-0-is in
    rw c.from_residual-in_err-inner-in-Some-Let.ensures
    (let_closed c.requires read.0 (inr read.1) c.visit_list-in-Some-Let.ensures c.in_ok-top-in-Some-Let.was read.1 c.open_let.ensures c.in_err-inner-in-Some-Let.was)

pub visit_term-visit_term-requires-in-Some-Let : goal.visit_term-visit_term-requires-in-Some-Let
visit_term-visit_term-requires-in-Some-Let t c =
    let read = arm (c.view.ensures ∙ c.scratch-scratch.ensures) c.term_words-words.ensures.0 c.of.ensures c.in-Some-Let.is c.in-Some-Let.field-0-is in
    let k = body_asks c.requires read.0 (inr read.1) c.visit_list-in-Some-Let.ensures c.in_ok-top-in-Some-Let.was read.1 c.open_let.ensures c.in_ok-inner-in-Some-Let.was in
    (omega (arith, c.decreases, k.1), k.0)

pub visit_term-returns-in_err-body-in-Some-Let : goal.visit_term-returns-in_err-body-in-Some-Let
visit_term-returns-in_err-body-in-Some-Let t c =
    let read = arm (c.view.ensures ∙ c.scratch-scratch.ensures) c.term_words-words.ensures.0 c.of.ensures c.in-Some-Let.is c.in-Some-Let.field-0-is in
    rw c.from_residual-in_err-body-in-Some-Let.ensures
    (body_full c.requires read.0 (inr read.1) c.visit_list-in-Some-Let.ensures c.in_ok-top-in-Some-Let.was read.1 c.open_let.ensures c.in_ok-inner-in-Some-Let.was c.visit_term-in-Some-Let.ensures c.in_err-body-in-Some-Let.was)

-- a place for the body's pair

pub visit_term-prove-unreachable-requires-in-Some-Let-2 : goal.visit_term-prove-unreachable-requires-in-Some-Let-2
visit_term-prove-unreachable-requires-in-Some-Let-2 t c =
    let read = arm (c.view.ensures ∙ c.scratch-scratch.ensures) c.term_words-words.ensures.0 c.of.ensures c.in-Some-Let.is c.in-Some-Let.field-0-is in
    let k = body_ready c.requires read.0 (inr read.1) c.visit_list-in-Some-Let.ensures c.in_ok-top-in-Some-Let.was read.1 c.open_let.ensures c.in_ok-inner-in-Some-Let.was c.visit_term-in-Some-Let.ensures c.in_ok-body-in-Some-Let.was in
    omega (arith, k)

pub visit_term-conclude-requires : goal.visit_term-conclude-requires
visit_term-conclude-requires t c =
    let k = term_words_lem c.requires (within c.scratch-scratch.ensures c.counts.ensures) in
    let fits = subst VisitFits c.in_ok-body-in-Some-Let.was c.visit_term-in-Some-Let.ensures.words in
    (omega (arith, c.number.ensures), k.0, k.1, fits.0)

pub visit_term-returns-in_ok-body-in-Some-Let : goal.visit_term-returns-in_ok-body-in-Some-Let
visit_term-returns-in_ok-body-in-Some-Let t c =
    let read = arm (c.view.ensures ∙ c.scratch-scratch.ensures) c.term_words-words.ensures.0 c.of.ensures c.in-Some-Let.is c.in-Some-Let.field-0-is in
    body_done c.requires read.0 (inr read.1) c.visit_list-in-Some-Let.ensures c.in_ok-top-in-Some-Let.was read.1 c.open_let.ensures c.in_ok-inner-in-Some-Let.was c.visit_term-in-Some-Let.ensures c.in_ok-body-in-Some-Let.was (pair c.pack.ensures.0 c.pack.ensures.1)
    (rw c.number.ensures at c.conclude.ensures.0) c.conclude.ensures.1

-- ---- no kind

pub visit_term-unreachable-requires : goal.visit_term-unreachable-requires
visit_term-unreachable-requires t c =
    let reads = term_reads (c.view.ensures ∙ c.scratch-scratch.ensures) c.term_words-words.ensures.0 in
    term_kind c.requires reads (c.of.ensures ∙ ap kind_named c.in-None.is)
