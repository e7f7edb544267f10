-- `digest` meets its contract: the definition, by the kind, on the words that the reader gives.
use mathlib.Core.Path.{◌≡◌, sym, ◌∙◌}
use native.Mathlib.Omega.{arith}
use borrow.Author.Tests.{eq-eqb, ne_eqb}
use Rattle.bundle.specs.RecordWords.{as_term}
use Rattle.logic.specs.Terms.{variable, application, binder, letting, other, kind_of}
use Rattle.logic.specs.Named.{binder_in}
use Rattle.logic.proofs.TermKinds.{kind_number}
use Rattle.filing.specs.Filing.{lookup_digest}
use Rattle.filing.proofs.FiledTerms.{plain_digest}
use Rattle.filing.proofs.digests.digest.Goals as goal

pub returns-in-Some-Variable : goal.returns-in-Some-Variable
returns-in-Some-Variable c =
    let w = c.term_words-term in
    let k : kind_of w.result.kind ≡ variable = rw (c.of.ensures, c.in-Some-Variable.is, c.in-Some-Variable.field-0-is) in
    let own = plain_digest c.args.scratch.now (as_term w.result) variable k (λ e. cc) (λ e. cc) in
    rw (← w.ensures.0) (c.root_digest-root.ensures ∙ sym own)

pub returns-in-Some-Application : goal.returns-in-Some-Application
unfolding lookup_digest
returns-in-Some-Application c =
    let w = c.term_words-term in
    let k : kind_of w.result.kind ≡ application = rw (c.of.ensures, c.in-Some-Application.is, c.in-Some-Application.field-0-is) in
    let n : w.result.kind ≡ 2 = kind_number w.result.kind application k (λ e. cc) in
    rw (← w.ensures.0, ne_eqb w.result.kind 5 (λ z. omega arith), eq-eqb w.result.kind 2 n, ← c.root_digest-root.ensures) c.mixed_items.ensures

pub returns-in-Some-Binder : goal.returns-in-Some-Binder
returns-in-Some-Binder c =
    let w = c.term_words-term in
    let q = binder (binder_in c.in-Some-Binder.field-0-0) in
    let k : kind_of w.result.kind ≡ q = rw (c.of.ensures, c.in-Some-Binder.is, c.in-Some-Binder.field-0-is) in
    let own = plain_digest c.args.scratch.now (as_term w.result) q k (λ e. cc) (λ e. cc) in
    rw (← w.ensures.0) (c.root_digest-root.ensures ∙ sym own)

pub returns-in-Some-Let : goal.returns-in-Some-Let
unfolding lookup_digest
returns-in-Some-Let c =
    let w = c.term_words-term in
    let k : kind_of w.result.kind ≡ letting = rw (c.of.ensures, c.in-Some-Let.is, c.in-Some-Let.field-0-is) in
    rw (← w.ensures.0, eq-eqb _ 5 (kind_number w.result.kind letting k (λ e. cc))) c.let_digest.ensures

pub returns-in-None : goal.returns-in-None
returns-in-None c =
    let w = c.term_words-term in
    let k : kind_of w.result.kind ≡ other = rw (c.of.ensures, c.in-None.is) in
    let own = plain_digest c.args.scratch.now (as_term w.result) other k (λ e. cc) (λ e. cc) in
    rw (← w.ensures.0) (c.root_digest-root.ensures ∙ sym own)
