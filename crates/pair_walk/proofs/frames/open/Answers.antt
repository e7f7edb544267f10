-- `frames::open` meets its contract, by the kind.
use native.Mathlib.Omega.{arith}
use native.Mathlib.Numerals.{add-one}
use mathlib.Core.Path.{refl, sym, ap, ◌∙◌}
use lib.ListN.{length}
use Rattle.bundle.specs.Links.{starts_at}
use Rattle.bundle.proofs.Walks.{walk_start_le}
use Rattle.pair_walk.specs.Agenda.{frames}
use Rattle.pair_walk.proofs.FrameWords.{frame_pending}
use Rattle.pair_walk.proofs.ByKind.{open_variable, open_binder, open_none, open_some}
use Rattle.pair_walk.proofs.frames.open.Goals as goal

pub returns-then-kind-number : goal.returns-then-kind-number
returns-then-kind-number c =
    let a = c.args in (
      refl,
      omega arith,
      sym (open_variable a.bundle.now a.l a.r (frames a.agenda.now a.h) c.term_field-kind.ensures (c.if-kind-number.true ∙ c.number.ensures)),
    )

pub returns-then-is_binder : goal.returns-then-is_binder
returns-then-is_binder c =
    let a = c.args in
    let known = c.requires.1 (λ e. c.if-kind-number.false (c.term_field-kind.ensures ∙ e ∙ sym c.number.ensures)) in (
      c.push.ensures.0,
      omega arith,
      rw (add-one a.h, c.push.ensures.1, frame_pending a.l a.r 0 0 0 known.0.0)
          (sym (open_binder a.bundle.now a.l a.r (frames a.agenda.now a.h) c.term_field-kind.ensures (sym c.is_binder.ensures ∙ c.if-is_binder.true))),
    )

pub returns-then-kind-number-2 : goal.returns-then-kind-number-2
returns-then-kind-number-2 c =
    let a = c.args in
    let links = length a.bundle.now.links in (
      refl,
      omega arith,
      sym (open_none a.bundle.now a.l a.r (frames a.agenda.now a.h) c.term_field-kind.ensures
          (c.first_link-i.ensures ∙ ap (starts_at links) c.term_field.ensures) (c.first_link-j.ensures ∙ ap (starts_at links) c.term_field-2.ensures)
          (rw c.number-2.ensures at c.if-kind-number-2.true)),
    )

pub push-requires-2 : goal.push-requires-2
push-requires-2 c =
    let b = c.args.bundle.now in
    let h = c.requires in
    let known = h.1 (λ e. c.if-kind-number.false (c.term_field-kind.ensures ∙ e ∙ sym c.number.ensures)) in (
      h.0,
      omega (arith, known.0.1, c.terms.ensures),
      omega (arith, known.1.1, c.terms.ensures),
      omega (arith, walk_start_le b c.term_field.result c.first_link-i.result c.first_link-i.ensures, c.links.ensures),
      omega (arith, walk_start_le b c.term_field-2.result c.first_link-j.result c.first_link-j.ensures, c.links.ensures),
      omega arith,
    )

pub returns : goal.returns
returns c =
    let a = c.args in
    let links = length a.bundle.now.links in
    let known = c.requires.1 (λ e. c.if-kind-number.false (c.term_field-kind.ensures ∙ e ∙ sym c.number.ensures)) in (
      c.push-2.ensures.0,
      omega arith,
      rw (add-one a.h, c.push-2.ensures.1, frame_pending a.l a.r c.first_link-i.result c.first_link-j.result 0 known.0.0)
          (sym (open_some a.bundle.now a.l a.r (frames a.agenda.now a.h) c.term_field-kind.ensures
          (c.first_link-i.ensures ∙ ap (starts_at links) c.term_field.ensures) (c.first_link-j.ensures ∙ ap (starts_at links) c.term_field-2.ensures)
          (rw c.number-2.ensures at c.if-kind-number-2.false) (sym c.is_binder.ensures ∙ c.if-is_binder.false)
          (λ e. c.if-kind-number.false (e ∙ sym c.number.ensures)))),
    )
