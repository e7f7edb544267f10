-- `Kept::mark_term` meets its contract: by the kind of the record.
use mathlib.Core.Path.{sym, ◌∙◌}
use Rattle.names.proofs.Marks.{after_binder, after_let, after_other}
use Rattle.names.proofs.Kept.mark_term.Goals as goal

pub returns-then-is_binder : goal.returns-then-is_binder
returns-then-is_binder c x up =
    let binder = rw c.term_field-kind.ensures at (sym c.is_binder.ensures ∙ c.if-is_binder.true) in
    c.bind.ensures x up ∙ rw c.term_field-first.ensures (sym (after_binder _ x _ _ binder))

pub returns-then-kind-number : goal.returns-then-kind-number
returns-then-kind-number c x up =
    let none = rw c.term_field-kind.ensures at (sym c.is_binder.ensures ∙ c.if-is_binder.false) in
    let kind = sym c.term_field-kind.ensures ∙ c.if-kind-number.true ∙ c.number.ensures in
    c.list_all.ensures x up ∙ rw c.term_field-first.ensures (sym (after_let _ x _ _ none kind))

pub returns-else-kind-number : goal.returns-else-kind-number
returns-else-kind-number c x up =
    let none = rw c.term_field-kind.ensures at (sym c.is_binder.ensures ∙ c.if-is_binder.false) in
    sym (after_other _ x _ _ none (λ e. c.if-kind-number.false (c.term_field-kind.ensures ∙ e ∙ sym c.number.ensures)))
