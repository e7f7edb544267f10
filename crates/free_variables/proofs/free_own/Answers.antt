-- `free_own` meets its contract: one law for each kind of term, from what is known once its set is cleared.
use mathlib.Core.Path.{◌≡◌, refl, ap, ◌∙◌}
use mathlib.Core.List.{List}
use Prim.Native.Nat.{ℕ, ◌*◌, ◌≤◌}
use lib.ListN.{length}
use Rattle.bundle.specs.Bundle.{Bundle, term_of}
use Rattle.sets.specs.Sets.{cleared}
use Rattle.unions.specs.Put.{SetRoom}
use Rattle.unions.proofs.ByKind.{Ready, by_variable, by_unknown, by_application, by_binder, by_let, by_other}
use Rattle.logic.specs.Named.{kind_in, binder_in}
use Rattle.free_variables.proofs.free_own.Goals as goal

ready : (b : Bundle) {w v : List ℕ} {n t at k a y z : ℕ} → length b.variables ≤ 64 * n → SetRoom w n t at → k ≡ (term_of b t).kind
    → a ≡ (term_of b t).a → y ≡ (term_of b t).b → z ≡ (term_of b t).c → v ≡ cleared w at n → Ready b (length b.variables) w v n t at k a y z
ready b enough room kind first second third clear = record {
  variables = refl;
  enough = enough;
  room = room;
  kind = kind;
  first = first;
  second = second;
  third = third;
  clear = clear;
}

pub returns-in-Some-Application : goal.returns-in-Some-Application
returns-in-Some-Application c = by_application (ready c.args.bundle.now c.requires.1 c.requires.0 c.term_field-kind.ensures c.term_field-first.ensures
    c.term_field-second.ensures c.term_field-third.ensures c.clear.ensures) (c.in-Some-Application.ensures ∙ ap kind_in c.in-Some-Application.field-0-is)

pub returns-then-first-variables : goal.returns-then-first-variables
returns-then-first-variables c =
    by_variable (ready c.args.bundle.now c.requires.1 c.requires.0 c.term_field-kind.ensures c.term_field-first.ensures
    c.term_field-second.ensures c.term_field-third.ensures c.clear.ensures) c.insert.new.area (c.in-Some-Variable.ensures ∙ ap kind_in c.in-Some-Variable.field-0-is) (rw c.variables.ensures.0 at c.if-first-variables.true) c.insert.ensures

pub returns-else-first-variables : goal.returns-else-first-variables
returns-else-first-variables c =
    by_unknown (ready c.args.bundle.now c.requires.1 c.requires.0 c.term_field-kind.ensures c.term_field-first.ensures
    c.term_field-second.ensures c.term_field-third.ensures c.clear.ensures) (c.in-Some-Variable.ensures ∙ ap kind_in c.in-Some-Variable.field-0-is) (rw c.variables.ensures.0 at c.if-first-variables.false)

pub returns-in-Some-Binder : goal.returns-in-Some-Binder
returns-in-Some-Binder c =
    by_binder (ready c.args.bundle.now c.requires.1 c.requires.0 c.term_field-kind.ensures c.term_field-first.ensures
    c.term_field-second.ensures c.term_field-third.ensures c.clear.ensures) (binder_in c.in-Some-Binder.field-0-0) c.unite_term.new.area c.remove.new.area (c.in-Some-Binder.ensures ∙ ap kind_in c.in-Some-Binder.field-0-is) c.unite_term.ensures c.remove.ensures

pub returns-in-Some-Let : goal.returns-in-Some-Let
returns-in-Some-Let c =
    by_let (ready c.args.bundle.now c.requires.1 c.requires.0 c.term_field-kind.ensures c.term_field-first.ensures
    c.term_field-second.ensures c.term_field-third.ensures c.clear.ensures) c.unite_term-in-Some-Let.new.area c.remove_list.new.area (c.in-Some-Let.ensures ∙ ap kind_in c.in-Some-Let.field-0-is)
    c.unite_term-in-Some-Let.ensures c.remove_list.ensures

pub returns-in-None : goal.returns-in-None
returns-in-None c = by_other (ready c.args.bundle.now c.requires.1 c.requires.0 c.term_field-kind.ensures c.term_field-first.ensures
    c.term_field-second.ensures c.term_field-third.ensures c.clear.ensures) c.in-None.ensures
