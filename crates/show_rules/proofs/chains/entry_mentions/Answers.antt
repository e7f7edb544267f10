-- `chains::entry_mentions` meets its contract, by the kind of the entry.
use native.Mathlib.Omega.{arith}
use mathlib.Core.Path.{◌≡◌}
use Rattle.logic.specs.Contexts.{entry_of, fixing, replacing, noEntry}
use Rattle.logic.proofs.Entries.{none_entry, number_of_entry}
use Rattle.show_rules.proofs.Mentions.{not_fixed, not_replaced, no_entry}
use Rattle.show_rules.proofs.chains.entry_mentions.Goals as goal

pub returns-in-Some-Fixes : goal.returns-in-Some-Fixes
returns-in-Some-Fixes c =
    let kind = c.context_field-kind in
    let fixes : entry_of kind.result ≡ fixing = rw (c.of.ensures, c.in-Some-Fixes.is, c.in-Some-Fixes.field-0-is) in
    not_fixed _ _ _ _ _ kind.ensures c.context_field-first.ensures (number_of_entry _ fixing fixes (λ z. cc))

pub returns-in-Some-Replaces : goal.returns-in-Some-Replaces
returns-in-Some-Replaces c =
    let kind = c.context_field-kind in
    let replaces : entry_of kind.result ≡ replacing = rw (c.of.ensures, c.in-Some-Replaces.is, c.in-Some-Replaces.field-0-is) in
    let two = number_of_entry _ replacing replaces (λ z. cc) in
    not_replaced _ _ _ _ _ kind.ensures c.context_field-first.ensures (λ one. omega (arith, two, one)) c.has_item.ensures

pub returns-in-None : goal.returns-in-None
returns-in-None c =
    let kind = c.context_field-kind in
    let none : entry_of kind.result ≡ noEntry = rw (c.of.ensures, c.in-None.is) in
    λ _. no_entry _ _ _ _ _ kind.ensures c.context_field-first.ensures (none_entry none).0 (none_entry none).1
