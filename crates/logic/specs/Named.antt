-- Kinds, entries and rules as the code names them; `None` for a number that is none.
use Rattle.std.specs.Prelude.{Option, None, Some}
use Rattle.logic.specs.declared.kinds.Binder.{Binder as BinderName}
use Rattle.logic.specs.declared.kinds.Binder.TheVariants.{ForAll, Exists, Choice}
use Rattle.logic.specs.declared.kinds.Kind.{Kind as KindName}
use Rattle.logic.specs.declared.kinds.Kind.TheVariants as name
use Rattle.logic.specs.declared.kinds.Entry.{Entry as EntryName}
use Rattle.logic.specs.declared.kinds.Entry.TheVariants.{Fixes, Replaces}
use Rattle.logic.specs.declared.rules.Rule.{Rule as RuleName}
use Rattle.logic.specs.declared.rules.Rule.TheVariants as rule
use Rattle.logic.specs.Terms.{Binder, forAll, exists, choice, Kind, variable, application, binder, letting, other}
use Rattle.logic.specs.Contexts.{Entry, fixing, replacing, noEntry}
use Rattle.logic.specs.Rules.{Rule, REFL, CONG, TRANS, BIND, LET, SKO_EXISTS, SKO_FOR_ALL, noRule}

abbrev pub binder_in : BinderName → Binder
binder_in ForAll = forAll
binder_in Exists = exists
binder_in Choice = choice

abbrev pub kind_in : KindName → Kind
kind_in name.Variable = variable
kind_in name.Application = application
kind_in (name.Binder q) = binder (binder_in q)
kind_in name.Let = letting

abbrev pub kind_named : Option KindName → Kind
kind_named None = other
kind_named (Some k) = kind_in k

abbrev pub entry_in : EntryName → Entry
entry_in Fixes = fixing
entry_in Replaces = replacing

abbrev pub entry_named : Option EntryName → Entry
entry_named None = noEntry
entry_named (Some e) = entry_in e

abbrev pub rule_in : RuleName → Rule
rule_in rule.Refl = REFL
rule_in rule.Cong = CONG
rule_in rule.Trans = TRANS
rule_in rule.Bind = BIND
rule_in rule.Let = LET
rule_in rule.SkoExists = SKO_EXISTS
rule_in rule.SkoForAll = SKO_FOR_ALL

abbrev pub rule_named : Option RuleName → Rule
rule_named None = noRule
rule_named (Some r) = rule_in r
