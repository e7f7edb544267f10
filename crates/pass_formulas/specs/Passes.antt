-- A pass over a text before a call (p, with the records b) and after it (q, b'): what PassGives says of its parts.
use Rattle.std.specs.Prelude.{ℕ, List}
use Rattle.bundle.specs.Bundle.{Bundle}
use Rattle.logic.specs.Terms.{Binder}
use Rattle.grammar.specs.Grammar.{Lexeme}
use Rattle.pass_formulas.specs.PassGives.{Gives, GivesUnder, GivesBound}
use Rattle.pass_formulas.specs.declared.one_pass.Pass.{Pass}

abbrev pub Passes : Pass → Bundle → List Lexeme → Pass → Bundle → Type 0
Passes p b ls q b' = Gives p.bundle.now p.text b p.stack ls q.text b' q.stack

abbrev pub PassesUnder : Pass → Bundle → Binder → Pass → Bundle → Type 0
PassesUnder p b k q b' = GivesUnder p.bundle.now p.text b p.stack k q.text b' q.stack

abbrev pub PassesBound : Pass → Bundle → ℕ → Pass → Bundle → Type 0
PassesBound p b h q b' = GivesBound p.bundle.now p.text b p.stack h q.text b' q.stack
