-- `apply` meets its contract.
use mathlib.Core.Path.{◌≡◌, sym, ap, ◌∙◌}
use mathlib.Core.Bool.{true, false}
use lib.ListN.{drop}
use Rattle.std.proofs.lemmas.Option.{IfSome_then}
use Rattle.logic.specs.declared.Signature.{Signature}
use Rattle.logic.specs.Symbols.{kind_of_symbol, signature_of, result_sort}
use Rattle.scratch.specs.Stack.{halves_of}
use Rattle.reading.specs.Local.{accepts}
use Rattle.pass_terms.proofs.PairsPut.{application_put}
use Rattle.pass_terms.proofs.ends.apply.Goals as goal

pub returns : goal.returns
unfolding accepts signature_of kind_of_symbol
returns c =
    let a = c.args in
    let D = a.bundle.now in
    let is : c.signature_of-s.result ≡ signature_of D a.symbol = c.signature_of-s.ensures in
    let taken : accepts D a.symbol (halves_of false (drop a.height a.stack.now)) ≡ true =
    rw (← is, ← c.above.ensures) (sym c.takes.ensures ∙ c.if-not-takes.false) in
    let own : c.result_sort-sort.result ≡ result_sort D (signature_of D a.symbol) =
    c.result_sort-sort.ensures ∙ ap (λ (s : Signature). result_sort D s) is in
    IfSome_then c.lay.result c.lay.ensures (λ u l. application_put taken c.above-2.ensures c.cut.ensures c.in_ok-term.ensures own l)
