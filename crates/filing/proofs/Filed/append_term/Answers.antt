-- `Filed::append_term` meets its contract: the index holds the new term too.
use native.Mathlib.Omega.{arith}
use Prim.Native.Nat.{suc, ◌+◌, ◌<◌}
use mathlib.Core.Path.{◌≡◌, sym, subst}
use lib.ListN.{length}
use Rattle.bundle.specs.Bundle.{Bundle}
use Rattle.bundle.specs.RecordWords.{as_term}
use Rattle.bundle.specs.Limits.{limits}
use Rattle.filing.specs.Filing.{Digested}
use Rattle.filing.proofs.FiledTerms.{term_indexed}
use Rattle.filing.proofs.Filed.append_term.Goals as goal

pub invariant_of-self : goal.invariant_of-self
invariant_of-self c =
    let a = c.args in
    let b = c.self.inside.scratch in
    let digested = subst (λ (x : Bundle). Digested x (as_term a.term) a.d) (sym c.self.view_is) c.requires.2 in
    let room : length b.terms < limits.terms = rw c.self.view_is c.requires.0 in
    let next : c.terms-t.result + 1 ≡ suc (length b.terms) = omega (arith, c.terms-t.ensures) in
    term_indexed (as_term a.term) c.self.invariant digested room next c.append_term.ensures c.file_term.ensures
