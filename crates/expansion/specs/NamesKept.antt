-- What keeping names comes to: a rule without lets all of whose bound variables are kept is its own expansion.
--     NamesKept        a term holds no let, and each binder in it has a kept variable
--     KeptIsItself     THE STATEMENT; proofs/ has it under the name `kept_is_itself`
use Rattle.std.specs.Prelude.{◌≡◌, true, [], length}
use Rattle.bundle.specs.Bundle.{Bundle}
use Rattle.logic.specs.Lists.{Number}
use Rattle.logic.specs.Terms.{Term, Terms, var, app, bind, let_in, none, more, tree}
use Rattle.logic.specs.Free.{Closed}
use Rattle.logic.specs.WellFormed.{TablesFormed}
use Rattle.expansion.specs.declared.Names.{Names}
use Rattle.expansion.specs.Names.{keeps}
use Rattle.expansion.specs.Visit.{expanded}

module _ (names : Names) (b : Bundle) where
  abbrev mutual
    pub NamesKept : Term → Type 0
    NamesKept (var x) = Unit {0}
    NamesKept (app f ts) = AllNamesKept ts
    NamesKept (bind q x t) = (keeps names b x ≡ true) × NamesKept t
    NamesKept (let_in xs ts t) = ⊥

    pub AllNamesKept : Terms → Type 0
    AllNamesKept none = Unit {0}
    AllNamesKept (more t ts) = NamesKept t × AllNamesKept ts

-- The right side that is written for a closed job is then the rule itself, the same term.
abbrev pub KeptIsItself : Type 0
KeptIsItself =
    (names : Names) (b : Bundle) → TablesFormed b → b.contexts ≡ [] → b.steps ≡ [] → Number (length b.terms) b.left → Closed (tree b b.left)
    → NamesKept names b (tree b b.left) → (expanded names b).right ≡ b.left
