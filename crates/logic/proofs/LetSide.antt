-- LET's printed side follows in a well-formed bundle.
--     let_printed     THE THEOREM: every instance of LET has the printed side
use mathlib.Core.Path.{◌≡◌}
use Prim.Native.Nat.{ℕ}
use native.Mathlib.Omega.{arith}
use Rattle.logic.specs.Rules.{LET}
use Rattle.logic.specs.Instance.{Instance, by_refl, by_cong, by_trans, by_bind, by_let, by_sko_exists, by_sko_for_all, LetAsPrinted}
use Rattle.logic.specs.Statements.{LetPrinted}
use Rattle.logic.proofs.Images.{replaced_settled}

pub let_printed : LetPrinted
let_printed b well Γ left right premises = go
  where
    go : Instance b LET Γ left right premises → LetAsPrinted b Γ left right premises
    go (by_refl r p h) = absurd (let o : ◌≡◌ {A = ℕ} 0 1 = cc in omega arith)
    go (by_cong r f ts us l e s) = absurd (let o : ◌≡◌ {A = ℕ} 0 1 = cc in omega arith)
    go (by_trans r p q m e s t h) = absurd (let o : ◌≡◌ {A = ℕ} 0 1 = cc in omega arith)
    go (by_bind r Q x y φ ψ p Δ Θ l e pr s re fi n m) = absurd (let o : ◌≡◌ {A = ℕ} 0 1 = cc in omega arith)
    go (by_let r xs rs ss t ps p Δ l e says body rep) = record {
      variables = xs;
      bound = rs;
      carried = ss;
      body = t;
      earlier = ps;
      last = p;
      inner = Δ;
      is_let = l;
      premises_are = e;
      bound_say = says;
      body_says = body;
      replacing = rep;
      side = replaced_settled b well rep;
    }
    go (by_sko_exists r x φ p Δ l e s rep) = absurd (let o : ◌≡◌ {A = ℕ} 0 1 = cc in omega arith)
    go (by_sko_for_all r x φ p Δ l e s rep) = absurd (let o : ◌≡◌ {A = ℕ} 0 1 = cc in omega arith)
