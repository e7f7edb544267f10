-- `fitted` meets its contract: zeros are room for the unions of lists, of which none is known yet.
use native.Mathlib.Omega.{arith}
use mathlib.Core.Path.{refl}
use Rattle.bundle.proofs.Walks.{walk_nil}
use Rattle.unions.proofs.Unions.{unions_none}
use Rattle.free_variables.proofs.fitted.Goals as goal

pub free_terms-requires : goal.free_terms-requires
free_terms-requires g c =
    let p = c.requires in
    let b = c.args.bundle.now in
    (p.0, p.1, p.2, unions_none b c.args.n g.row.WORDS g.row.MARKS (walk_nil b 0 refl) p.5 (omega (arith, p.3)))
