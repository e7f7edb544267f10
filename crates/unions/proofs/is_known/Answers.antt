-- `is_known` meets its contract: the definition.
use Rattle.unions.specs.Unions.{known}
use mathlib.Core.Path.{refl}
use Rattle.unions.proofs.is_known.Goals as goal

pub returns : goal.returns
unfolding known
returns c marks e = rw e refl
