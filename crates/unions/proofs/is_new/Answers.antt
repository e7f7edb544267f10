-- `is_new` meets its contract: the definition.
use Rattle.unions.specs.Unions.{unmet}
use mathlib.Core.Path.{refl}
use Rattle.unions.proofs.is_new.Goals as goal

pub returns : goal.returns
unfolding unmet
returns c marks e = rw e refl
