-- `Earlier::none` meets its contract.
use mathlib.Core.Path.{refl}
use Rattle.bundle.proofs.Filed.{filed_none}
use Rattle.bundle.proofs.LinkNotes.{zeros}
use Rattle.duplicates.proofs.earlier.Earlier.none.Goals as goal

pub returns : goal.returns
returns c = (λ b. filed_none _ _ _ (zeros 2048).zero c.requires.zero, refl)
