-- `rules::is_image` meets its contract: one equation for each variant.
use Rattle.logic.specs.Rules.{is_image}
use Rattle.rules.proofs.rules.is_image.Goals as goal

pub returns-in-Own : goal.returns-in-Own
unfolding is_image
returns-in-Own c = rw c.in-Own.is

pub returns-in-Gives : goal.returns-in-Gives
unfolding is_image
returns-in-Gives c = rw c.in-Gives.is
