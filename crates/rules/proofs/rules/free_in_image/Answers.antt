-- `rules::free_in_image` meets its contract: one equation for each variant.
use Rattle.logic.specs.Rules.{free_in_image_by}
use Rattle.rules.proofs.rules.free_in_image.Goals as goal

pub returns-in-Own : goal.returns-in-Own
unfolding free_in_image_by
returns-in-Own c = rw c.in-Own.is

pub returns-in-Gives : goal.returns-in-Gives
unfolding free_in_image_by
returns-in-Gives c = rw (c.in-Gives.is, c.is_free.ensures)
