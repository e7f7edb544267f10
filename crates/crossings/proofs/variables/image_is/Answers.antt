-- `variables::image_is` meets its contract: one equation for each variant.
use mathlib.Core.Path.{sym, ◌∙◌}
use Rattle.logic.specs.ReflWalk.{image_is}
use Rattle.crossings.proofs.variables.image_is.Goals as goal

pub returns-in-Own : goal.returns-in-Own
unfolding image_is
returns-in-Own c = c.is_variable.ensures ∙ sym (rw c.in-Own.is)

pub returns-in-Gives : goal.returns-in-Gives
unfolding image_is
returns-in-Gives c = rw c.in-Gives.is
