-- `image_of` meets its contract: one equation for each variant.
use mathlib.Core.Path.{sym, ap, ◌∙◌}
use Rattle.logic.specs.Contexts.{as_image}
use Rattle.images.proofs.images.image_of.Goals as goal

pub returns-in-Fixed : goal.returns-in-Fixed
unfolding as_image
returns-in-Fixed c = sym (ap as_image (sym c.mention_of-mention.ensures ∙ c.in-Fixed.is))

pub returns-in-Replaced : goal.returns-in-Replaced
unfolding as_image
returns-in-Replaced c = sym (ap as_image (sym c.mention_of-mention.ensures ∙ c.in-Replaced.is))

pub returns-in-Absent : goal.returns-in-Absent
unfolding as_image
returns-in-Absent c = sym (ap as_image (sym c.mention_of-mention.ensures ∙ c.in-Absent.is))
