-- `digests::Digest::mixed` meets its contract: the definition, which is small.
use Rattle.bundle.specs.Filed.{mix}
use Rattle.bundle.proofs.digests.Digest.mixed.Goals as goal

pub returns : goal.returns
unfolding mix
returns c = rw (c.self.view_is)
