-- The steps that a step may refer to.
use Rattle.std.specs.Prelude.{ℕ, List}
use Rattle.bundle.specs.Bundle.{Bundle}

-- the steps of a bundle, and a bed of others, five words each
pub record Taken : Type 0 where
  pub bundle : Bundle
  pub bed : List ℕ
