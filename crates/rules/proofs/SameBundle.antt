-- A bundle that was handed out by the struct that holds it.
use mathlib.Core.Path.{◌≡◌, ap, ◌∙◌}
use Rattle.bundle.specs.Bundle.{Bundle}

pub along : {A : Type 0} {x : A} (f : Bundle → A) {b b' : Bundle} → b ≡ b' → x ≡ f b → x ≡ f b'
along f e h = h ∙ ap f e
