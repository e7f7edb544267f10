-- What a pair of terms must meet by itself, without its parts, by the kind of the left one's record.
use Rattle.std.specs.Prelude.{ℕ, Bool, false}
use Rattle.bundle.specs.Bundle.{Bundle, TermRecord}
use Rattle.logic.specs.declared.Image.{Image}
use Rattle.logic.specs.Terms.{Kind, kind_of, variable, application, binder, letting, other}
use Rattle.logic.specs.ReflWalk.{Crossed, variable_meets, application_meets, binder_meets, let_meets}

unfoldable pub meets_as : (ℕ → ℕ → Bool) → (ℕ → Image) → Bundle → Kind → TermRecord → Crossed → ℕ → Bool
meets_as free image b variable s crossed r = variable_meets free image b crossed s.a r
meets_as free image b application s crossed r = application_meets b s r
meets_as free image b (binder q) s crossed r = binder_meets b s r
meets_as free image b letting s crossed r = let_meets b s r
meets_as free image b other s crossed r = false

unfoldable pub meets_by : (ℕ → ℕ → Bool) → (ℕ → Image) → Bundle → TermRecord → Crossed → ℕ → Bool
unfolding meets_as kind_of
meets_by free image b s crossed r = meets_as free image b (kind_of s.kind) s crossed r
