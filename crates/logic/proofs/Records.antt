-- Records from their fields, for bundles that are written out.
use Prim.Native.Nat.{ℕ}
use Rattle.bundle.specs.Bundle.{Symbol, Link, TermRecord, Context, Step}

abbrev pub symbol : ℕ → ℕ → Symbol
symbol r ss = record { result = r; sorts = ss }

abbrev pub link : ℕ → ℕ → Link
link u n = record { value = u; next = n }

abbrev pub term : ℕ → ℕ → ℕ → ℕ → TermRecord
term k a b c = record { kind = k; a = a; b = b; c = c }

abbrev pub context : ℕ → ℕ → ℕ → ℕ → Context
context k a b c = record { kind = k; a = a; b = b; parent = c }

abbrev pub step : ℕ → ℕ → ℕ → ℕ → ℕ → Step
step k c l r ps = record { rule = k; context = c; left = l; right = r; premises = ps }
