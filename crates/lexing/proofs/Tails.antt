-- A text from some byte on.
--     tail_self      from its first byte
--     tail_at        from byte k
--     tail_after     and from some byte of that on
use Prim.Native.Nat.{ℕ, ◌+◌, ◌≤◌}
use native.Mathlib.Omega.{arith}
use mathlib.Core.Path.{refl, ap, ◌∙◌}
use mathlib.Core.List.{List}
use lib.ListN.{length, drop, length-drop}
use lib.Seq.{drop-drop}
use Rattle.lexing.specs.Lexes.{Tail}

pub tail_self : (text : List ℕ) → Tail text text
tail_self text = (0, omega arith, refl)

pub tail_at : (text : List ℕ) (k : ℕ) → k ≤ length text → Tail text (drop k text)
tail_at text k le = (k, le, refl)

pub tail_after : {a b c : List ℕ} → Tail a b → Tail b c → Tail a c
tail_after {a} {b} {c} (k, le, e) (j, more, f) =
    let few = ap length e ∙ length-drop k a in
    (k + j, omega (arith, le, more, few), f ∙ ap (drop j) e ∙ drop-drop j k a)
