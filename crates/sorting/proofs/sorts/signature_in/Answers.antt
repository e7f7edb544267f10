-- `sorts::signature_in` meets its contract: each arm of the match is a range of the definition, which asks for the numbers upwards.
use native.Mathlib.Omega.{arith}
use Prim.Native.Nat.{ℕ, ◌+◌, ◌-◌, ◌<◌, ◌≤◌}
use mathlib.Core.Path.{◌≡◌, refl, sym, ◌∙◌}
use mathlib.Core.Bool.{Bool, true, false, cond}
use lib.Dec.{leb}
use borrow.Author.Tests.{lt-leb, le-leb}
use Rattle.logic.specs.declared.Signature.{Signature}
use Rattle.logic.specs.declared.Signature.TheVariants.{BuiltIn}
use Rattle.logic.specs.Symbols.{SymbolKind, reserved, declared, undeclared, symbol_kind, signature}
use Rattle.sorting.proofs.sorts.signature_in.Goals as goal

-- two kinds of one signature
either : (p : Bool) (m n : SymbolKind) (s : Signature) → signature m ≡ s → signature n ≡ s → signature (cond p m n) ≡ s
either true m n s a b = a
either false m n s a b = b

module _ (symbols f : ℕ) where
  -- the numbers below f are passed
  passed : {n : ℕ} → n < f → (k : ℕ) → k ≤ n → leb f k ≡ false
  passed h k l = lt-leb f k (omega arith)

  constants : 0 < f → f < 3 → signature (symbol_kind symbols f) ≡ BuiltIn 0 0 0
  unfolding symbol_kind signature
  constants h l = rw (passed h 0 (omega arith), le-leb f 2 (omega arith)) (either (leb f 1) _ _ _ refl refl)

  connectives : 3 < f → f < 8 → signature (symbol_kind symbols f) ≡ BuiltIn 2 0 0
  unfolding symbol_kind signature
  connectives h l =
      let p : (k : ℕ) → k ≤ 3 → leb f k ≡ false = passed h in
      rw (p 0 (omega arith), p 1 (omega arith), p 2 (omega arith), p 3 (omega arith), le-leb f 7 (omega arith))
      (either (leb f 4) _ _ _ refl (either (leb f 5) _ _ _ refl (either (leb f 6) _ _ _ refl refl)))

  above : 8 < f → symbol_kind symbols f ≡ cond (leb f 32) reserved (cond (leb f (32 + symbols)) (declared (f - 32)) undeclared)
  unfolding symbol_kind
  above h =
      let p : (k : ℕ) → k ≤ 8 → leb f k ≡ false = passed h in
      rw (
        p 0 (omega arith),
        p 1 (omega arith),
        p 2 (omega arith),
        p 3 (omega arith),
        p 4 (omega arith),
        p 5 (omega arith),
        p 6 (omega arith),
        p 7
            (omega arith),
        p 8 (omega arith),
      )

-- declared
pub returns-then-f-symbols : goal.returns-then-f-symbols
unfolding signature
returns-then-f-symbols c =
    let a = c.args in
    rw (above a.symbols a.f (omega arith), lt-leb a.f 32 (omega arith), le-leb a.f (32 + a.symbols) c.if-f-symbols.true)

-- 3 and 8
pub returns-in-3 : goal.returns-in-3
unfolding symbol_kind signature
returns-in-3 c = c.built_in.ensures ∙ rw c.in-3.is

pub returns-in-8 : goal.returns-in-8
unfolding symbol_kind signature
returns-in-8 c = c.built_in-in-8.ensures ∙ rw c.in-8.is

-- 1 and 2
pub returns-in-1 : goal.returns-in-1
returns-in-1 c =
    let a = c.args in
    c.built_in-in-1.ensures ∙ sym (constants a.symbols a.f (omega arith) (omega arith))

-- 4 to 7
pub returns-in-4-to-7 : goal.returns-in-4-to-7
returns-in-4-to-7 c =
    let a = c.args in
    c.built_in-in-4-to-7.ensures ∙ sym (connectives a.symbols a.f (omega arith) (omega arith))

-- not declared
pub returns-else-f-symbols : goal.returns-else-f-symbols
unfolding signature
returns-else-f-symbols c =
    let a = c.args in
    rw (above a.symbols a.f (omega arith), lt-leb a.f 32 (omega arith), lt-leb a.f (32 + a.symbols) c.if-f-symbols.false)

-- 0
pub returns-in-0 : goal.returns-in-0
unfolding symbol_kind signature
returns-in-0 c =
    let zero : c.args.f ≡ 0 = omega arith in
    rw zero

-- 9 to 32
pub returns-in-0-2 : goal.returns-in-0-2
unfolding signature
returns-in-0-2 c =
    let a = c.args in
    rw (above a.symbols a.f (omega arith), le-leb a.f 32 (omega arith))
