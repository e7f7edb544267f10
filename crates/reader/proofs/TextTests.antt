-- What refuses a text, as the code finds it.
--     scan_refuses     19 or 20
--     scan_passes      neither, and what is said of the sorts
use Prim.Native.Nat.{ℕ}
use native.Mathlib.Omega.{arith}
use mathlib.Core.Path.{◌≡◌, refl, sym, ap, ◌∙◌}
use mathlib.Core.Bool.{Bool, cond}
use mathlib.Core.List.{List}
use lib.ListN.{length}
use Rattle.bundle.specs.Bundle.{Bundle}
use Rattle.logic.specs.Tests.{Fault, fault}
use Rattle.grammar.specs.Names.{Name, Resolved, resolved, unread_at, unknown_at, resolve}
use Rattle.grammar.proofs.NamesExact.{resolved_exactly}
use Rattle.reading.specs.Called.{known_in}
use Rattle.lexing.proofs.NumeralLaws.{counts_suffice}
use Rattle.spots.specs.Judgement.{declared_by, verdict_of}
use Rattle.node_tests.specs.Tests.{Judges}
use Rattle.reader.specs.Texts.{text_fault}

module _ (D : Bundle) where
  -- the counts say which names are known
  known_at : (x : Name) → declared_by (length D.symbols) (length D.variables) x ≡ known_in D x
  unfolding declared_by known_in
  known_at x = sym ((counts_suffice D x.spelled).known x.place)

  known_is : declared_by (length D.symbols) (length D.variables) ≡ known_in D
  known_is = λ i x. known_at x i

  -- v is the verdict
  module _ (text : List ℕ) (v : Fault) (told : v ≡ verdict_of (resolve (declared_by (length D.symbols) (length D.variables)) text)) where
    told_is : v ≡ verdict_of (resolve (known_in D) text)
    told_is = told ∙ ap (λ (known : Name → Bool). verdict_of (resolve known text)) known_is

    refuses : (r : Resolved) → ((verdict_of r).number ≡ 0 → ⊥) → verdict_of r ≡ text_fault D r
    unfolding verdict_of text_fault
    refuses (resolved φ) ne = absurd (ne refl)
    refuses (unread_at n) ne = refl
    refuses (unknown_at n) ne = refl

    pub scan_refuses : (v.number ≡ 0 → ⊥) → v ≡ text_fault D (resolve (known_in D) text)
    scan_refuses ne = told_is ∙ refuses (resolve (known_in D) text) (λ z. ne (ap (λ (x : Fault). x.number) told_is ∙ z))

    -- p is what is said of the sorts
    module _ (p : Bool) (judged : Judges D text p) where
      passes : (r : Resolved) → resolve (known_in D) text ≡ r → (verdict_of r).number ≡ 0 → cond p (fault 0 0) (fault 8 0) ≡ text_fault D r
      unfolding verdict_of text_fault
      passes (resolved φ) e z =
          let reads = (resolved_exactly (known_in D) text φ).0 e in
          ap (λ (q : Bool). cond q (fault 0 0) (fault 8 0)) (judged φ reads.0 reads.1)
      passes (unread_at n) e z = absurd (omega arith)
      passes (unknown_at n) e z = absurd (omega arith)

      pub scan_passes : v.number ≡ 0 → cond p (fault 0 0) (fault 8 0) ≡ text_fault D (resolve (known_in D) text)
      scan_passes z = passes (resolve (known_in D) text) refl (sym (ap (λ (x : Fault). x.number) told_is) ∙ z)
