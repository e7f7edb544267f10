-- The checks of the declarations, as the code makes them.
--     bare_is                                          18, by the counts and words
--     header_here, section_here, not_bare, all_hold    1 to 4, 5 and 6, 18 and none
use Prim.Native.Nat.{ℕ}
use mathlib.Core.Path.{◌≡◌, refl, sym, ap, ◌∙◌}
use mathlib.Core.Bool.{Bool, true, false, cond, ◌&&◌}
use mathlib.Core.List.{List}
use lib.ListN.{length}
use lib.Dec.{eqb}
use Rattle.bundle.specs.Bundle.{Bundle}
use Rattle.bundle.specs.File.{bundle_of}
use Rattle.logic.specs.Tests.{Fault}
use Rattle.logic.specs.Tests.{passed, first_failing, fault, or_else}
use Rattle.logic.specs.Checks.{header_fault}
use Rattle.logic.proofs.Firsts.{or_else_on, or_else_here}
use Rattle.declarations.specs.Sections.{declared_fault}
use Rattle.declarations.proofs.Sections.{sections_here, sections_on}
use Rattle.expansion.specs.Expansion.{long_enough}
use Rattle.reading.specs.Reading.{is_declarations, last_tests, declarations_fault}

pub bare_is : (b : Bundle) → eqb (length b.terms) 0 && eqb (length b.contexts) 0 && eqb (length b.steps) 0 && eqb b.left 0 && eqb b.right 0 ≡ is_declarations b
unfolding passed
bare_is b = refl

-- what 18 says
last_fault : Bundle → Fault
last_fault b = or_else (first_failing (last_tests b)) 0 (fault 0 0)

last_is : (b : Bundle) → last_fault b ≡ cond (is_declarations b) (fault 0 0) (fault 18 0)
unfolding last_fault first_failing or_else
last_is b = go (is_declarations b)
  where
    go : (p : Bool) → or_else (cond p 0 18) 0 (fault 0 0) ≡ cond p (fault 0 0) (fault 18 0)
    go true = refl
    go false = refl

module _ (f : List ℕ) (out words sets : ℕ) where
  pub header_here : (n : ℕ) → n ≡ header_fault f (long_enough out words sets) 3 → (n ≡ 0 → ⊥) → fault n 0 ≡ declarations_fault f out words sets
  unfolding declarations_fault
  header_here n e ne = rw (← e) (sym (or_else_here n 0 _ ne))

  -- 1 to 4 do not fail; r is what 5 and 6 find in the bundle b that the code has opened
  module _ (none : header_fault f (long_enough out words sets) 3 ≡ 0) {b : Bundle} (opened : b ≡ bundle_of f) (r : Fault)
      (found : r ≡ declared_fault b) where
    found_is : r ≡ declared_fault (bundle_of f)
    found_is = found ∙ ap declared_fault opened

    pub section_here : (r.number ≡ 0 → ⊥) → r ≡ declarations_fault f out words sets
    unfolding declarations_fault last_fault
    section_here ne = sections_here (bundle_of f) (last_fault (bundle_of f)) r found_is ne ∙ sym (or_else_on _ 0 _ none)

    last_left : r.number ≡ 0 → last_fault (bundle_of f) ≡ declarations_fault f out words sets
    unfolding declarations_fault last_fault
    last_left z = sections_on (bundle_of f) (last_fault (bundle_of f)) r found_is z ∙ sym (or_else_on _ 0 _ none)

    -- p is what the code answers for 18
    module _ (z : r.number ≡ 0) (p : Bool) (said : p ≡ is_declarations b) where
      by_test : cond p (fault 0 0) (fault 18 0) ≡ declarations_fault f out words sets
      by_test =
          ap (λ (q : Bool). cond q (fault 0 0) (fault 18 0)) (said ∙ ap (λ (b : Bundle). is_declarations b) opened)
          ∙ sym (last_is (bundle_of f)) ∙ last_left z

      pub not_bare : p ≡ false → fault 18 0 ≡ declarations_fault f out words sets
      not_bare e = ap (λ (q : Bool). cond q (fault 0 0) (fault 18 0)) (sym e) ∙ by_test

      pub all_hold : p ≡ true → fault 0 0 ≡ declarations_fault f out words sets
      all_hold e = ap (λ (q : Bool). cond q (fault 0 0) (fault 18 0)) (sym e) ∙ by_test
