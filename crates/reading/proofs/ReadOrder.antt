-- The checks of declarations.
--     declarations_find        of all of them, the first failing one is `declarations_fault`
--     declarations_exactly     none fails exactly with well-formed declarations and long enough areas
use Prim.Native.Nat.{ℕ}
use mathlib.Core.Path.{◌≡◌, refl, ap, subst}
use mathlib.Core.Logic.{◌↔◌}
use mathlib.Core.Bool.{true}
use mathlib.Core.List.{List, []}
use lib.ListN.{length}
use borrow.Author.Tests.{eqb-true, eq-eqb}
use Rattle.std.proofs.lemmas.List.{nil_from_length}
use Rattle.bundle.specs.Bundle.{Bundle}
use Rattle.bundle.specs.File.{bundle_of}
use Rattle.logic.specs.Tests.{Fault}
use Rattle.logic.specs.Tests.{first_failing, fault, or_else, or_next}
use Rattle.logic.specs.Checks.{header_tests, header_fault, link_tests, link_fault, links_fault, symbol_tests, symbol_fault, symbols_fault, variable_tests, variable_fault}
use Rattle.logic.specs.Checks.{variables_fault}
use Rattle.logic.proofs.Tests.{passed_each, all_passed, failing_none, none_failing}
use Rattle.logic.proofs.Firsts.{none_bad, none_bad_first, next_both, both_next, next_nested}
use Rattle.logic.proofs.Headers.{header_exactly}
use Rattle.logic.proofs.Formed.{link_exactly, symbol_exactly, variable_exactly}
use Rattle.judgement.specs.Order.{checks_of}
use Rattle.judgement.proofs.Order.{Finds, finds_next, finds_tests, finds_section}
use Rattle.expansion.specs.Expansion.{long_enough}
use Rattle.expansion.specs.Demands.{LongEnough}
use Rattle.expansion.proofs.JobChecks.{long_exactly}
use Rattle.reading.specs.Reading.{is_declarations, last_tests, declarations_fault}
use Rattle.reading.specs.ReadOrder.{declaration_checks}
use Rattle.reading.specs.Demands.{DeclarationsFormed}

abbrev last_fault : Bundle → Fault
last_fault b = or_else (first_failing (last_tests b)) 0 (fault 0 0)

module _ (f : List ℕ) (out words sets : ℕ) where
  b : Bundle
  b = bundle_of f

  m : ℕ
  m = long_enough out words sets

  pub declarations_find : Finds (declaration_checks f out words sets) (declarations_fault f out words sets)
  unfolding declaration_checks declarations_fault checks_of b m
  declarations_find = subst (Finds (declaration_checks f out words sets)) in_a_row in_order
    where
      row : Fault
      row =
          or_next (or_else (header_fault f m 3) 0 (fault 0 0))
          (or_next (links_fault b) (or_next (symbols_fault b) (or_next (variables_fault b) (last_fault b))))

      in_order : Finds (declaration_checks f out words sets) row
      in_order =
          finds_next _ _ _ _ (finds_tests 0 (header_tests f m 3) refl)
          (finds_next _ _ _ _ (finds_section (link_tests b) (λ i. refl) (length b.links))
          (finds_next _ _ _ _ (finds_section (symbol_tests b) (λ i. refl) (length b.symbols))
          (finds_next _ _ _ _ (finds_section (variable_tests b) (λ i. refl) (length b.variables))
          (finds_tests 0 (last_tests b) refl))))

      in_a_row : row ≡ declarations_fault f out words sets
      in_a_row = simp next_nested

-- ---- 18

bare_exactly : (b : Bundle) → (is_declarations b ≡ true) ↔ ((b.terms ≡ []) × (b.contexts ≡ []) × (b.steps ≡ []) × (b.left ≡ 0) × (b.right ≡ 0))
bare_exactly b = (
  λ e.
      let t = passed_each _ e in (
        nil_from_length b.terms (eqb-true (length b.terms) 0 t.0),
        nil_from_length b.contexts (eqb-true (length b.contexts) 0 t.1.0),
        nil_from_length b.steps (eqb-true (length b.steps) 0 t.1.1.0),
        eqb-true b.left 0 t.1.1.1.0,
        eqb-true b.right 0 t.1.1.1.1.0,
      ),
  λ h.
      all_passed _ (
        eq-eqb (length b.terms) 0 (ap length h.0),
        (
          eq-eqb (length b.contexts) 0 (ap length h.1),
          (eq-eqb (length b.steps) 0 (ap length h.2), (eq-eqb b.left 0 h.3, (eq-eqb b.right 0 h.4, tt))),
        ),
      ),
)

-- ---- all of them

module _ (f : List ℕ) (out words sets : ℕ) where
  pub declarations_exactly : ((declarations_fault f out words sets).number ≡ 0) ↔ (DeclarationsFormed f × LongEnough out words sets)
  unfolding declarations_fault links_fault symbols_fault variables_fault
  declarations_exactly = (there, back)
    where
      b : Bundle
      b = bundle_of f

      m : ℕ
      m = long_enough out words sets

      after_variables : Fault
      after_variables = last_fault b

      after_symbols : Fault
      after_symbols = or_next (variables_fault b) after_variables

      after_links : Fault
      after_links = or_next (symbols_fault b) after_symbols

      after_header : Fault
      after_header = or_next (links_fault b) after_links

      there : (declarations_fault f out words sets).number ≡ 0 → DeclarationsFormed f × LongEnough out words sets
      there e =
          let (e₀, r₀) = next_both (fault (header_fault f m 3) 0) after_header e in
          let (e₁, r₁) = next_both (links_fault b) after_links r₀ in
          let (e₂, r₂) = next_both (symbols_fault b) after_symbols r₁ in
          let (e₃, r₃) = next_both (variables_fault b) after_variables r₂ in
          let (e₄, r₄) = next_both (fault (first_failing (last_tests b)) 0) (fault 0 0) r₃ in
          let good = (header_exactly f m 3).0 e₀ in
          let bare = (bare_exactly b).0 (failing_none (last_tests b) refl e₄).0 in (
            record {
              header = good.0;
              links = λ i n. (link_exactly b i).0 (none_bad (link_fault b) (length b.links) e₁ i n.0 n.1);
              symbols = λ i n. (symbol_exactly b i).0 (none_bad (symbol_fault b) (length b.symbols) e₂ i n.0 n.1);
              variables = λ i n. (variable_exactly b i).0 (none_bad (variable_fault b) (length b.variables) e₃ i n.0 n.1);
              terms = bare.0;
              contexts = bare.1;
              steps = bare.2;
              left = bare.3;
              right = bare.4;
            },
            (long_exactly out words sets).0 good.1,
          )

      back : DeclarationsFormed f × LongEnough out words sets → (declarations_fault f out words sets).number ≡ 0
      back (formed, long) =
          both_next (fault (header_fault f m 3) 0) after_header ((header_exactly f m 3).1 (formed.header, (long_exactly out words sets).1 long))
          (both_next (links_fault b) after_links
          (ap (λ (x : Fault). x.number)
          (none_bad_first (link_fault b) (length b.links) (λ i lo hi. (link_exactly b i).1 (formed.links i (lo, hi)))))
          (both_next (symbols_fault b) after_symbols
          (ap (λ (x : Fault). x.number)
          (none_bad_first (symbol_fault b) (length b.symbols) (λ i lo hi. (symbol_exactly b i).1 (formed.symbols i (lo, hi)))))
          (both_next (variables_fault b) after_variables
          (ap (λ (x : Fault). x.number)
          (none_bad_first (variable_fault b) (length b.variables) (λ i lo hi. (variable_exactly b i).1 (formed.variables i (lo, hi)))))
          (both_next (fault (first_failing (last_tests b)) 0) (fault 0 0)
          (none_failing (last_tests b) ((bare_exactly b).1 (formed.terms, formed.contexts, formed.steps, formed.left, formed.right), tt)) refl))))
