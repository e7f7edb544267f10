-- The terms and variables of parts, and what words stand for beside declarations.
--     terms_arguments, terms_pairs, variables_pairs     parts are what they are spelled as
--     terms_count                                       a term for each part
--     variable_called_lem, symbol_called_lem                    names, by the counts of the declarations
--     constant_sort                                     the sort of true and false is truth
use Prim.Native.Nat.{ℕ, suc}
use mathlib.Core.Path.{◌≡◌, refl, sym, ap}
use mathlib.Core.Bool.{Bool, true, false, cond}
use mathlib.Core.List.{List, [], ◌∷◌, map}
use lib.ListN.{length}
use Rattle.bundle.specs.Bundle.{Bundle}
use Rattle.logic.specs.Symbols.{truth_sort, signature_of, result_sort, kind_of_symbol, symbol_kind, signature}
use Rattle.logic.specs.Terms.{more}
use Rattle.grammar.specs.Grammar.{Formulas, no_formula, and_formula, Bindings, no_binding, and_binding}
use Rattle.reading.specs.Called.{variable_called, symbol_called}
use Rattle.reading.specs.Local.{plain, plain_all, plain_bound, bound_names}
use Rattle.lexing.specs.Counted.{variable_among, symbol_among}
use Rattle.lexing.proofs.NumeralLaws.{counts_suffice}
use Rattle.heads.specs.Places.{Part, arguments, pairs}
use Rattle.formulas.specs.Pending.{count}
use Rattle.formulas.specs.ReadGives.{terms_of, variable_of}

pub terms_arguments : (D : Bundle) (φs : Formulas) → terms_of D (arguments φs) ≡ plain_all D φs
unfolding terms_of arguments plain
terms_arguments D no_formula = refl
terms_arguments D (and_formula φ φs) = ap (more (plain D φ)) (terms_arguments D φs)

pub terms_pairs : (D : Bundle) (xs : Bindings) → terms_of D (pairs xs) ≡ plain_bound D xs
unfolding terms_of pairs plain
terms_pairs D no_binding = refl
terms_pairs D (and_binding x φ xs) = ap (more (plain D φ)) (terms_pairs D xs)

pub variables_pairs : (D : Bundle) (xs : Bindings) → map (variable_of D true) (pairs xs) ≡ bound_names D xs
unfolding pairs bound_names
variables_pairs D no_binding = refl
variables_pairs D (and_binding x φ xs) = ap (λ (vs : List ℕ). variable_called D x ∷ vs) (variables_pairs D xs)

pub terms_count : (D : Bundle) (ps : List Part) → count (terms_of D ps) ≡ length ps
unfolding count terms_of
terms_count D [] = refl
terms_count D (p ∷ ps) = ap suc (terms_count D ps)

-- ---- names

pub variable_called_lem : (D : Bundle) (w : List ℕ) → variable_among (length D.variables) w ≡ variable_called D w
variable_called_lem D w = sym (counts_suffice D w).variable

pub symbol_called_lem : (D : Bundle) (w : List ℕ) → symbol_among (length D.symbols) w ≡ symbol_called D w
symbol_called_lem D w = sym (counts_suffice D w).symbol

-- ---- true and false

pub constant_sort : (D : Bundle) (v : Bool) → result_sort D (signature_of D (cond v 1 2)) ≡ truth_sort
unfolding result_sort signature_of kind_of_symbol symbol_kind signature
constant_sort D true = refl
constant_sort D false = refl
