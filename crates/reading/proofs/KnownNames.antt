-- Names of declared symbols and variables: the tests and the propositions.
--     declared_signature, past_signature    a declared symbol has a signature, a number past the last has none
--     called_exactly      THE LAW: what is called so has the number that the name spells
--     known_exactly       THE LAW: a name passes the test exactly where it is a declared one of the kind due
--     variable_number     what a variable's name names is a variable
--     symbol_signature    what a symbol's name names has a signature
use Prim.Native.Nat.{ℕ, ◌+◌, ◌-◌, ◌≤◌, ◌<◌}
use native.Mathlib.Omega.{arith}
use mathlib.Core.Path.{◌≡◌, refl, sym, ap, ◌∙◌}
use mathlib.Core.Logic.{◌↔◌, ◌⊎◌, inl, inr}
use mathlib.Core.Bool.{Bool, true, false, cond, not, ◌&&◌, ◌||◌}
use mathlib.Core.List.{List, [], ◌∷◌}
use lib.ListN.{length}
use lib.Dec.{eqb, leb, ltb}
use borrow.Author.Tests.{eqb-true, eqb-false, eq-eqb, ne_eqb, leb-true, le-leb, lt-leb, ltb-true, lt-ltb, not-true}
use Rattle.std.proofs.lemmas.Bool.{or_cases, and_from, or_left, or_right, not_from_false}
use Rattle.bundle.specs.Bundle.{Bundle}
use Rattle.bundle.specs.Lists.{numbers, each}
use Rattle.logic.specs.declared.Signature.TheVariants.{Declared, Unknown}
use Rattle.logic.specs.Lists.{All, Number}
use Rattle.logic.specs.Symbols.{declared, undeclared, symbol_kind, kind_of_symbol, signature, signature_of}
use Rattle.logic.proofs.Tests.{and_left, and_right, numbers_of_lem, numbers_in}
use Rattle.logic.proofs.Exactly.{each_exactly}
use Rattle.grammar.specs.Names.{Place, either, symbolOnly, variableOnly}
use Rattle.reading.specs.Called.{decimal, is_digit, is_numeral, number_after, variable_called, symbol_called, known_as, known_in, Digit, Numeral, Spells}
use Rattle.reading.specs.Called.{VariableName, SymbolName, DeclaredAs, KnownExactly, CalledExactly}

-- ---- signatures by number

-- past the symbols that are built in
high_signature : (b : Bundle) (f : ℕ) → 33 ≤ f → signature_of b f ≡ signature (cond (leb f (32 + length b.symbols)) (declared (f - 32)) undeclared)
unfolding signature_of kind_of_symbol symbol_kind
high_signature b f lo =
    simp (
      lt-leb f 0 (omega arith),
      lt-leb f 1 (omega arith),
      lt-leb f 2 (omega arith),
      lt-leb f 3 (omega arith),
      lt-leb f 4 (omega arith),
      lt-leb f 5 (omega arith),
      lt-leb f 6 (omega arith),
      lt-leb f 7 (omega arith),
      lt-leb f 8 (omega arith),
      lt-leb f 32 (omega arith),
    )

pub declared_signature : (b : Bundle) (f : ℕ) → 33 ≤ f → f ≤ 32 + length b.symbols → signature_of b f ≡ Declared (f - 32)
unfolding signature
declared_signature b f lo hi = high_signature b f lo ∙ rw (le-leb f (32 + length b.symbols) hi)

pub past_signature : (b : Bundle) (f : ℕ) → 32 + length b.symbols < f → signature_of b f ≡ Unknown
unfolding signature
past_signature b f h = high_signature b f (omega arith) ∙ rw (lt-leb f (32 + length b.symbols) h)

-- ---- numbers after a letter

digit_exactly : (c : ℕ) → (is_digit c ≡ true) ↔ Digit c
digit_exactly c = (
  λ e. (leb-true 48 c (and_left (leb 48 c) (leb c 57) e), leb-true c 57 (and_right (leb 48 c) (leb c 57) e)),
  λ h. and_from (leb 48 c) (leb c 57) (le-leb 48 c h.0) (le-leb c 57 h.1),
)

numeral_exactly : (ds : List ℕ) → (is_numeral ds ≡ true) ↔ Numeral ds
unfolding is_numeral
numeral_exactly [] = (λ e. let clash : ◌≡◌ {A = ℕ} 0 1 = cc in omega arith, λ h. absurd h)
numeral_exactly (c ∷ cs) = (
  λ e.
      let all : All Digit (c ∷ cs) = (each_exactly is_digit Digit digit_exactly (c ∷ cs)).0 (and_right (not (eqb c 48)) (each is_digit (c ∷ cs)) e) in
      let some : c ≡ 48 → ⊥ = eqb-false c 48 (not-true (eqb c 48) (and_left (not (eqb c 48)) (each is_digit (c ∷ cs)) e)) in
      (more c all.0.0 some, all),
  λ h.
      and_from (not (eqb c 48)) (each is_digit (c ∷ cs)) (not_from_false (eqb c 48) (ne_eqb c 48 (λ z. omega (arith, h.0))))
      ((each_exactly is_digit Digit digit_exactly (c ∷ cs)).1 h.1),
)
  where
    more : (c : ℕ) → 48 ≤ c → (c ≡ 48 → ⊥) → 48 < c
    more c l ne = omega arith

module _ (letter : ℕ) where
  after_spells : (w : List ℕ) (n : ℕ) → number_after letter w ≡ n → 1 ≤ n → Spells letter w n
  unfolding number_after
  after_spells [] n e l = absurd (omega arith)
  after_spells (c ∷ cs) n e l = go (eqb c letter && is_numeral cs) refl e
    where
      go : (p : Bool) → (eqb c letter && is_numeral cs) ≡ p → cond p (decimal 0 cs) 0 ≡ n → Spells letter (c ∷ cs) n
      go true q e = record {
        digits = cs;
        letters = ap (λ (x : ℕ). x ∷ cs) (eqb-true c letter (and_left (eqb c letter) (is_numeral cs) q));
        numeral = (numeral_exactly cs).0 (and_right (eqb c letter) (is_numeral cs) q);
        value = e;
      }
      go false q e = absurd (omega arith)

  spells_after : (w : List ℕ) (n : ℕ) → Spells letter w n → number_after letter w ≡ n
  unfolding number_after
  spells_after w n h = rw (h.letters, eq-eqb letter letter refl, (numeral_exactly h.digits).1 h.numeral) h.value

-- ---- what is called so

module _ (b : Bundle) (w : List ℕ) where
  variable_called_lem : (x : ℕ) → Spells 118 w x → Number (length b.variables) x → variable_called b w ≡ x
  unfolding variable_called
  variable_called_lem x h n = rw (spells_after 118 w x h, numbers_in (length b.variables) x n.0 n.1)

  symbol_called_lem : (f : ℕ) → Spells 102 w f → 33 ≤ f → f ≤ 32 + length b.symbols → symbol_called b w ≡ f
  unfolding symbol_called
  symbol_called_lem f h lo hi =
      let m : ℕ = number_after 102 w in
      let e : m ≡ f = spells_after 102 w f h in
      let within = and_from (leb 33 m) (leb m (32 + length b.symbols)) (le-leb 33 m (omega arith)) (le-leb m (32 + length b.symbols) (omega arith)) in
      ap (λ (p : Bool). cond p m 0) within ∙ e

  variable_name : (n : ℕ) → variable_called b w ≡ n → 1 ≤ n → VariableName b w × Number (length b.variables) n
  unfolding variable_called
  variable_name n e l = go (numbers (length b.variables) (number_after 118 w)) refl e
    where
      go : (p : Bool) → numbers (length b.variables) (number_after 118 w) ≡ p → cond p (number_after 118 w) 0 ≡ n
          → VariableName b w × Number (length b.variables) n
      go true q e =
          let is : Number (length b.variables) n = rw e at (numbers_of_lem (length b.variables) (number_after 118 w) q) in
          ((n, after_spells 118 w n e l, is), is)
      go false q e = absurd (omega arith)

  symbol_name : (n : ℕ) → symbol_called b w ≡ n → 1 ≤ n → SymbolName b w × (33 ≤ n) × (n ≤ 32 + length b.symbols)
  unfolding symbol_called
  symbol_name n e l = go (leb 33 (number_after 102 w) && leb (number_after 102 w) (32 + length b.symbols)) refl e
    where
      go : (p : Bool) → (leb 33 (number_after 102 w) && leb (number_after 102 w) (32 + length b.symbols)) ≡ p → cond p (number_after 102 w) 0 ≡ n
          → SymbolName b w × (33 ≤ n) × (n ≤ 32 + length b.symbols)
      go true q e =
          let m : ℕ = number_after 102 w in
          let lo : 33 ≤ n = rw e at (leb-true 33 m (and_left (leb 33 m) (leb m (32 + length b.symbols)) q)) in
          let hi : n ≤ 32 + length b.symbols = rw e at (leb-true m (32 + length b.symbols) (and_right (leb 33 m) (leb m (32 + length b.symbols)) q)) in
          ((n, after_spells 102 w n e l, lo, hi), lo, hi)
      go false q e = absurd (omega arith)

  -- the tests
  variable_exactly : (ltb 0 (variable_called b w) ≡ true) ↔ VariableName b w
  variable_exactly = (
    λ e. (variable_name (variable_called b w) refl (ltb-true 0 (variable_called b w) e)).0,
    λ h. lt-ltb 0 (variable_called b w) (rw (variable_called_lem h.0 h.1 h.2) h.2.0),
  )

  symbol_exactly : (ltb 0 (symbol_called b w) ≡ true) ↔ SymbolName b w
  symbol_exactly = (
    λ e. (symbol_name (symbol_called b w) refl (ltb-true 0 (symbol_called b w) e)).0,
    λ h. lt-ltb 0 (symbol_called b w) (let e : symbol_called b w ≡ h.0 = symbol_called_lem h.0 h.1 h.2 h.3 in omega (arith, h.2)),
  )

  as_exactly : (p : Place) → (known_as b p w ≡ true) ↔ DeclaredAs b p w
  unfolding known_as
  as_exactly either = (λ e. there (or_cases (ltb 0 (variable_called b w)) (ltb 0 (symbol_called b w)) e), back)
    where
      there : (ltb 0 (variable_called b w) ≡ true) ⊎ (ltb 0 (symbol_called b w) ≡ true) → DeclaredAs b either w
      there (inl e) = inl (variable_exactly.0 e)
      there (inr e) = inr (symbol_exactly.0 e)

      back : DeclaredAs b either w → (ltb 0 (variable_called b w) || ltb 0 (symbol_called b w)) ≡ true
      back (inl h) = or_left (ltb 0 (variable_called b w)) (ltb 0 (symbol_called b w)) (variable_exactly.1 h)
      back (inr h) = or_right (ltb 0 (variable_called b w)) (ltb 0 (symbol_called b w)) (symbol_exactly.1 h)
  as_exactly symbolOnly = symbol_exactly
  as_exactly variableOnly = variable_exactly

  pub variable_number : ltb 0 (variable_called b w) ≡ true → Number (length b.variables) (variable_called b w)
  variable_number e = (variable_name (variable_called b w) refl (ltb-true 0 (variable_called b w) e)).1

  pub symbol_signature : ltb 0 (symbol_called b w) ≡ true → signature_of b (symbol_called b w) ≡ Unknown → ⊥
  symbol_signature e u =
      let (name, lo, hi) = symbol_name (symbol_called b w) refl (ltb-true 0 (symbol_called b w) e) in
      let clash : Declared (symbol_called b w - 32) ≡ Unknown = sym (declared_signature b (symbol_called b w) lo hi) ∙ u in
      let z : ◌≡◌ {A = ℕ} 0 1 = cc in
      omega arith

pub known_exactly : KnownExactly
unfolding known_in
known_exactly b x = as_exactly b x.spelled x.place

pub called_exactly : CalledExactly
called_exactly b w = record { variable = variable_called_lem b w; symbol = symbol_called_lem b w }
