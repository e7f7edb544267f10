-- The kind of a context's record, and its number.
--     entry_rest           a number that is not 2 is the kind that fixes or no kind
--     entry_none           a number that is neither 1 nor 2 is no kind
--     none_entry           and the other way round
--     number_of_entry      the number that stands for an entry
use mathlib.Core.Path.{◌≡◌, sym, ap, ◌∙◌}
use mathlib.Core.Bool.{cond}
use native.Mathlib.Omega.{arith}
use Prim.Native.Nat.{ℕ, zero, suc}
use lib.Dec.{eqb}
use borrow.Author.Tests.{ne_eqb}
use Rattle.logic.specs.Contexts.{Entry, fixing, replacing, noEntry, entry_number, entry_of}

module _ (k : ℕ) (not2 : k ≡ 2 → ⊥) where
  pub entry_rest : entry_of k ≡ cond (eqb k 1) fixing noEntry
  unfolding entry_of
  entry_rest = rw (ne_eqb k 2 not2)

  pub entry_none : (k ≡ 1 → ⊥) → entry_of k ≡ noEntry
  entry_none not1 = rw (entry_rest, ne_eqb k 1 not1)

pub none_entry : {k : ℕ} → entry_of k ≡ noEntry → (k ≡ 1 → ⊥) × (k ≡ 2 → ⊥)
unfolding entry_of
none_entry e = (λ one. let z : fixing ≡ noEntry = rw one at e in cc, λ two. let z : replacing ≡ noEntry = rw two at e in cc)

pub number_of_entry : (n : ℕ) (k : Entry) → entry_of n ≡ k → (k ≡ noEntry → ⊥) → n ≡ entry_number k
unfolding entry_of
number_of_entry zero k e some = absurd (some (sym e))
number_of_entry (suc zero) k e some = ap entry_number e
number_of_entry (suc (suc zero)) k e some = ap entry_number e
number_of_entry (suc (suc (suc n))) k e some =
    let m = suc (suc (suc n)) in
    absurd (some (sym e ∙ entry_none m (λ z. omega arith) (λ z. omega arith)))
