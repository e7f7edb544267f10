-- A run is one of the twelve words, or a name.
--     word_cases     what holds of each word and of a name holds of a run
use Prim.Native.Nat.{ℕ}
use mathlib.Core.Path.{◌≡◌, sym, subst}
use mathlib.Core.Bool.{true}
use mathlib.Core.List.{List, [], ◌∷◌}
use Rattle.bundle.specs.Lists.{same_list}
use Rattle.logic.proofs.Tests.{same_list_lem}
use Rattle.grammar.specs.Bytes.{Word, name, Reserved, twelve, word_of}
use Rattle.grammar.proofs.Words.{Each, among}

module _ (P : List ℕ → Word → Type 0) (w : List ℕ) where
  spelled_so : (rs : List Reserved) → Each (λ r. P r.spelled r.meaning) rs → Each (λ r. same_list w r.spelled ≡ true → P w r.meaning) rs
  spelled_so [] h = tt
  spelled_so (r ∷ rs) h = (λ e. subst (λ (v : List ℕ). P v r.meaning) (sym (same_list_lem w r.spelled e)) h.0, spelled_so rs h.1)

  pub word_cases : P w (name w) → Each (λ r. P r.spelled r.meaning) twelve → P w (word_of w)
  unfolding word_of
  word_cases other h = among (P w) w other twelve (spelled_so twelve h)
