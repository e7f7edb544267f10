-- The sorts of terms, noted from the first term up.
--     SortsBelow                       the sorts of the terms below t are noted; at all other places there is 0
--     sorts_none, sorts_on, sorts_all_lem  so at term 1; on to t + 1; past the last term all are
use mathlib.Core.Path.{◌≡◌, refl, sym, ap, ◌∙◌, fun_ext}
use mathlib.Core.Bool.{Bool, true, false, cond}
use mathlib.Core.List.{List}
use Prim.Native.Nat.{ℕ, ◌+◌, ◌≤◌, ◌<◌}
use native.Mathlib.Omega.{arith}
use native.Mathlib.Decide.{ℕ_discrete}
use lib.ListN.{length, get_or, set}
use lib.Seq.{get_or-set_same, get_or-set_other}
use lib.Dec.{ltb}
use borrow.Author.Tests.{ltb-true, ltb-false, lt-ltb, le-ltb}
use Rattle.bundle.specs.Bundle.{Bundle, no_term, term_of}
use Rattle.bundle.specs.LinkNotes.{Zeros}
use Rattle.bundle.proofs.Tab.{at_none}
use Rattle.logic.specs.Table.{below}
use Rattle.logic.specs.Symbols.{truth_sort}
use Rattle.logic.specs.Terms.{kind_of}
use Rattle.logic.specs.Sorts.{sort_as, sort_by, sort_at}
use Rattle.sorting.specs.Notes.{Sorted}
use Rattle.sorting.proofs.SortOf.{sort_below}

module _ (b : Bundle) where
  abbrev pub SortsBelow : List ℕ → ℕ → Type 0
  SortsBelow w t = (i : ℕ) → get_or w i 0 ≡ below truth_sort t (sort_at b) i

  sort_past_lem : (t : ℕ) → (length b.terms) < t → sort_at b t ≡ truth_sort
  unfolding sort_by kind_of sort_as
  sort_past_lem t h =
      sort_below b t
      ∙ ap (sort_by b (below truth_sort t (sort_at b))) (at_none no_term b.terms t h)

  sort_none : sort_at b 0 ≡ truth_sort
  unfolding sort_at
  sort_none = refl

  pub sorts_none : (w : List ℕ) → Zeros w → SortsBelow w 1
  sorts_none w none i = none.zero i ∙ go (ltb i 1) refl
    where
      go : (q : Bool) → ltb i 1 ≡ q → ◌≡◌ {A = ℕ} 0 (cond q (sort_at b i) truth_sort)
      go true e = let h : i < 1 = ltb-true i 1 e in let z : i ≡ 0 = omega arith in rw z (sym sort_none)
      go false e = refl

  pub sorts_on : (w : List ℕ) (t s : ℕ) → SortsBelow w t → t < length w → s ≡ sort_by b (λ i. get_or w i 0) (term_of b t)
      → SortsBelow (set w t s) (t + 1)
  sorts_on w t s so room new i = go (ℕ_discrete i t)
    where
      here : s ≡ sort_at b t
      here = new ∙ ap (λ (h : ℕ → ℕ). sort_by b h (term_of b t)) (fun_ext so) ∙ sym (sort_below b t)

      same : (i ≡ t → ⊥) → (q : Bool) → ltb i t ≡ q → ltb i (t + 1) ≡ q
      same other true e = let h : i < t = ltb-true i t e in lt-ltb i (t + 1) (omega arith)
      same other false e = let h : t ≤ i = ltb-false i t e in le-ltb i (t + 1) (omega arith)

      go : Dec (i ≡ t) → get_or (set w t s) i 0 ≡ below truth_sort (t + 1) (sort_at b) i
      go (yes e) =
          let up : ltb t (t + 1) ≡ true = lt-ltb t (t + 1) (omega arith) in
          rw (e, get_or-set_same w t s 0 room, up) here
      go (no other) = rw (get_or-set_other w t i s 0 other, same other (ltb i t) refl) (so i)

  pub sorts_all_lem : (w : List ℕ) (t : ℕ) → SortsBelow w t → (length b.terms) < t → Sorted b w
  sorts_all_lem w t so past = record { noted = λ i. so i ∙ go i (ltb i t) refl }
    where
      go : (i : ℕ) (q : Bool) → ltb i t ≡ q → cond q (sort_at b i) truth_sort ≡ sort_at b i
      go i true e = refl
      go i false e = let h : t ≤ i = ltb-false i t e in sym (sort_past_lem i (omega arith))
