-- Terms filed by their digests.
--     same_digest                  terms with the same record have the same digest
--     mix_on, mix_end              the first items of a list, along a walk
--     term_filed                   once term i is filed, the terms below i + 1 are
--     same, new_at_end, not_new    a walk that found none with the record of term i; one that found one
use mathlib.Core.Path.{◌≡◌, refl, sym, ap}
use mathlib.Core.Bool.{Bool, true, false, not}
use mathlib.Core.List.{List, [], ◌∷◌}
use Prim.Native.Nat.{ℕ, zero, suc, ◌+◌, ◌≤◌, ◌<◌, ◌-◌}
use native.Mathlib.Numerals.{add-one}
use native.Mathlib.Omega.{arith}
use lib.ListN.{length, get_or, set}
use lib.Seq.{get_or-set_same, get_or-set_other}
use lib.Dec.{eqb}
use borrow.Author.Tests.{eqb-true}
use Rattle.bundle.specs.Bundle.{Bundle, TermRecord, term_of}
use Rattle.bundle.specs.Filed.{mix}
use Rattle.bundle.proofs.Filed.{mix_small, filed_on, Sought, sought_lowest}
use Rattle.logic.specs.Checks.{first_is_list, second_is_list, same_field, same_term, is_new}
use Rattle.logic.proofs.Tests.{passed_each, same_list_lem, not_in, up_to_all}
use Rattle.logic.proofs.Passes.{new_before}
use Rattle.duplicates.specs.Digests.{mix_items, mix_field, term_digest, FiledBelow}

-- ---- the first items of a list, along a walk

pub mix_on : (n m d x : ℕ) (xs : List ℕ) → m + 1 ≡ n → mix_items n d (x ∷ xs) ≡ mix_items m (mix d x) xs
unfolding mix_items
mix_on n m d x xs e = rw (← e, add-one m)

pub mix_end : (n d : ℕ) (xs : List ℕ) → (0 < n → xs ≡ []) → mix_items n d xs ≡ d
unfolding mix_items
mix_end zero d xs end = refl
mix_end (suc n) d xs end = rw (end (omega arith))

-- ---- the same record, the same digest

field_digest : (b : Bundle) (q : Bool) (d x y : ℕ) → same_field b q x y ≡ true → mix_field b q d x ≡ mix_field b q d y
unfolding same_field mix_field
field_digest b true d x y e = ap (mix_items 8 d) (same_list_lem _ _ e)
field_digest b false d x y e = ap (mix d) (eqb-true x y e)

pub same_digest : (b : Bundle) (r s : TermRecord) → same_term b r s ≡ true → term_digest b r ≡ term_digest b s
unfolding same_term term_digest
same_digest b r s e =
    let p = passed_each (
    eqb r.kind s.kind
    ∷ same_field b (first_is_list r.kind) r.a s.a
    ∷ same_field b (second_is_list r.kind) r.b s.b
    ∷ eqb r.c s.c
    ∷ []
    ) e in
    let k : r.kind ≡ s.kind = eqb-true _ _ p.0 in
    let c : r.c ≡ s.c = eqb-true _ _ p.1.1.1.0 in
    rw (
      ← k,
      field_digest b (first_is_list r.kind) (mix 0 r.kind) r.a s.a p.1.0,
      field_digest b (second_is_list r.kind) _ r.b s.b
          p.1.1.0,
      c,
    )

-- ---- filing

pub term_filed : (b : Bundle) (heads next : List ℕ) (i d : ℕ) → 1 ≤ i → FiledBelow b heads next i → d ≡ term_digest b (term_of b i)
    → d < length heads → i < length next → FiledBelow b (set heads d i) (set next i (get_or heads d 0)) (i + 1)
unfolding term_digest
term_filed b heads next i d one filed own heads-room next-room =
    filed_on filed (λ j. mix_small _ _) _ _ d i (i + 1 - 1) (omega arith) (omega arith) (sym own)
    (get_or-set_same heads d i 0 heads-room) (λ e l q. get_or-set_other heads d e i 0 q)
    (get_or-set_same next i (get_or heads d 0) 0 next-room) (λ j q. get_or-set_other next i j (get_or heads d 0) 0 q)

-- ---- the walk

-- term j has the record of term i
abbrev pub same : Bundle → ℕ → ℕ → Bool
same b i j = same_term b (term_of b j) (term_of b i)

pub new_at_end : (b : Bundle) (next : ℕ → ℕ) (i h : ℕ) → Sought next (i - 1) (same b i) h 0 → h ≡ 0 → is_new b i ≡ true
unfolding is_new
new_at_end b next i h sought z = up_to_all (i - 1) (λ j. not (same b i j)) (λ j one l. go j one l (same b i j) refl)
  where
    go : (j : ℕ) → 1 ≤ j → j ≤ i - 1 → (p : Bool) → same b i j ≡ p → not p ≡ true
    go j one l false e = refl
    go j one l true e = absurd (omega (arith, (sought_lowest sought z j one l e).0))

pub not_new : (b : Bundle) (i j : ℕ) → 1 ≤ j → j < i → same b i j ≡ true → is_new b i ≡ false
not_new b i j one l e = go (is_new b i) refl
  where
    go : (p : Bool) → is_new b i ≡ p → p ≡ false
    go false q = refl
    go true q = absurd (not_in (same b i j) (new_before b i q j one l) e)
