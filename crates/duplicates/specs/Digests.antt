-- Digests of term records, and terms filed by them. Terms with the same record have the same digest, so a term that repeats an earlier one is
-- found among those with its digest.
use Rattle.std.specs.Prelude.{ℕ, zero, suc, ◌≡◌, ◌+◌, ◌-◌, Bool, true, false, List, [], ◌∷◌, get_or}
use Rattle.bundle.specs.Bundle.{Bundle, TermRecord, term_of}
use Rattle.bundle.specs.Links.{items}
use Rattle.bundle.specs.Filed.{mix, Filed}
use Rattle.logic.specs.Checks.{first_is_list, second_is_list}

-- a digest and the numbers of a list, n of them at most: a few tell lists apart, and a long list that many terms share is not walked for each
unfoldable pub mix_items : ℕ → ℕ → List ℕ → ℕ
mix_items zero d xs = d
mix_items (suc n) d [] = d
mix_items (suc n) d (x ∷ xs) = mix_items n (mix d x) xs

-- and a field: the first items of its list, or its number
unfoldable pub mix_field : Bundle → Bool → ℕ → ℕ → ℕ
mix_field b true d x = mix_items 8 d (items b x)
mix_field b false d x = mix d x

-- the digest of a term's record: its kind, then its fields as they are compared
unfoldable pub term_digest : Bundle → TermRecord → ℕ
term_digest b r = mix (mix_field b (second_is_list r.kind) (mix_field b (first_is_list r.kind) (mix 0 r.kind) r.a) r.b) r.c

-- `heads` and `next` hold the terms below i
abbrev pub FiledBelow : Bundle → List ℕ → List ℕ → ℕ → Type 0
FiledBelow b heads next i = Filed (λ j. term_digest b (term_of b j)) (λ d. get_or heads d 0) (λ j. get_or next j 0) (i - 1)

-- the terms filed so far: the newest of each digest, and the one before each
pub record Earlier : Type 0 where
  pub heads : List ℕ
  pub next : List ℕ

-- they are the terms below i
abbrev pub EarlierThan : Bundle → Earlier → ℕ → Type 0
EarlierThan b e i = FiledBelow b e.heads e.next i

-- no term is filed, whatever the bundle
abbrev pub NoneFiled : Earlier → Type 0
NoneFiled e = (b : Bundle) → EarlierThan b e 1

-- in whatever bundle term i is the next and d its digest, it is filed
abbrev pub Files : ℕ → ℕ → Earlier → Earlier → Type 0
Files i d e f = (b : Bundle) → EarlierThan b e i → d ≡ term_digest b (term_of b i) → EarlierThan b f (i + 1)
