-- Terms of the scratch filed by a digest, so that a term is looked up among those of its digest alone. It is made of what terms are looked up by:
-- kind and first field, of an application also the items of its list; of a let the kind, the items of both lists and the body.
--
-- One list of numbers, the index, holds it all: at place d, a digest, the newest term with digest d; at place `digests` + t the term before t among
-- those with its digest; 0 for none.
use Rattle.std.specs.Prelude.{ℕ, zero, suc, ◌+◌, ◌≡◌, Option, Some, None, cond, List, [], ◌∷◌, length, get_or, eqb}
use Rattle.bundle.specs.Limits.{limits}
use Rattle.bundle.specs.Bundle.{Bundle, TermRecord, term_of}
use Rattle.bundle.specs.Links.{items}
use Rattle.bundle.specs.Filed.{digests, mix, Filed}
use Rattle.logic.specs.Longer.{Longer}

-- a digest and the numbers of a list
unfoldable pub mix_all : ℕ → List ℕ → ℕ
mix_all d [] = d
mix_all d (x ∷ xs) = mix_all (mix d x) xs

-- the digest of a kind and a first field
abbrev pub root_digest : ℕ → ℕ → ℕ
root_digest kind first = mix (mix 0 kind) first

-- the digest of a let: its variables, its bound terms, its body
abbrev pub let_digest : List ℕ → List ℕ → ℕ → ℕ
let_digest vs ts t = mix (mix_all (mix_all (mix 0 5) vs) ts) t

-- the digest of a term's record
unfoldable pub lookup_digest : Bundle → TermRecord → ℕ
lookup_digest b r =
    cond (eqb r.kind 5) (let_digest (items b r.a) (items b r.b) r.c)
    (mix_all (root_digest r.kind r.a) (cond (eqb r.kind 2) (items b r.b) []))

-- d is the digest of the record in b, and in whatever b grows to
abbrev pub Digested : Bundle → TermRecord → ℕ → Type 0
Digested b r d = (B : Bundle) → Longer b B → lookup_digest B r ≡ d

-- The index holds the terms 1 to n of b, and of whatever b grows to.
pub record FiledTo (b : Bundle) (ix : List ℕ) (n : ℕ) : Type 0 where
  pub long : length ix ≡ digests + limits.terms + 1
  pub held : (B : Bundle) → Longer b B → Filed (λ j. lookup_digest B (term_of B j)) (λ d. get_or ix d 0) (λ j. get_or ix (digests + j) 0) n

-- and holds all its terms
abbrev pub Indexed : Bundle → List ℕ → Type 0
Indexed b ix = FiledTo b ix (length b.terms)

-- a lookup's answer: the number that it found, None for 0
abbrev pub found : ℕ → Option ℕ
found zero = None
found (suc n) = Some (suc n)
