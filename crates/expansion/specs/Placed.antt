-- Terms looked up before they are appended: the results of the writer, and the terms of the formula that the reader reads.
use Rattle.std.specs.Prelude.{ℕ, zero, suc, List, [], ◌∷◌, length}
use Rattle.bundle.specs.Bundle.{Bundle, TermRecord}
use Rattle.logic.specs.Terms.{Binder, binder, letting, number_of}
use Rattle.logic.specs.Lookup.{seek, same_variable, same_application, same_binder, same_let}
use Rattle.logic.specs.Longer.{with_terms, add_list, list_start}

-- a bundle, and a term of it
pub record PlacedTerm : Type 0 where
  pub bundle : Bundle
  pub term : ℕ

-- The term of b that the lookup found, n; or, where it found none, a new one: its record r after b', which is b with r's lists just appended.
abbrev pub placed : Bundle → Bundle → TermRecord → ℕ → PlacedTerm
placed b b' r zero = record { bundle = with_terms b' (r ∷ []); term = suc (length b.terms) }
placed b b' r (suc n) = record { bundle = b; term = suc n }

abbrev pub place_variable : Bundle → ℕ → PlacedTerm
place_variable b y = placed b (add_list b []) (record { kind = 1; a = y; b = 0; c = 0 }) (seek (same_variable y) b.terms)

-- its list of arguments just before it
abbrev pub place_application : Bundle → ℕ → List ℕ → PlacedTerm
place_application b f ts = placed b (add_list b ts) (record { kind = 2; a = f; b = list_start b ts; c = 0 }) (seek (same_application b f ts) b.terms)

abbrev pub place_binder : Bundle → Binder → ℕ → ℕ → PlacedTerm
place_binder b q y t = placed b (add_list b []) (record { kind = number_of (binder q); a = y; b = t; c = 0 }) (seek (same_binder q y t) b.terms)

-- its list of variables, then its list of bound terms, just before it
abbrev pub place_let : Bundle → List ℕ → List ℕ → ℕ → PlacedTerm
place_let b vs ts t =
    placed b (add_list (add_list b vs) ts) (record { kind = number_of letting; a = list_start b vs; b = list_start (add_list b vs) ts; c = t })
    (seek (same_let b vs ts t) b.terms)
