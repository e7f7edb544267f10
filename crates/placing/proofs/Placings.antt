-- Terms placed, by the lookup and the appends.
--     found_is, plain_is                         a term that the lookup found; one with no list that it did not find
--     plain_filed, application_filed, let_filed     the digests of new terms
--     list_word                                  where a list starts: a word
--     variable_asks, application_asks, binder_asks, let_asks, named_asks     the same of each term that is placed
use mathlib.Core.Path.{◌≡◌, refl, sym, ap, subst, ◌∙◌}
use mathlib.Core.Bool.{Bool, true, false}
use mathlib.Core.List.{List, [], ◌∷◌}
use Prim.Native.Nat.{ℕ, zero, suc, ◌≤◌}
use native.Mathlib.Omega.{arith}
use lib.ListN.{length, length-append}
use Rattle.std.specs.Prelude.{Option, Some, None}
use Rattle.bundle.specs.Words.{largest_word}
use Rattle.bundle.specs.Bundle.{Bundle, TermRecord, sort_of_variable}
use Rattle.bundle.specs.File.{own_counts}
use Rattle.bundle.specs.Limits.{Within}
use Rattle.logic.specs.Terms.{Binder, binder, number_of}
use Rattle.logic.specs.Lookup.{seek, same_variable, same_application, same_binder, same_let}
use Rattle.logic.specs.Longer.{with_variables, with_terms, add_list, list_start}
use Rattle.logic.proofs.Longer.{list_length}
use Rattle.scratch.proofs.Pushed.{add_none}
use Rattle.filing.specs.Filing.{mix_all, root_digest, let_digest, Digested, found}
use Rattle.filing.proofs.Seeks.{seek_le}
use Rattle.filing.proofs.FiledTerms.{plain_digested, application_digested, let_digested}
use Rattle.expansion.specs.Placed.{placed, place_variable, place_application, place_binder, place_let}
use Rattle.expansion.specs.Visit.{new_variable, named}
use Rattle.placing.specs.Outcomes.{PlaceOutcome, AddOutcome}
use Rattle.placing.proofs.OutcomeFacts.{Done, outcome_done}

-- ---- what the lookup found

-- m is what the lookup found, the term x, and a is what is answered
pub found_is : (b b' : Bundle) (r : TermRecord) (n : ℕ) {m : Option ℕ} {x : ℕ} → m ≡ found n → m ≡ Some x → {b2 : Bundle} {a : Option ℕ}
    → PlaceOutcome (record { bundle = b; term = x }) b2 a → PlaceOutcome (placed b b' r n) b2 a
found_is b b' r zero e h o = absurd (cc)
found_is b b' r (suc n) {m} {x} e h {b2} {a} o =
    let is : x ≡ suc n = cc in
    subst (λ (k : ℕ). PlaceOutcome (record { bundle = b; term = k }) b2 a) is o

-- m is what the lookup found, none: of a term with no list
pub plain_is : (b : Bundle) (r : TermRecord) (n : ℕ) {m : Option ℕ} → m ≡ found n → m ≡ None → {b2 : Bundle} {a : Option ℕ}
    → PlaceOutcome (record { bundle = with_terms b (r ∷ []); term = suc (length b.terms) }) b2 a → PlaceOutcome (placed b (add_list b []) r n) b2 a
plain_is b r zero e h {b2} {a} o = subst (λ (B : Bundle). PlaceOutcome (placed b B r 0) b2 a) (sym (add_none b)) o
plain_is b r (suc n) e h o = absurd (cc)

-- ---- the digests of new terms

pub plain_filed : (b : Bundle) (k f x d : ℕ) → (k ≡ 2 → ⊥) → (k ≡ 5 → ⊥) → d ≡ root_digest k f → Digested b (record { kind = k; a = f; b = x; c = 0 }) d
plain_filed b k f x d h g e B more = plain_digested b (record { kind = k; a = f; b = x; c = 0 }) h g B more ∙ sym e

pub application_filed : (b : Bundle) (f : ℕ) (vs : List ℕ) (d : ℕ) → d ≡ mix_all (root_digest 2 f) vs
    → Digested (add_list b vs) (record { kind = 2; a = f; b = list_start b vs; c = 0 }) d
application_filed b f vs d own B more = application_digested b f vs B more ∙ sym own

-- vs are a let's variables, a list that was appended from s on, and ts its bound terms
pub let_filed : (b : Bundle) (vs ts : List ℕ) (t d : ℕ) → d ≡ let_digest vs ts t → {b1 : Bundle} {s : ℕ} → Done (add_list b vs) (list_start b vs) b1 s
    → Digested (add_list b1 ts) (record { kind = 5; a = s; b = list_start b1 ts; c = t }) d
let_filed b vs ts t d own {b1} {s} k =
    subst (λ (p : Bundle × ℕ). Digested (add_list p.0 ts) (record { kind = 5; a = p.1; b = list_start p.0 ts; c = t }) d)
    (λ i. (sym k.bundle i, sym k.value i)) (λ B more. let_digested b vs ts t B more ∙ sym own)

-- ---- words

start_word : (b : Bundle) (vs : List ℕ) → Within (own_counts (add_list b vs)) → list_start b vs ≤ largest_word
start_word b [] h = omega arith
start_word b (v ∷ vs) h = omega (arith, h.links, list_length b (v ∷ vs))

pub list_word : (b : Bundle) (vs : List ℕ) {b2 : Bundle} {r : Option ℕ} {s : ℕ} → AddOutcome b vs b2 r → r ≡ Some s → s ≤ largest_word
list_word b vs o e = let d = outcome_done o e in omega (arith, d.value, start_word b vs d.within)

-- n is what the lookup found; b' is b with lists appended
term_word : (b b' : Bundle) → b'.terms ≡ b.terms → (r : TermRecord) (n : ℕ) → n ≤ length b.terms → Within (own_counts (placed b b' r n).bundle)
    → (placed b b' r n).term ≤ largest_word
term_word b b' same r zero l h = omega (arith, h.terms, length-append b'.terms (r ∷ []), ap length same)
term_word b b' same r (suc n) l h = omega (arith, h.terms)

module _ (b : Bundle) {b2 : Bundle} {r : Option ℕ} {n : ℕ} where
  -- p is the lookup's test
  placed_word : (b' : Bundle) → b'.terms ≡ b.terms → (t : TermRecord) (p : TermRecord → Bool) → PlaceOutcome (placed b b' t (seek p b.terms)) b2 r
      → r ≡ Some n → n ≤ largest_word
  placed_word b' same t p o e =
      let d = outcome_done o e in
      omega (arith, d.value, term_word b b' same t (seek p b.terms) (seek_le p b.terms) d.within)

  pub variable_asks : (y : ℕ) → PlaceOutcome (place_variable b y) b2 r → r ≡ Some n → n ≤ largest_word
  variable_asks y = placed_word (add_list b []) refl (record { kind = 1; a = y; b = 0; c = 0 }) (same_variable y)

  pub application_asks : (f : ℕ) (vs : List ℕ) → PlaceOutcome (place_application b f vs) b2 r → r ≡ Some n → n ≤ largest_word
  application_asks f vs = placed_word (add_list b vs) refl (record { kind = 2; a = f; b = list_start b vs; c = 0 }) (same_application b f vs)

  pub binder_asks : (q : Binder) (y t : ℕ) → PlaceOutcome (place_binder b q y t) b2 r → r ≡ Some n → n ≤ largest_word
  binder_asks q y t = placed_word (add_list b []) refl (record { kind = number_of (binder q); a = y; b = t; c = 0 }) (same_binder q y t)

  pub let_asks : (vs ts : List ℕ) (t : ℕ) → PlaceOutcome (place_let b vs ts t) b2 r → r ≡ Some n → n ≤ largest_word
  let_asks vs ts t =
      placed_word (add_list (add_list b vs) ts) refl (record { kind = 5; a = list_start b vs; b = list_start (add_list b vs) ts; c = t }) (same_let b vs ts t)

pub named_asks : (kept : Bool) (b : Bundle) {b2 : Bundle} {r : Option ℕ} {n : ℕ} (x : ℕ) → PlaceOutcome (named kept b x) b2 r → r ≡ Some n
    → n ≤ largest_word
named_asks true b x = variable_asks b x
named_asks false b x = variable_asks (with_variables b (sort_of_variable b x ∷ [])) (new_variable b)
