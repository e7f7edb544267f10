-- Terms filed by their digests, and the walk down the chain of a digest.
--     variable_digest, application_digest, binder_digest, let_digest_lem     whatever is looked up has the digest that it is looked up by
--     plain_digest                           the digest of a term with no list, by its kind
--     binder_kind                            the number of a binder is of no kind that has lists
--     plain_digested, application_digested, let_digested, formed_digested     digests that stay where the bundle grows: of a term with no list,
--                                                  of an application or a let whose lists were just appended, of a term of well-formed tables
--     filed_none, filed_on, term_indexed           nothing is filed at first; then one term more is; the index after a term was appended and filed
--     held_own                                     the terms of the bundle itself are filed
--     found_some                                   a number that was found
--     SoughtTerm, sought_end                       the walk for a term: what it has found at its end is the lowest
use mathlib.Core.Path.{◌≡◌, refl, sym, ap, ap₂, ◌∙◌, subst}
use mathlib.Core.Bool.{Bool, true, false, cond, ◌&&◌}
use mathlib.Core.Logic.{◌⊎◌, inl, inr}
use mathlib.Core.List.{List, [], ◌∷◌}
use Prim.Native.Nat.{ℕ, zero, suc, ◌+◌, ◌≤◌, ◌<◌}
use native.Mathlib.Omega.{arith}
use lib.ListN.{length, get_or, set, replicate, length-set, length-replicate, length-append}
use lib.Seq.{get_or-set_same, get_or-set_other}
use lib.Dec.{eqb}
use borrow.Author.Tests.{eqb-true, ne_eqb}
use Rattle.std.specs.Prelude.{Some}
use Rattle.bundle.specs.Bundle.{Bundle, TermRecord, term_of}
use Rattle.bundle.specs.Limits.{limits}
use Rattle.bundle.specs.Links.{items}
use Rattle.bundle.specs.Lists.{same_list}
use Rattle.bundle.proofs.LinkNotes.{zeros}
use Rattle.bundle.specs.Filed.{digests, mix, Filed}
use Rattle.bundle.proofs.Filed.{mix_small, Sought, sought_lowest}
use Rattle.bundle.proofs.Filed.{filed_none as none-filed, filed_on as on-filed}
use Rattle.logic.specs.Terms.{Binder, Kind, application, binder, letting, number_of, kind_of}
use Rattle.logic.specs.WellFormed.{TablesFormed}
use Rattle.logic.specs.Lookup.{seek, same_variable, same_application, same_binder, same_let}
use Rattle.logic.specs.Longer.{Longer, with_terms, add_list, list_start}
use Rattle.logic.proofs.TermKinds.{number_kind}
use Rattle.logic.proofs.Tests.{and_left, and_right, same_list_lem}
use Rattle.logic.proofs.Longer.{longer_refl, longer_trans, list_longer, list_added, terms_longer, term_added}
use Rattle.logic.proofs.Kept.{term_kept, arguments_kept, let_lists_kept}
use Rattle.filing.specs.Filing.{mix_all, root_digest, let_digest, lookup_digest, Digested, FiledTo, Indexed, found}
use Rattle.filing.proofs.Seeks.{seek_none, seek_first}

all_small : (e : ℕ) (xs : List ℕ) → e < digests → mix_all e xs < digests
unfolding mix_all
all_small e [] l = l
all_small e (x ∷ xs) l = all_small (mix e x) xs (mix_small e x)

digest_small : (b : Bundle) (r : TermRecord) → lookup_digest b r < digests
unfolding lookup_digest
digest_small b r = either (eqb r.kind 5) (mix_small _ r.c) (all_small _ _ (mix_small _ r.a))
  where
    either : (p : Bool) {d e : ℕ} → d < digests → e < digests → cond p d e < digests
    either true h k = h
    either false h k = k

-- ---- what is looked up, and its digest

both : (p q : Bool) → (p && q) ≡ true → (p ≡ true) × (q ≡ true)
both p q e = (and_left p q e, and_right p q e)

-- a record with no list
plain : (b : Bundle) (r : TermRecord) → (r.kind ≡ 2 → ⊥) → (r.kind ≡ 5 → ⊥) → lookup_digest b r ≡ root_digest r.kind r.a
unfolding lookup_digest mix_all
plain b r h k = rw (ne_eqb r.kind 5 k, ne_eqb r.kind 2 h)

-- by its kind
pub plain_digest : (b : Bundle) (r : TermRecord) (k : Kind) → kind_of r.kind ≡ k → (application ≡ k → ⊥) → (letting ≡ k → ⊥) → lookup_digest b r ≡ root_digest r.kind r.a
unfolding kind_of
plain_digest b r k e h g = plain b r (λ z. h (ap kind_of (sym z) ∙ e)) (λ z. g (ap kind_of (sym z) ∙ e))

pub variable_digest : (b : Bundle) (y : ℕ) (r : TermRecord) → same_variable y r ≡ true → lookup_digest b r ≡ root_digest 1 y
unfolding same_variable
variable_digest b y r e =
    let p = both (eqb r.kind 1) (eqb r.a y) e in
    let k : r.kind ≡ 1 = eqb-true _ _ p.0 in
    plain b r (λ z. omega arith) (λ z. omega arith) ∙ ap₂ root_digest k (eqb-true _ _ p.1)

pub application_digest : (b : Bundle) (f : ℕ) (ts : List ℕ) (r : TermRecord) → same_application b f ts r ≡ true → lookup_digest b r ≡ mix_all (root_digest 2 f) ts
unfolding same_application lookup_digest
application_digest b f ts r e =
    let p = both (eqb r.kind 2) (eqb r.a f && same_list (items b r.b) ts) e in
    let q = both (eqb r.a f) (same_list (items b r.b) ts) p.1 in
    rw (eqb-true r.kind 2 p.0, eqb-true r.a f q.0, same_list_lem (items b r.b) ts q.1)

pub binder_kind : (q : Binder) → (number_of (binder q) ≡ 2 → ⊥) × (number_of (binder q) ≡ 5 → ⊥)
unfolding kind_of
binder_kind q = (λ e. clash (let k = sym (ap kind_of e) ∙ number_kind (binder q) in cc), λ e. clash (let k = sym (ap kind_of e) ∙ number_kind (binder q) in cc))
  where
    clash : ◌≡◌ {A = ℕ} 0 1 → ⊥
    clash z = omega arith

pub binder_digest : (b : Bundle) (q : Binder) (y t : ℕ) (r : TermRecord) → same_binder q y t r ≡ true → lookup_digest b r ≡ root_digest (number_of (binder q)) y
unfolding same_binder
binder_digest b q y t r e =
    let p = both (eqb r.kind (number_of (binder q))) (eqb r.a y && eqb r.b t) e in
    let k : r.kind ≡ number_of (binder q) = eqb-true _ _ p.0 in
    plain b r (λ z. (binder_kind q).0 (sym k ∙ z)) (λ z. (binder_kind q).1 (sym k ∙ z))
    ∙ ap₂ root_digest k (eqb-true _ _ (both (eqb r.a y) (eqb r.b t) p.1).0)

pub let_digest_lem : (b : Bundle) (vs ts : List ℕ) (t : ℕ) (r : TermRecord) → same_let b vs ts t r ≡ true → lookup_digest b r ≡ let_digest vs ts t
unfolding same_let lookup_digest
let_digest_lem b vs ts t r e =
    let p = both (eqb r.kind 5) (same_list (items b r.a) vs && (same_list (items b r.b) ts && eqb r.c t)) e in
    let q = both (same_list (items b r.a) vs) (same_list (items b r.b) ts && eqb r.c t) p.1 in
    let s = both (same_list (items b r.b) ts) (eqb r.c t) q.1 in
    rw (p.0, same_list_lem (items b r.a) vs q.0, same_list_lem (items b r.b) ts s.0, eqb-true r.c t s.1)

-- ---- digests that stay

pub plain_digested : (b : Bundle) (r : TermRecord) → (r.kind ≡ 2 → ⊥) → (r.kind ≡ 5 → ⊥) → Digested b r (root_digest r.kind r.a)
plain_digested b r h k B more = plain B r h k

pub application_digested : (b : Bundle) (f : ℕ) (vs : List ℕ)
    → Digested (add_list b vs) (record { kind = 2; a = f; b = list_start b vs; c = 0 }) (mix_all (root_digest 2 f) vs)
unfolding lookup_digest
application_digested b f vs B more = ap (mix_all (root_digest 2 f)) (list_added b vs more)

pub let_digested : (b : Bundle) (vs ts : List ℕ) (t : ℕ)
    → Digested (add_list (add_list b vs) ts) (record { kind = 5; a = list_start b vs; b = list_start (add_list b vs) ts; c = t }) (let_digest vs ts t)
unfolding lookup_digest
let_digested b vs ts t B more =
    ap₂ (λ (us rs : List ℕ). let_digest us rs t) (list_added b vs (longer_trans (list_longer (add_list b vs) ts) more)) (list_added (add_list b vs) ts more)

module _ {b : Bundle} (formed : TablesFormed b) (B : Bundle) (more : Longer b B) where
  digest_kept : (t : ℕ) (p q : Bool) → eqb (term_of b t).kind 5 ≡ p → eqb (term_of b t).kind 2 ≡ q
      → lookup_digest B (term_of b t) ≡ lookup_digest b (term_of b t)
  unfolding lookup_digest
  digest_kept t true q e f =
      let k = let_lists_kept more formed t (eqb-true _ _ e) in
      rw (e, k.0, k.1)
  digest_kept t false true e f = rw (e, f, arguments_kept more formed t (eqb-true _ _ f))
  digest_kept t false false e f = rw (e, f)

  pub formed_digested : (t : ℕ) → t ≤ length b.terms → lookup_digest B (term_of B t) ≡ lookup_digest b (term_of b t)
  formed_digested t l = ap (lookup_digest B) (term_kept more t l) ∙ digest_kept t (eqb (term_of b t).kind 5) (eqb (term_of b t).kind 2) refl refl

-- ---- filing

-- words of the index
abbrev places : ℕ
places = digests + limits.terms + 1

pub filed_none : (b : Bundle) → FiledTo b (replicate places 0) 0
filed_none b = record { long = length-replicate {A = ℕ} places 0; held = λ B more. none-filed _ _ _ (zeros places).zero (λ j. (zeros places).zero (digests + j)) }

module _ (b : Bundle) (ix : List ℕ) (n d : ℕ) (filed : FiledTo b ix n) (t n' : ℕ) (next : t ≡ suc n) (last : n' ≡ t)
    (own : (B : Bundle) → Longer b B → lookup_digest B (term_of B t) ≡ d) (room : t ≤ limits.terms) where
  small : d < digests
  small = subst (λ (n : ℕ). n < digests) (own b (longer_refl b)) (digest_small b (term_of b t))

  abbrev mid : List ℕ
  mid = set ix (digests + t) (get_or ix d 0)

  abbrev new : List ℕ
  new = set mid d t

  mid_long : length mid ≡ places
  mid_long = length-set ix (digests + t) (get_or ix d 0) ∙ filed.long

  -- the index after, place by place
  head_other : (e : ℕ) → e < digests → (e ≡ d → ⊥) → get_or new e 0 ≡ get_or ix e 0
  head_other e l q = get_or-set_other mid d e t 0 q ∙ get_or-set_other ix (digests + t) e (get_or ix d 0) 0 (λ z. omega arith)

  chain_new : get_or new (digests + t) 0 ≡ get_or ix d 0
  chain_new =
      get_or-set_other mid d (digests + t) t 0 (λ z. omega (arith, small)) ∙ get_or-set_same ix (digests + t) (get_or ix d 0) 0 (omega (arith, filed.long))

  chain_other : (j : ℕ) → (j ≡ t → ⊥) → get_or new (digests + j) 0 ≡ get_or ix (digests + j) 0
  chain_other j q =
      get_or-set_other mid d (digests + j) t 0 (λ z. omega (arith, small))
      ∙ get_or-set_other ix (digests + t) (digests + j) (get_or ix d 0) 0 (λ z. q (omega arith))

  pub filed_on : FiledTo b (set (set ix (digests + t) (get_or ix d 0)) d t) n'
  filed_on = record {
    long = length-set mid d t ∙ mid_long;
    held = λ B more.
        on-filed (filed.held B more) (λ j. digest_small B (term_of B j)) _ _ d t n' next last (own B more)
        (get_or-set_same mid d t 0 (omega (arith, mid_long, small))) head_other chain_new chain_other;
  }

filed_longer : {b b' : Bundle} {ix : List ℕ} {n : ℕ} → Longer b b' → FiledTo b ix n → FiledTo b' ix n
filed_longer more filed = record { long = filed.long; held = λ B on. filed.held B (longer_trans more on) }

-- b' has one term more, and it was filed as term t, by its digest
pub term_indexed : {b b' : Bundle} {ix ix' : List ℕ} (r : TermRecord) {d t : ℕ} → Indexed b ix → Digested b r d → length b.terms < limits.terms
    → t ≡ suc (length b.terms) → b' ≡ with_terms b (r ∷ []) → ix' ≡ set (set ix (digests + t) (get_or ix d 0)) d t → Indexed b' ix'
term_indexed {b} {b'} {ix} {ix'} r {d} {t} indexed digested room next e f =
    let c : Bundle = with_terms b (r ∷ []) in
    let longer : Longer b c = terms_longer b (r ∷ []) in
    let own : (B : Bundle) → Longer c B → lookup_digest B (term_of B t) ≡ d =
    λ B more. ap (λ (n : ℕ). lookup_digest B (term_of B n)) next ∙ ap (lookup_digest B) (term_added b r more) ∙ digested B (longer_trans longer more) in
    let all : length c.terms ≡ t = omega (arith, length-append b.terms (r ∷ [])) in
    let filed = filed_on c ix (length b.terms) d (filed_longer longer indexed) t (length c.terms) next all own (omega arith) in
    rw (e, f) filed

-- ---- the walk

pub held_own : {b' b : Bundle} {ix : List ℕ} → b' ≡ b → Indexed b' ix
    → Filed (λ j. lookup_digest b (term_of b j)) (λ d. get_or ix d 0) (λ j. get_or ix (digests + j) 0) (length b.terms)
held_own {b = b} {ix} e indexed = (subst (λ (x : Bundle). Indexed x ix) e indexed).held b (longer_refl b)

pub found_some : (n : ℕ) → (n ≡ 0 → ⊥) → Some n ≡ found n
found_some zero h = absurd (h refl)
found_some (suc n) h = refl

-- the walk for a term whose record passes
abbrev pub SoughtTerm : Bundle → List ℕ → (TermRecord → Bool) → ℕ → ℕ → Type 0
SoughtTerm b ix p h m = Sought (λ j. get_or ix (digests + j) 0) (length b.terms) (λ j. p (term_of b j)) h m

-- what the walk has found at its end
pub sought_end : (b : Bundle) (p : TermRecord → Bool) (ix : List ℕ) {h m : ℕ} → SoughtTerm b ix p h m → h ≡ 0 → m ≡ seek p b.terms
sought_end b p ix {h} {m} sought z = go sought.found
  where
    go : (m ≡ 0) ⊎ ((h < m) × (m ≤ length b.terms) × (p (term_of b m) ≡ true)) → m ≡ seek p b.terms
    go (inl none) = none ∙ sym (seek_none p b.terms (λ j one l e. absurd (omega (arith, none, sought_lowest sought z j one l e))))
    go (inr some) =
        sym (seek_first p b.terms m (omega (arith, some.0)) some.1 some.2
        (λ j one l e. absurd (omega (arith, some.1, sought_lowest sought z j one (omega (arith, some.1)) e))))
