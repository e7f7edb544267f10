-- Terms that are looked up and, where they are not found, appended. New terms refer to lower numbers, keep sorts and have no equal.
--     all_map, all_snoc, gather_kept, sorts_of_kept     lists of terms, seen in a longer bundle
--     seek_found, seek_none                what a lookup finds
--     PlacedAs                             what holds of the term that is placed: it is a term, it stands for the tree meant
--     Listed, one_list, two_lists          the lists of a new term, appended just before it
--     no_equal                             a new term has no equal
--     placed_as                            THE LAW, for any lookup, lists and record
--     variable_placed, application_placed, binder_placed, let_placed     the kinds of terms
use mathlib.Core.Path.{◌≡◌, refl, sym, ap, ap₂, ◌∙◌}
use Prim.Native.Nat.{ℕ, zero, suc, ◌<◌}
use mathlib.Core.Bool.{Bool, true, false, cond, ◌&&◌, false≢true}
use mathlib.Core.List.{List, [], ◌∷◌, ◌++◌, map}
use native.Mathlib.Omega.{arith}
use lib.ListN.{length, get_or, length-append}
use lib.Dec.{eqb}
use borrow.Author.Tests.{eqb-true, eq-eqb}
use Rattle.std.proofs.lemmas.Bool.{and_from}
use Rattle.bundle.specs.Bundle.{Bundle, TermRecord, no_term, term_of}
use Rattle.bundle.specs.Links.{items}
use Rattle.bundle.specs.Lists.{same_list}
use Rattle.logic.specs.declared.Signature.TheVariants.{Unknown}
use Rattle.logic.specs.Lists.{All, Number}
use Rattle.logic.specs.Symbols.{truth_sort, signature_of, argument_sorts}
use Rattle.logic.specs.Terms.{Binder, Term, var, app, bind, let_in, more, Kind, variable, application, binder, letting, other, kind_of}
use Rattle.logic.specs.Terms.{gather, tree}
use Rattle.logic.specs.Terms.{number_of}
use Rattle.logic.specs.WellFormed.{sort_of_term, ListsFormed, TermFormed, a_variable, an_application, a_binder, a_let, number, list, Fields, fields_as, fields_of}
use Rattle.logic.specs.WellFormed.{TablesFormed}
use Rattle.logic.specs.Longer.{Longer, with_terms, add_list, list_start}
use Rattle.logic.proofs.Tests.{and_left, and_right, same_list_lem, list_same}
use Rattle.logic.proofs.TermKinds.{number_kind, binder_number}
use Rattle.logic.proofs.Formed.{tree_variable, tree_application, tree_binder, tree_let}
use Rattle.logic.proofs.TermNumbers.{of_kind}
use Rattle.logic.proofs.Longer.{longer_refl, longer_trans, list_longer, list_added, terms_longer, term_added}
use Rattle.logic.proofs.Kept.{signature_kept, sorts_kept, tree_kept, sort_tree_kept}
use Rattle.logic.proofs.FormedKept.{lists_formed_kept, fields_kept}
use Rattle.logic.specs.Lookup.{after, seek, same_variable, same_application, same_binder, same_let}
use Rattle.expansion.specs.Placed.{PlacedTerm, placed, place_variable, place_application, place_binder, place_let}
use Rattle.expansion.proofs.Grown.{lists_longer}
use Rattle.expansion.proofs.AppendedChecked.{Checked, list_checked, list_start_lem, term_checked}

-- ---- lists

pub all_map : {P Q : ℕ → Type 0} → ((x : ℕ) → P x → Q x) → (xs : List ℕ) → All P xs → All Q xs
all_map f [] h = tt
all_map f (x ∷ xs) h = (f x h.0, all_map f xs h.1)

pub all_snoc : (P : ℕ → Type 0) (xs : List ℕ) (x : ℕ) → All P xs → P x → All P (xs ++ (x ∷ []))
all_snoc P [] x h p = (p, tt)
all_snoc P (y ∷ xs) x h p = (h.0, all_snoc P xs x h.1 p)

module _ {b b' : Bundle} (longer : Longer b b') (formed : TablesFormed b) where
  pub gather_kept : (ts : List ℕ) → All (Number (length b.terms)) ts → gather (tree b') ts ≡ gather (tree b) ts
  unfolding gather
  gather_kept [] h = refl
  gather_kept (t ∷ ts) h = ap₂ more (tree_kept longer formed t h.0.1) (gather_kept ts h.1)

  pub sorts_of_kept : (ts : List ℕ) → All (Number (length b.terms)) ts → map (sort_of_term b') ts ≡ map (sort_of_term b) ts
  sorts_of_kept [] h = refl
  sorts_of_kept (t ∷ ts) h = ap₂ (λ (s : ℕ) (ss : List ℕ). s ∷ ss) (sort_tree_kept longer formed t h.0.1) (sorts_of_kept ts h.1)

-- ---- the lookup

after_suc : (n k : ℕ) → after n ≡ suc k → (j : ℕ) × (n ≡ suc j) × (k ≡ suc j)
after_suc zero k e = absurd (omega arith)
after_suc (suc n) k e = (n, refl, omega arith)

after_zero : (n : ℕ) → after n ≡ 0 → n ≡ 0
after_zero zero e = refl
after_zero (suc n) e = absurd (omega arith)

pub seek_found : (p : TermRecord → Bool) (rs : List TermRecord) (n : ℕ) → seek p rs ≡ suc n → (n < length rs) × (p (get_or rs n no_term) ≡ true)
unfolding seek
seek_found p [] n e = absurd (omega arith)
seek_found p (r ∷ rs) n e = go (p r) refl e (λ j. seek_found p rs j)
  where
    go : (q : Bool) → p r ≡ q → cond q 1 (after (seek p rs)) ≡ suc n
        → ((j : ℕ) → seek p rs ≡ suc j → (j < length rs) × (p (get_or rs j no_term) ≡ true)) → (n < suc (length rs)) × (p (get_or (r ∷ rs) n no_term) ≡ true)
    go true q e ih = let z : n ≡ 0 = omega arith in rw z (omega arith, q)
    go false q e ih =
        let (j, is, k) = after_suc (seek p rs) n e in
        let (here, holds) = ih j is in
        rw k (omega arith, holds)

pub seek_none : (p : TermRecord → Bool) (rs : List TermRecord) → seek p rs ≡ 0 → (i : ℕ) → i < length rs → p (get_or rs i no_term) ≡ false
unfolding seek
seek_none p [] e i h = absurd (omega arith)
seek_none p (r ∷ rs) e i h = go (p r) refl e i h (λ z. seek_none p rs z)
  where
    go : (q : Bool) → p r ≡ q → cond q 1 (after (seek p rs)) ≡ 0 → (i : ℕ) → i < suc (length rs)
        → (seek p rs ≡ 0 → (i : ℕ) → i < length rs → p (get_or rs i no_term) ≡ false) → p (get_or (r ∷ rs) i no_term) ≡ false
    go true q e i h ih = absurd (omega arith)
    go false q e zero h ih = q
    go false q e (suc i) h ih = ih (after_zero (seek p rs) e) i (omega arith)

-- ---- the law

pub record PlacedAs (τ : Term) (p : PlacedTerm) : Type 0 where
  pub checked : Checked p.bundle
  pub is_term : Number (length p.bundle.terms) p.term
  pub stands : tree p.bundle p.term ≡ τ

-- b' is b with the lists of the record r appended; then comes r
abbrev pub grown : Bundle → TermRecord → Bundle
grown b' r = with_terms b' (r ∷ [])

-- b with lists appended: no other section is longer
pub record Listed (b b' : Bundle) : Type 0 where
  pub longer : Longer b b'
  pub terms : b'.terms ≡ b.terms
  pub checked : Checked b → Checked b'

pub one_list : (b : Bundle) (vs : List ℕ) → Listed b (add_list b vs)
one_list b vs = record { longer = list_longer b vs; terms = refl; checked = list_checked b vs }

pub two_lists : (b : Bundle) (vs ts : List ℕ) → Listed b (add_list (add_list b vs) ts)
two_lists b vs ts = record { longer = lists_longer b vs ts; terms = refl; checked = λ old. list_checked (add_list b vs) ts (list_checked b vs old) }

module _ (b b' : Bundle) (lists : Listed b b') (p : TermRecord → Bool) (r : TermRecord) where
  -- a new term has no equal: the lookup would have found it
  no_equal : TablesFormed b → ((x : TermRecord) → fields_of b x ≡ fields_of (grown b' r) r → p x ≡ true) → seek p b.terms ≡ 0
      → (i : ℕ) → Number (length b'.terms) i → fields_of b' (term_of b' i) ≡ fields_of (grown b' r) r → ⊥
  no_equal formed complete none i n same =
      let old : Number (length b.terms) i = rw lists.terms at n in
      false≢true (sym (unlike i old) ∙ complete (term_of b i) (sym (fields_kept lists.longer formed i old.1) ∙ same))
    where
      unlike : (i : ℕ) → Number (length b.terms) i → p (term_of b i) ≡ false
      unlike zero n = absurd (omega arith)
      unlike (suc i) n = seek_none p b.terms none i n.1

  -- p finds the terms that stand for τ, and finds each term with the fields of the new record; the new record is well formed and stands for τ
  pub placed_as : (τ : Term) → Checked b
      → ((m : ℕ) → p (term_of b m) ≡ true → tree b m ≡ τ)
      → ((x : TermRecord) → fields_of b x ≡ fields_of (grown b' r) r → p x ≡ true)
      → TermFormed (grown b' r) (suc (length b'.terms))
      → (Checked (grown b' r) → tree (grown b' r) (suc (length b'.terms)) ≡ τ)
      → (n : ℕ) → seek p b.terms ≡ n → PlacedAs τ (placed b b' r n)
  placed_as τ old sound complete formed new zero e =
      let size : length b'.terms ≡ length b.terms = ap length lists.terms in
      record {
        checked = checked;
        is_term = (omega arith, omega (arith, length-append b'.terms (r ∷ [])));
        stands = ap (λ (n : ℕ). tree (grown b' r) (suc n)) (sym size) ∙ new checked;
      }
    where
      checked : Checked (grown b' r)
      checked = term_checked b' r (lists.checked old) formed (no_equal old.formed.tables complete e)
  placed_as τ old sound complete formed new (suc n) e =
      let (here, holds) = seek_found p b.terms n e in
      record { checked = old; is_term = (omega arith, here); stands = sound (suc n) holds }

-- ---- fields, by kind

module _ (b : Bundle) where
  fields_kind : (k : Kind) (x : TermRecord) → (fields_as b k x).kind ≡ x.kind
  unfolding fields_as
  fields_kind variable x = refl
  fields_kind application x = refl
  fields_kind (binder q) x = refl
  fields_kind letting x = refl
  fields_kind other x = refl

  -- a record whose fields are all numbers
  abbrev plain_fields : TermRecord → Fields
  plain_fields x = record { kind = x.kind; first = number x.a; second = number x.b; third = number x.c }

  variable_fields : (x : TermRecord) → x.kind ≡ 1 → fields_of b x ≡ plain_fields x
  unfolding fields_of
  variable_fields x e = ap (λ (n : ℕ). fields_as b (kind_of n) x) e

  binder_fields : (q : Binder) (x : TermRecord) → x.kind ≡ number_of (binder q) → fields_of b x ≡ plain_fields x
  unfolding fields_of
  binder_fields q x e = ap (λ (n : ℕ). fields_as b (kind_of n) x) e ∙ ap (λ (k : Kind). fields_as b k x) (number_kind (binder q))

  application_fields : (x : TermRecord) → x.kind ≡ 2
      → fields_of b x ≡ record { kind = x.kind; first = number x.a; second = list (items b x.b); third = number x.c }
  unfolding fields_of
  application_fields x e = ap (λ (n : ℕ). fields_as b (kind_of n) x) e

  let_fields : (x : TermRecord) → x.kind ≡ 5
      → fields_of b x ≡ record { kind = x.kind; first = list (items b x.a); second = list (items b x.b); third = number x.c }
  unfolding fields_of
  let_fields x e = ap (λ (n : ℕ). fields_as b (kind_of n) x) e

-- records with the same fields are of the same kind
same_kind : (b b' : Bundle) (x y : TermRecord) → fields_of b x ≡ fields_of b' y → x.kind ≡ y.kind
unfolding fields_of
same_kind b b' x y e =
    sym (fields_kind b (kind_of x.kind) x) ∙ ap (λ (f : Fields). f.kind) e ∙ fields_kind b' (kind_of y.kind) y

number_same : {x y : ℕ} → number x ≡ number y → x ≡ y
number_same e = cc

list_same_field : {x y : List ℕ} → list x ≡ list y → x ≡ y
list_same_field e = cc

-- ---- variables

abbrev variable_record : ℕ → TermRecord
variable_record y = record { kind = 1; a = y; b = 0; c = 0 }

abbrev with_variable : Bundle → ℕ → Bundle
with_variable b y = grown (add_list b []) (variable_record y)

variable_formed : (b : Bundle) (y : ℕ) → Number (length b.variables) y → TermFormed (with_variable b y) (suc (length b.terms))
variable_formed b y n = a_variable y (term_added (add_list b []) (variable_record y) (longer_refl (with_variable b y))) n

pub variable_placed : (b : Bundle) (y : ℕ) → Checked b → Number (length b.variables) y → PlacedAs (var y) (place_variable b y)
unfolding same_variable
variable_placed b y old n =
    placed_as b (add_list b []) (one_list b []) (same_variable y) r (var y) old sound complete (variable_formed b y n)
    (λ new. tree_variable B new.formed.tables (suc (length b.terms)) here) (seek (same_variable y) b.terms) refl
  where
    r : TermRecord
    r = variable_record y

    B : Bundle
    B = with_variable b y

    here : term_of B (suc (length b.terms)) ≡ r
    here = term_added (add_list b []) r (longer_refl B)

    sound : (m : ℕ) → same_variable y (term_of b m) ≡ true → tree b m ≡ var y
    sound m e =
        let x : TermRecord = term_of b m in
        tree_variable b old.formed.tables m
        (of_kind b old.formed.tables m (eqb-true x.kind 1 (and_left (eqb x.kind 1) (eqb x.a y) e)))
        ∙ ap var (eqb-true x.a y (and_right (eqb x.kind 1) (eqb x.a y) e))

    complete : (x : TermRecord) → fields_of b x ≡ fields_of B r → same_variable y x ≡ true
    complete x e =
        let k : x.kind ≡ 1 = same_kind b B x r e in
        let same : plain_fields b x ≡ plain_fields B r = sym (variable_fields b x k) ∙ e ∙ variable_fields B r refl in
        and_from (eqb x.kind 1) (eqb x.a y) (eq-eqb x.kind 1 k) (eq-eqb x.a y (number_same (ap (λ (f : Fields). f.first) same)))

-- ---- applications

module _ (b : Bundle) (f : ℕ) (ts : List ℕ) where
  abbrev application_record : TermRecord
  application_record = record { kind = 2; a = f; b = list_start b ts; c = 0 }

  abbrev with_application : Bundle
  with_application = grown (add_list b ts) application_record

  application_listed : Longer (add_list b ts) with_application
  application_listed = terms_longer (add_list b ts) (application_record ∷ [])

  application_grown : Longer b with_application
  application_grown = longer_trans (list_longer b ts) application_listed

  application_here : term_of with_application (suc (length b.terms)) ≡ application_record
  application_here = term_added (add_list b ts) application_record (longer_refl with_application)

  application_formed : TablesFormed b → (signature_of b f ≡ Unknown → ⊥) → All (Number (length b.terms)) ts
      → argument_sorts b (signature_of b f) ≡ map (sort_of_term b) ts → TermFormed with_application (suc (length b.terms))
  application_formed formed known are sorts =
      let longer : Longer b with_application = application_grown in
      let li : items with_application (list_start b ts) ≡ ts = list_added b ts application_listed in
      an_application f (list_start b ts) application_here (λ u. known (sym (signature_kept longer f known) ∙ u)) (list_start_lem b ts application_listed)
      (rw li (all_map (λ t n. (n.0, omega (arith, n.1))) ts are))
      (rw li (sorts_kept longer formed f known ∙ sorts ∙ sym (sorts_of_kept longer formed ts are)))

pub application_placed : (b : Bundle) (f : ℕ) (ts : List ℕ) → Checked b → (signature_of b f ≡ Unknown → ⊥) → All (Number (length b.terms)) ts
    → argument_sorts b (signature_of b f) ≡ map (sort_of_term b) ts → PlacedAs (app f (gather (tree b) ts)) (place_application b f ts)
unfolding same_application
application_placed b f ts old known are sorts =
    placed_as b (add_list b ts) (one_list b ts) (same_application b f ts) r (app f (gather (tree b) ts)) old sound complete
    (application_formed b f ts formed known are sorts)
    (λ new. tree_application B new.formed.tables (suc (length b.terms)) (application_here b f ts)
    ∙ ap (λ (l : List ℕ). app f (gather (tree B) l)) li ∙ ap (app f) (gather_kept (application_grown b f ts) formed ts are))
    (seek (same_application b f ts) b.terms) refl
  where
    r : TermRecord
    r = application_record b f ts

    B : Bundle
    B = with_application b f ts

    formed : TablesFormed b
    formed = old.formed.tables

    li : items B (list_start b ts) ≡ ts
    li = list_added b ts (application_listed b f ts)

    sound : (m : ℕ) → same_application b f ts (term_of b m) ≡ true → tree b m ≡ app f (gather (tree b) ts)
    sound m e =
        let x : TermRecord = term_of b m in
        let rest : (eqb x.a f && same_list (items b x.b) ts) ≡ true = and_right (eqb x.kind 2) (eqb x.a f && same_list (items b x.b) ts) e in
        tree_application b formed m
        (of_kind b formed m (eqb-true x.kind 2 (and_left (eqb x.kind 2) (eqb x.a f && same_list (items b x.b) ts) e)))
        ∙ ap₂ (λ (g : ℕ) (l : List ℕ). app g (gather (tree b) l)) (eqb-true x.a f (and_left (eqb x.a f) (same_list (items b x.b) ts) rest))
        (same_list_lem (items b x.b) ts (and_right (eqb x.a f) (same_list (items b x.b) ts) rest))

    complete : (x : TermRecord) → fields_of b x ≡ fields_of B r → same_application b f ts x ≡ true
    complete x e =
        let k : x.kind ≡ 2 = same_kind b B x r e in
        let same = sym (application_fields b x k) ∙ e ∙ application_fields B r refl in
        and_from (eqb x.kind 2) (eqb x.a f && same_list (items b x.b) ts) (eq-eqb x.kind 2 k)
        (and_from (eqb x.a f) (same_list (items b x.b) ts) (eq-eqb x.a f (number_same (ap (λ (f : Fields). f.first) same)))
        (list_same (items b x.b) ts (list_same_field (ap (λ (f : Fields). f.second) same) ∙ li)))

-- ---- binders

abbrev binder_record : Binder → ℕ → ℕ → TermRecord
binder_record q y t = record { kind = number_of (binder q); a = y; b = t; c = 0 }

module _ (b : Bundle) (q : Binder) (y t : ℕ) where
  abbrev with_binder : Bundle
  with_binder = grown (add_list b []) (binder_record q y t)

  binder_grown : Longer b with_binder
  binder_grown = longer_trans (list_longer b []) (terms_longer (add_list b []) (binder_record q y t ∷ []))

  binder_here : term_of with_binder (suc (length b.terms)) ≡ binder_record q y t
  binder_here = term_added (add_list b []) (binder_record q y t) (longer_refl with_binder)

  binder_formed : TablesFormed b → Number (length b.variables) y → Number (length b.terms) t → sort_of_term b t ≡ truth_sort
      → TermFormed with_binder (suc (length b.terms))
  binder_formed formed ny nt sorted =
      a_binder q (number_of (binder q)) y t binder_here (number_kind (binder q)) ny
      (nt.0, omega (arith, nt.1)) (sort_tree_kept binder_grown formed t nt.1 ∙ sorted)

pub binder_placed : (b : Bundle) (q : Binder) (y t : ℕ) → Checked b → Number (length b.variables) y → Number (length b.terms) t
    → sort_of_term b t ≡ truth_sort → PlacedAs (bind q y (tree b t)) (place_binder b q y t)
unfolding same_binder
binder_placed b q y t old ny nt sorted =
    placed_as b (add_list b []) (one_list b []) (same_binder q y t) r (bind q y (tree b t)) old sound complete (binder_formed b q y t formed ny nt sorted)
    (λ new. tree_binder B new.formed.tables (suc (length b.terms)) q (binder_here b q y t) (number_kind (binder q))
    ∙ ap (bind q y) (tree_kept (binder_grown b q y t) formed t nt.1))
    (seek (same_binder q y t) b.terms) refl
  where
    r : TermRecord
    r = binder_record q y t

    B : Bundle
    B = with_binder b q y t

    formed : TablesFormed b
    formed = old.formed.tables

    sound : (m : ℕ) → same_binder q y t (term_of b m) ≡ true → tree b m ≡ bind q y (tree b t)
    sound m e =
        let x : TermRecord = term_of b m in
        let rest : (eqb x.a y && eqb x.b t) ≡ true = and_right (eqb x.kind (number_of (binder q))) (eqb x.a y && eqb x.b t) e in
        let k : x.kind ≡ number_of (binder q) = eqb-true x.kind (number_of (binder q))
        (and_left (eqb x.kind (number_of (binder q))) (eqb x.a y && eqb x.b t) e) in
        tree_binder b formed m q refl (binder_number x.kind q k)
        ∙ ap₂ (λ (z u : ℕ). bind q z (tree b u)) (eqb-true x.a y (and_left (eqb x.a y) (eqb x.b t) rest))
        (eqb-true x.b t (and_right (eqb x.a y) (eqb x.b t) rest))

    complete : (x : TermRecord) → fields_of b x ≡ fields_of B r → same_binder q y t x ≡ true
    complete x e =
        let k : x.kind ≡ number_of (binder q) = same_kind b B x r e in
        let same : plain_fields b x ≡ plain_fields B r = sym (binder_fields b q x k) ∙ e ∙ binder_fields B q r refl in
        and_from (eqb x.kind (number_of (binder q))) (eqb x.a y && eqb x.b t) (eq-eqb x.kind (number_of (binder q)) k)
        (and_from (eqb x.a y) (eqb x.b t) (eq-eqb x.a y (number_same (ap (λ (f : Fields). f.first) same)))
        (eq-eqb x.b t (number_same (ap (λ (f : Fields). f.second) same))))

-- ---- lets

module _ (b : Bundle) (vs ts : List ℕ) (t : ℕ) where
  abbrev let_record : TermRecord
  let_record = record { kind = number_of letting; a = list_start b vs; b = list_start (add_list b vs) ts; c = t }

  abbrev with_let : Bundle
  with_let = grown (add_list (add_list b vs) ts) let_record

  let_listed : Longer (add_list (add_list b vs) ts) with_let
  let_listed = terms_longer (add_list (add_list b vs) ts) (let_record ∷ [])

  let_grown : Longer b with_let
  let_grown = longer_trans (lists_longer b vs ts) let_listed

  let_here : term_of with_let (suc (length b.terms)) ≡ let_record
  let_here = term_added (add_list (add_list b vs) ts) let_record (longer_refl with_let)

  let_variables : items with_let (list_start b vs) ≡ vs
  let_variables = list_added b vs (longer_trans (list_longer (add_list b vs) ts) let_listed)

  let_terms : items with_let (list_start (add_list b vs) ts) ≡ ts
  let_terms = list_added (add_list b vs) ts let_listed

  let_formed : TablesFormed b → All (Number (length b.variables)) vs → All (Number (length b.terms)) ts → Number (length b.terms) t
      → ListsFormed b vs ts → TermFormed with_let (suc (length b.terms))
  let_formed formed nv nt n lists =
      a_let (list_start b vs) (list_start (add_list b vs) ts) t let_here
      (list_start_lem b vs (longer_trans (list_longer (add_list b vs) ts) let_listed)) (rw let_variables nv)
      (list_start_lem (add_list b vs) ts let_listed) (rw let_terms (all_map (λ u k. (k.0, omega (arith, k.1))) ts nt)) (n.0, omega (arith, n.1))
      (rw (let_variables, let_terms) (lists_formed_kept let_grown formed vs ts nv nt lists))

pub let_placed : (b : Bundle) (vs ts : List ℕ) (t : ℕ) → Checked b → All (Number (length b.variables)) vs → All (Number (length b.terms)) ts
    → Number (length b.terms) t → ListsFormed b vs ts → PlacedAs (let_in vs (gather (tree b) ts) (tree b t)) (place_let b vs ts t)
unfolding same_let
let_placed b vs ts t old nv nt n lists =
    placed_as b (add_list (add_list b vs) ts) (two_lists b vs ts) (same_let b vs ts t) r (let_in vs (gather (tree b) ts) (tree b t)) old sound complete
    (let_formed b vs ts t formed nv nt n lists)
    (λ new. tree_let B new.formed.tables (suc (length b.terms)) (let_here b vs ts t) ∙ same_parts)
    (seek (same_let b vs ts t) b.terms) refl
  where
    r : TermRecord
    r = let_record b vs ts t

    B : Bundle
    B = with_let b vs ts t

    formed : TablesFormed b
    formed = old.formed.tables

    same_parts : let_in (items B r.a) (gather (tree B) (items B r.b)) (tree B t) ≡ let_in vs (gather (tree b) ts) (tree b t)
    same_parts =
        ap₂ (λ (us ws : List ℕ). let_in us (gather (tree B) ws) (tree B t)) (let_variables b vs ts t) (let_terms b vs ts t)
        ∙ ap₂ (let_in vs) (gather_kept (let_grown b vs ts t) formed ts nt) (tree_kept (let_grown b vs ts t) formed t n.1)

    sound : (m : ℕ) → same_let b vs ts t (term_of b m) ≡ true → tree b m ≡ let_in vs (gather (tree b) ts) (tree b t)
    sound m e =
        let x : TermRecord = term_of b m in
        let k = and_left (eqb x.kind 5) (same_list (items b x.a) vs && (same_list (items b x.b) ts && eqb x.c t)) e in
        let e₁ = and_right (eqb x.kind 5) (same_list (items b x.a) vs && (same_list (items b x.b) ts && eqb x.c t)) e in
        let e₂ = and_right (same_list (items b x.a) vs) (same_list (items b x.b) ts && eqb x.c t) e₁ in
        let v = same_list_lem (items b x.a) vs (and_left (same_list (items b x.a) vs) (same_list (items b x.b) ts && eqb x.c t) e₁) in
        let w = same_list_lem (items b x.b) ts (and_left (same_list (items b x.b) ts) (eqb x.c t) e₂) in
        let u = eqb-true x.c t (and_right (same_list (items b x.b) ts) (eqb x.c t) e₂) in
        tree_let b formed m (of_kind b formed m (eqb-true x.kind 5 k))
        ∙ ap₂ (λ (us ws : List ℕ). let_in us (gather (tree b) ws) (tree b x.c)) v w
        ∙ ap (λ (z : ℕ). let_in vs (gather (tree b) ts) (tree b z)) u

    complete : (x : TermRecord) → fields_of b x ≡ fields_of B r → same_let b vs ts t x ≡ true
    complete x e =
        let k : x.kind ≡ 5 = same_kind b B x r e in
        let same = sym (let_fields b x k) ∙ e ∙ let_fields B r refl in
        and_from (eqb x.kind 5) (same_list (items b x.a) vs && (same_list (items b x.b) ts && eqb x.c t)) (eq-eqb x.kind 5 k)
        (and_from (same_list (items b x.a) vs) (same_list (items b x.b) ts && eqb x.c t)
        (list_same (items b x.a) vs (list_same_field (ap (λ (f : Fields). f.first) same) ∙ let_variables b vs ts t))
        (and_from (same_list (items b x.b) ts) (eqb x.c t)
        (list_same (items b x.b) ts (list_same_field (ap (λ (f : Fields). f.second) same) ∙ let_terms b vs ts t))
        (eq-eqb x.c t (number_same (ap (λ (f : Fields). f.third) same)))))
