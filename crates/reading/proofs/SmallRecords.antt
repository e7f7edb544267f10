-- All numbers of the records of a well_sorted term are words of 32 bits, where the counts are within the limits.
--     known_small      a symbol that there is
--     term_small       THE LAW
use Prim.Native.Nat.{ℕ, ◌+◌, ◌≤◌}
use native.Mathlib.Omega.{arith}
use native.Mathlib.Decide.{dec_le}
use mathlib.Core.Path.{◌≡◌}
use mathlib.Core.List.{List, [], ◌∷◌}
use lib.ListN.{length}
use Rattle.bundle.specs.File.{own_counts}
use Rattle.bundle.specs.Bundle.{Bundle}
use Rattle.bundle.specs.Limits.{Within}
use Rattle.logic.specs.declared.Signature.TheVariants.{Unknown}
use Rattle.logic.specs.Lists.{All, Number}
use Rattle.logic.specs.Symbols.{signature_of}
use Rattle.logic.specs.Terms.{Binder, Term, Terms, var, app, bind, let_in, none, more}
use Rattle.logic.specs.WellFormed.{TablesFormed}
use Rattle.logic.specs.Longer.{Longer, add_list}
use Rattle.logic.specs.Lookup.{seek, same_application, same_binder, same_let}
use Rattle.logic.proofs.Longer.{longer_trans, sizes, list_longer}
use Rattle.expansion.specs.Placed.{PlacedTerm, place_application, place_binder, place_let}
use Rattle.expansion.proofs.Grown.{variable_longer, application_longer, binder_longer, lists_longer, let_longer}
use Rattle.expansion.proofs.AppendedChecked.{Checked}
use Rattle.expansion.proofs.SmallNumbers.{Word, SmallBundle}
use Rattle.expansion.proofs.SmallWords.{SmallPlaced, binder_word, seek_le, list_small, start_small, placed_small, variable_small}
use Rattle.reading.specs.Records.{PlacedTerms, file, file_all}
use Rattle.reading.proofs.KnownNames.{past_signature}
use Rattle.reading.proofs.TermSorts.{TermSorted, TermsSorted}
use Rattle.reading.proofs.Records.{FiledAs, AllFiled, filed, all_filed}

-- a symbol that there is is built in or declared
pub known_small : (b : Bundle) (f : ℕ) → (signature_of b f ≡ Unknown → ⊥) → f ≤ 32 + length b.symbols
known_small b f known = go (dec_le f (32 + length b.symbols))
  where
    go : Dec (f ≤ 32 + length b.symbols) → f ≤ 32 + length b.symbols
    go (yes l) = l
    go (no l) = absurd (known (past_signature b f (omega arith)))

pub record SmallTerms (p : PlacedTerms) : Type 0 where
  pub bundle : SmallBundle p.bundle
  pub terms : All Word p.terms

-- b₀ has the declarations; `end` is the last bundle, and within the limits
module _ (b₀ : Bundle) (formed : TablesFormed b₀) {end : Bundle} (fit : Within (own_counts end)) where
  variable_word : {b : Bundle} → Longer b₀ b → Longer b end → (x : ℕ) → Number (length b₀.variables) x → Word x
  variable_word l e x n = omega (arith, n.1, (sizes l).variables, (sizes e).variables, fit.variables)

  variables_word : {b : Bundle} → Longer b₀ b → Longer b end → (xs : List ℕ) → All (Number (length b₀.variables)) xs → All Word xs
  variables_word l e [] h = tt
  variables_word l e (x ∷ xs) h = (variable_word l e x h.0, variables_word l e xs h.1)

  -- ---- one record

  application_small : (b : Bundle) (f : ℕ) (ts : List ℕ) → SmallBundle b → Word f → All Word ts → Longer (place_application b f ts).bundle end
      → SmallPlaced (place_application b f ts)
  application_small b f ts small w h e =
      placed_small fit b (add_list b ts) _ (seek (same_application b f ts) b.terms) small (list_longer b ts)
      (λ l. (list_small fit b ts small h l, (omega arith, (w, (start_small fit b ts l, (omega arith, tt))))))
      (seek_le (same_application b f ts) b.terms) e

  quantifier_small : (b : Bundle) (q : Binder) (x t : ℕ) → SmallBundle b → Word x → Word t → Longer (place_binder b q x t).bundle end
      → SmallPlaced (place_binder b q x t)
  quantifier_small b q x t small w v e =
      placed_small fit b (add_list b []) _ (seek (same_binder q x t) b.terms) small (list_longer b [])
      (λ l. (list_small fit b [] small tt l, (binder_word q, (w, (v, (omega arith, tt)))))) (seek_le (same_binder q x t) b.terms) e

  let_small : (b : Bundle) (vs ts : List ℕ) (t : ℕ) → SmallBundle b → All Word vs → All Word ts → Word t → Longer (place_let b vs ts t).bundle end
      → SmallPlaced (place_let b vs ts t)
  let_small b vs ts t small hv ht w e =
      placed_small fit b (add_list (add_list b vs) ts) _ (seek (same_let b vs ts t) b.terms) small (lists_longer b vs ts)
      (λ l.
      let l₁ : Longer (add_list b vs) end = longer_trans (list_longer (add_list b vs) ts) l in (
        list_small fit (add_list b vs) ts (list_small fit b vs small hv l₁) ht l,
        (omega arith, (start_small fit b vs l₁, (start_small fit (add_list b vs) ts l, (w, tt)))),
      ))
      (seek_le (same_let b vs ts t) b.terms) e

  -- ---- terms

  mutual
    unfolding file

    -- THE LAW
    pub term_small : (τ : Term) (b : Bundle) → Longer b₀ b → Checked b → TermSorted b₀ τ → SmallBundle b → Longer (file τ b).bundle end
        → SmallPlaced (file τ b)
    term_small (var x) b l old h small e =
        variable_small fit b x small (variable_word l (longer_trans (variable_longer b x) e) x h) e
    term_small (app f ts) b l old h small e =
        let p : PlacedTerms = file_all ts b in
        let a : AllFiled b ts p = all_filed b₀ formed ts b l old h.2 in
        let e₁ : Longer p.bundle end = longer_trans (application_longer p.bundle f p.terms) e in
        let s : SmallTerms p = all_small ts b l old h.2 small e₁ in
        let symbols = (sizes (longer_trans l (longer_trans a.longer e₁))).symbols in
        application_small p.bundle f p.terms s.bundle (omega (arith, known_small b₀ f h.0, symbols, fit.symbols)) s.terms e
    term_small (bind q x t) b l old h small e =
        let p : PlacedTerm = file t b in
        let a : FiledAs b t p = filed b₀ formed t b l old h.2 in
        let e₁ : Longer p.bundle end = longer_trans (binder_longer p.bundle q x p.term) e in
        let s : SmallPlaced p = term_small t b l old h.2 small e₁ in
        quantifier_small p.bundle q x p.term s.bundle (variable_word (longer_trans l a.longer) e₁ x h.0) s.term e
    term_small (let_in vs ts t) b l old h small e =
        let p : PlacedTerms = file_all ts b in
        let a : AllFiled b ts p = all_filed b₀ formed ts b l old h.4 in
        let l₁ : Longer b₀ p.bundle = longer_trans l a.longer in
        let r : PlacedTerm = file t p.bundle in
        let c : FiledAs p.bundle t r = filed b₀ formed t p.bundle l₁ a.checked h.5 in
        let e₂ : Longer r.bundle end = longer_trans (let_longer r.bundle vs p.terms r.term) e in
        let s : SmallTerms p = all_small ts b l old h.4 small (longer_trans c.longer e₂) in
        let u : SmallPlaced r = term_small t p.bundle l₁ a.checked h.5 s.bundle e₂ in
        let_small r.bundle vs p.terms r.term u.bundle (variables_word (longer_trans l₁ c.longer) e₂ vs h.0) s.terms u.term e

    all_small : (ts : Terms) (b : Bundle) → Longer b₀ b → Checked b → TermsSorted b₀ ts → SmallBundle b → Longer (file_all ts b).bundle end
        → SmallTerms (file_all ts b)
    all_small none b l old h small e = record { bundle = small; terms = tt }
    all_small (more t ts) b l old h small e =
        let p : PlacedTerm = file t b in
        let a : FiledAs b t p = filed b₀ formed t b l old h.0 in
        let l₁ : Longer b₀ p.bundle = longer_trans l a.longer in
        let c : AllFiled p.bundle ts (file_all ts p.bundle) = all_filed b₀ formed ts p.bundle l₁ a.placed.checked h.1 in
        let s : SmallPlaced p = term_small t b l old h.0 small (longer_trans c.longer e) in
        let u : SmallTerms (file_all ts p.bundle) = all_small ts p.bundle l₁ a.placed.checked h.1 s.bundle e in
        record { bundle = u.bundle; terms = (s.term, u.terms) }
