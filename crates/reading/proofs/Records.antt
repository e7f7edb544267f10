-- The records of a well_sorted term, appended to a bundle.
--     SameDeclared, file_declares   no section but terms and links is longer
--     FiledAs, filed                THE LAW: the bundle stays well formed, and the term's number stands for it
--     depth_below                   a term's number is at least its depth
use Prim.Native.Nat.{ℕ, zero, suc, ◌≤◌, ◌<◌}
use native.Mathlib.Omega.{arith}
use mathlib.Core.Path.{◌≡◌, refl, sym, ap, ap₂, ◌∙◌, subst}
use mathlib.Core.List.{List, [], ◌∷◌, map}
use lib.ListN.{length}
use Rattle.bundle.specs.Bundle.{Bundle, TermRecord, sort_of_variable}
use Rattle.logic.specs.declared.Signature.TheVariants.{Unknown}
use Rattle.logic.specs.Lists.{All, Number}
use Rattle.logic.specs.Symbols.{signature_of}
use Rattle.logic.specs.Terms.{Binder, Term, Terms, var, app, bind, let_in, none, more, gather, tree}
use Rattle.logic.specs.Sorts.{sort}
use Rattle.logic.specs.WellFormed.{sort_of_term, Lower, TablesFormed}
use Rattle.logic.specs.Longer.{Longer, add_list}
use Rattle.logic.specs.Lookup.{seek, same_variable, same_application, same_binder, same_let}
use Rattle.logic.proofs.Images.{sorts_of, sorts_gather}
use Rattle.logic.proofs.Longer.{longer_refl, longer_trans, sizes}
use Rattle.logic.proofs.Kept.{variable_kept, signature_kept, sorts_kept, tree_kept}
use Rattle.logic.proofs.Shapes.{Shape, var_shape, app_shape, bind_shape, let_shape, shape}
use Rattle.expansion.specs.Placed.{PlacedTerm, placed, place_variable, place_application, place_binder, place_let}
use Rattle.expansion.proofs.Grown.{variable_longer, application_longer, binder_longer, let_longer}
use Rattle.expansion.proofs.AppendedChecked.{Checked}
use Rattle.expansion.proofs.Placement.{all_map, gather_kept, PlacedAs, variable_placed, application_placed, binder_placed, let_placed}
use Rattle.reading.specs.Records.{PlacedTerms, file, file_all, depth, depth_all}
use Rattle.reading.proofs.TermSorts.{TermSorted, TermsSorted, sort_in_lem, sorts_in}

-- ---- no section but terms and links is longer

pub record SameDeclared (b b' : Bundle) : Type 0 where
  pub symbols : b'.symbols ≡ b.symbols
  pub variables : b'.variables ≡ b.variables
  pub contexts : b'.contexts ≡ b.contexts
  pub steps : b'.steps ≡ b.steps

same_refl : (b : Bundle) → SameDeclared b b
same_refl b = record { symbols = refl; variables = refl; contexts = refl; steps = refl }

same_trans : {a b c : Bundle} → SameDeclared a b → SameDeclared b c → SameDeclared a c
same_trans p q = record {
  symbols = q.symbols ∙ p.symbols;
  variables = q.variables ∙ p.variables;
  contexts = q.contexts ∙ p.contexts;
  steps = q.steps ∙ p.steps;
}

placed_declares : (b b' : Bundle) (r : TermRecord) (n : ℕ) → SameDeclared b b' → SameDeclared b (placed b b' r n).bundle
placed_declares b b' r zero h = record { symbols = h.symbols; variables = h.variables; contexts = h.contexts; steps = h.steps }
placed_declares b b' r (suc n) h = same_refl b

-- lists are only links
listed : (b : Bundle) (vs : List ℕ) → SameDeclared b (add_list b vs)
listed b vs = record { symbols = refl; variables = refl; contexts = refl; steps = refl }

variable_declares : (b : Bundle) (x : ℕ) → SameDeclared b (place_variable b x).bundle
variable_declares b x = placed_declares b (add_list b []) _ (seek (same_variable x) b.terms) (listed b [])

application_declares : (b : Bundle) (f : ℕ) (ts : List ℕ) → SameDeclared b (place_application b f ts).bundle
application_declares b f ts = placed_declares b (add_list b ts) _ (seek (same_application b f ts) b.terms) (listed b ts)

binder_declares : (b : Bundle) (q : Binder) (x t : ℕ) → SameDeclared b (place_binder b q x t).bundle
binder_declares b q x t = placed_declares b (add_list b []) _ (seek (same_binder q x t) b.terms) (listed b [])

let_declares : (b : Bundle) (vs ts : List ℕ) (t : ℕ) → SameDeclared b (place_let b vs ts t).bundle
let_declares b vs ts t =
    placed_declares b (add_list (add_list b vs) ts) _ (seek (same_let b vs ts t) b.terms) (same_trans (listed b vs) (listed (add_list b vs) ts))

mutual
  unfolding file

  pub file_declares : (τ : Term) (b : Bundle) → SameDeclared b (file τ b).bundle
  file_declares (var x) b = variable_declares b x
  file_declares (app f ts) b = same_trans (all_declare ts b) (application_declares (file_all ts b).bundle f (file_all ts b).terms)
  file_declares (bind q x t) b = same_trans (file_declares t b) (binder_declares (file t b).bundle q x (file t b).term)
  file_declares (let_in vs ts t) b =
      let p : PlacedTerms = file_all ts b in
      let r : PlacedTerm = file t p.bundle in
      same_trans (all_declare ts b) (same_trans (file_declares t p.bundle) (let_declares r.bundle vs p.terms r.term))

  all_declare : (ts : Terms) (b : Bundle) → SameDeclared b (file_all ts b).bundle
  all_declare none b = same_refl b
  all_declare (more t ts) b = same_trans (file_declares t b) (all_declare ts (file t b).bundle)

-- ---- what the records of a term leave

pub record FiledAs (b : Bundle) (τ : Term) (p : PlacedTerm) : Type 0 where
  pub longer : Longer b p.bundle
  pub placed : PlacedAs τ p

pub record AllFiled (b : Bundle) (ts : Terms) (p : PlacedTerms) : Type 0 where
  pub longer : Longer b p.bundle
  pub checked : Checked p.bundle
  pub are_terms : All (Number (length p.bundle.terms)) p.terms
  pub stand : gather (tree p.bundle) p.terms ≡ ts

-- b₀ has the declarations
module _ (b₀ : Bundle) (formed : TablesFormed b₀) where
  module _ {b : Bundle} (longer : Longer b₀ b) where
    wider : (x : ℕ) → Number (length b₀.variables) x → Number (length b.variables) x
    wider x n = (n.0, omega (arith, n.1, (sizes longer).variables))

    known_in : (f : ℕ) → (signature_of b₀ f ≡ Unknown → ⊥) → signature_of b f ≡ Unknown → ⊥
    known_in f k u = k (sym (signature_kept longer f k) ∙ u)

    variable_sorts_lem : (vs : List ℕ) → All (Number (length b₀.variables)) vs → map (sort_of_variable b) vs ≡ map (sort_of_variable b₀) vs
    variable_sorts_lem [] h = refl
    variable_sorts_lem (x ∷ vs) h = ap₂ (λ (s : ℕ) (ss : List ℕ). s ∷ ss) (variable_kept longer x h.0.1) (variable_sorts_lem vs h.1)

    -- the sorts of numbers that stand for terms
    term_sorts_lem : (ts : Terms) (ns : List ℕ) → TermsSorted b₀ ts → gather (tree b) ns ≡ ts → sorts_of b₀ ts ≡ map (sort_of_term b) ns
    term_sorts_lem ts ns h stand = sym (sorts_in longer ts h) ∙ ap (sorts_of b) (sym stand) ∙ sym (sorts_gather b ns)

  mutual
    unfolding file gather

    -- THE LAW
    pub filed : (τ : Term) (b : Bundle) → Longer b₀ b → Checked b → TermSorted b₀ τ → FiledAs b τ (file τ b)
    filed (var x) b longer old h = record { longer = variable_longer b x; placed = variable_placed b x old (wider longer x h) }
    filed (app f ts) b longer old h =
        let p : PlacedTerms = file_all ts b in
        let a : AllFiled b ts p = all_filed ts b longer old h.2 in
        let l : Longer b₀ p.bundle = longer_trans longer a.longer in
        record {
          longer = longer_trans a.longer (application_longer p.bundle f p.terms);
          placed = subst (λ (us : Terms). PlacedAs (app f us) (place_application p.bundle f p.terms)) a.stand
              (application_placed p.bundle f p.terms a.checked (known_in l f h.0) a.are_terms
              (sorts_kept l formed f h.0 ∙ h.1 ∙ term_sorts_lem l ts p.terms h.2 a.stand));
        }
    filed (bind q x t) b longer old h =
        let p : PlacedTerm = file t b in
        let a : FiledAs b t p = filed t b longer old h.2 in
        let l : Longer b₀ p.bundle = longer_trans longer a.longer in
        record {
          longer = longer_trans a.longer (binder_longer p.bundle q x p.term);
          placed = subst (λ (u : Term). PlacedAs (bind q x u) (place_binder p.bundle q x p.term)) a.placed.stands
              (binder_placed p.bundle q x p.term a.placed.checked (wider l x h.0) a.placed.is_term
              (ap (sort p.bundle) a.placed.stands ∙ sort_in_lem l t h.2 ∙ h.1));
        }
    filed (let_in vs ts t) b longer old h =
        let p : PlacedTerms = file_all ts b in
        let a : AllFiled b ts p = all_filed ts b longer old h.4 in
        let l₁ : Longer b₀ p.bundle = longer_trans longer a.longer in
        let r : PlacedTerm = file t p.bundle in
        let c : FiledAs p.bundle t r = filed t p.bundle l₁ a.checked h.5 in
        let l : Longer b₀ r.bundle = longer_trans l₁ c.longer in
        let stand : gather (tree r.bundle) p.terms ≡ ts = gather_kept c.longer a.checked.formed.tables p.terms a.are_terms ∙ a.stand in
        record {
          longer = longer_trans a.longer (longer_trans c.longer (let_longer r.bundle vs p.terms r.term));
          placed = subst (λ (us : Terms). PlacedAs (let_in vs us t) (place_let r.bundle vs p.terms r.term)) stand
              (subst (λ (u : Term). PlacedAs (let_in vs (gather (tree r.bundle) p.terms) u) (place_let r.bundle vs p.terms r.term))
              c.placed.stands
              (let_placed r.bundle vs p.terms r.term c.placed.checked (all_map (wider l) vs h.0)
              (all_map (λ u n. (n.0, omega (arith, n.1, (sizes c.longer).terms))) p.terms a.are_terms) c.placed.is_term
              (record { some = h.1; different = h.2; sorts = variable_sorts_lem l vs h.0 ∙ h.3 ∙ term_sorts_lem l ts p.terms h.4 stand })));
        }

    pub all_filed : (ts : Terms) (b : Bundle) → Longer b₀ b → Checked b → TermsSorted b₀ ts → AllFiled b ts (file_all ts b)
    all_filed none b longer old h = record { longer = longer_refl b; checked = old; are_terms = tt; stand = refl }
    all_filed (more t ts) b longer old h =
        let p : PlacedTerm = file t b in
        let a : FiledAs b t p = filed t b longer old h.0 in
        let q : PlacedTerms = file_all ts p.bundle in
        let c : AllFiled p.bundle ts q = all_filed ts p.bundle (longer_trans longer a.longer) a.placed.checked h.1 in
        let first : tree q.bundle p.term ≡ t =
        tree_kept c.longer a.placed.checked.formed.tables p.term a.placed.is_term.1 ∙ a.placed.stands in
        record {
          longer = longer_trans a.longer c.longer;
          checked = c.checked;
          are_terms = ((a.placed.is_term.0, omega (arith, a.placed.is_term.1, (sizes c.longer).terms)), c.are_terms);
          stand = ap₂ more first c.stand;
        }

-- ---- how deep terms are nested

module _ (b : Bundle) (formed : TablesFormed b) where
  Deep : ℕ → Type 0
  Deep t = depth (tree b t) ≤ t

  lower_depth : (t : ℕ) → 1 ≤ t → (ts : List ℕ) → All (Lower t) ts → ((u : ℕ) → Lower t u → Deep u) → depth_all (gather (tree b) ts) < t
  unfolding depth gather Deep
  lower_depth t some [] low deep = omega arith
  lower_depth t some (u ∷ ts) low deep = omega (arith, low.0.1, deep u low.0, lower_depth t some ts low.1 deep)

  depth_to : (n t : ℕ) → t ≤ n → Number (length b.terms) t → Deep t
  unfolding depth Deep
  depth_to zero t l is = absurd (omega (arith, is.0))
  depth_to (suc n) t l is = go (shape b t (formed.terms t is)) (λ u low. depth_to n u (omega (arith, low.1)) (low.0, omega (arith, low.1, is.1)))
    where
      go : Shape b t → ((u : ℕ) → Lower t u → Deep u) → depth (tree b t) ≤ t
      go (var_shape x e n) deep = rw e is.0
      go (app_shape f ts e k low sorts) deep = rw e (lower_depth t is.0 ts low deep)
      go (bind_shape q x u e n low sorts) deep = rw e (omega (arith, low.1, deep u low))
      go (let_shape vs ts u e nv lows low lists) deep = rw e (omega (arith, low.1, deep u low, lower_depth t is.0 ts lows deep))

  pub depth_below : (t : ℕ) → Number (length b.terms) t → depth (tree b t) ≤ t
  unfolding Deep
  depth_below t is = depth_to t t (omega arith) is
