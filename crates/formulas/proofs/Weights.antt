-- The parts of all terms up to a number, and the links that they have.
--     arity, weight                  how many parts a term has; how many the terms up to a number have together
--     pending_below                  at most so many parts wait at once in the term of that number
--     Light, file_light              THE LAW: a formula's records have a link for each part
--     pending_never_fits             THE THEOREM
use Prim.Native.Nat.{ℕ, zero, suc, ◌+◌, ◌≤◌}
use native.Mathlib.Omega.{arith}
use native.Mathlib.Decide.{dec_le}
use mathlib.Core.Path.{◌≡◌, refl, sym, ap, ap₂, ◌∙◌, subst}
use mathlib.Core.List.{List, [], ◌∷◌}
use lib.ListN.{length, length-append}
use Rattle.bundle.specs.Bundle.{Bundle, TermRecord}
use Rattle.bundle.specs.File.{bundle_of}
use Rattle.logic.specs.Lists.{All, Number}
use Rattle.logic.specs.Terms.{Term, Terms, var, app, bind, let_in, none, more, gather, tree}
use Rattle.logic.specs.WellFormed.{Lower, TablesFormed}
use Rattle.logic.specs.Longer.{Longer, with_terms, add_list}
use Rattle.logic.specs.Lookup.{seek, same_variable, same_application, same_binder, same_let}
use Rattle.logic.proofs.Longer.{longer_refl, longer_trans, list_longer, terms_longer, list_length}
use Rattle.logic.proofs.Kept.{tree_kept}
use Rattle.logic.proofs.Shapes.{Shape, var_shape, app_shape, bind_shape, let_shape, shape}
use Rattle.expansion.specs.Placed.{PlacedTerm, placed}
use Rattle.expansion.proofs.Grown.{lists_longer}
use Rattle.expansion.proofs.AppendedChecked.{Checked}
use Rattle.expansion.proofs.Placement.{PlacedAs}
use Rattle.reading.specs.Local.{plain}
use Rattle.reading.specs.Records.{PlacedTerms, file, file_all}
use Rattle.reading.specs.Answers.{filed_for}
use Rattle.reading.proofs.TermSorts.{TermSorted, TermsSorted}
use Rattle.reading.proofs.Records.{FiledAs, AllFiled, filed, all_filed}
use Rattle.reading.proofs.Jobs.{declared_checked, term_sorted, job_filed}
use Rattle.formulas.specs.Pending.{count, pending, pending_all, PendingNeverFits}

-- how many parts a term has that wait for it
unfoldable arity : Term → ℕ
unfolding count
arity (var x) = 0
arity (app f ts) = count ts
arity (bind q x t) = 0
arity (let_in vs ts t) = count ts

-- the parts of the terms 1 to n
unfoldable weight : Bundle → ℕ → ℕ
unfolding arity
weight b zero = 0
weight b (suc n) = weight b n + arity (tree b (suc n))

weight_on : (b : Bundle) (m n : ℕ) → m ≤ n → weight b m ≤ weight b n
unfolding weight
weight_on b m zero h = let z : m ≡ 0 = omega arith in rw z (omega arith)
weight_on b zero (suc n) h = omega arith
weight_on b (suc m) (suc n) h = go (dec_le (suc m) n) (weight_on b (suc m) n)
  where
    go : Dec (suc m ≤ n) → (suc m ≤ n → weight b (suc m) ≤ weight b n) → weight b (suc m) ≤ weight b (suc n)
    go (yes l) on = omega (arith, on l)
    go (no l) on = let e : n ≡ m = omega arith in rw e (omega arith)

weight_kept : {b b' : Bundle} → Longer b b' → TablesFormed b → (n : ℕ) → n ≤ length b.terms → weight b' n ≡ weight b n
unfolding weight
weight_kept longer formed zero h = refl
weight_kept longer formed (suc n) h =
    ap₂ ◌+◌ (weight_kept longer formed n (omega arith)) (ap arity (tree_kept longer formed (suc n) h))

count_gather : (f : ℕ → Term) (ts : List ℕ) → count (gather f ts) ≡ length ts
unfolding count gather
count_gather f [] = refl
count_gather f (t ∷ ts) = ap suc (count_gather f ts)

-- ---- what waits in a term

module _ (b : Bundle) (formed : TablesFormed b) where
  lower_pending : (n : ℕ) (ts : List ℕ) → All (Lower (suc n)) ts → ((u : ℕ) → Lower (suc n) u → pending (tree b u) ≤ weight b n)
      → pending_all (gather (tree b) ts) ≤ weight b n
  unfolding pending gather
  lower_pending n [] low each = omega arith
  lower_pending n (u ∷ ts) low each = omega (arith, each u low.0, lower_pending n ts low.1 each)

  pending_to : (n t : ℕ) → t ≤ n → Number (length b.terms) t → pending (tree b t) ≤ weight b t
  unfolding pending weight arity
  pending_to zero t l is = absurd (omega (arith, is.0))
  pending_to (suc n) zero l is = absurd (omega (arith, is.0))
  pending_to (suc n) (suc t) l is =
      go (shape b (suc t) (formed.terms (suc t) is))
      (λ u low. let h = pending_to n u (omega (arith, low.1)) (low.0, omega (arith, low.1, is.1)) in
      omega (arith, h, weight_on b u t (omega (arith, low.1))))
    where
      go : Shape b (suc t) → ((u : ℕ) → Lower (suc t) u → pending (tree b u) ≤ weight b t) → pending (tree b (suc t)) ≤ weight b t + arity (tree b (suc t))
      go (var_shape x e n) each = rw e (omega arith)
      go (app_shape f ts e k low sorts) each = rw e (omega (arith, lower_pending t ts low each))
      go (bind_shape q x u e n low sorts) each = rw e (omega (arith, each u low))
      go (let_shape vs ts u e nv lows low lists) each = rw e (omega (arith, each u low, lower_pending t ts lows each))

  pending_below : (t : ℕ) → Number (length b.terms) t → pending (tree b t) ≤ weight b t
  pending_below t is = pending_to t t (omega arith) is

-- ---- a link for each part

record Light (b : Bundle) : Type 0 where
  light : weight b (length b.terms) ≤ length b.links

-- b' is b with the lists of the record r appended: a link for each part
placed_light : (b b' : Bundle) (r : TermRecord) (n : ℕ) (τ : Term) → Longer b b' → b'.terms ≡ b.terms → length b.links + arity τ ≤ length b'.links
    → TablesFormed b → PlacedAs τ (placed b b' r n) → Light b → Light (placed b b' r n).bundle
unfolding weight
placed_light b b' r zero τ longer same links formed p light =
    let B : Bundle = with_terms b' (r ∷ []) in
    let one : length B.terms ≡ suc (length b.terms) = length-append b'.terms (r ∷ []) ∙ ap (λ (ts : List TermRecord). length ts + 1) same
    ∙ omega arith in
    let old : weight B (length b.terms) ≡ weight b (length b.terms) =
    weight_kept (longer_trans longer (terms_longer b' (r ∷ []))) formed (length b.terms) (omega arith) in
    let new : arity (tree B (suc (length b.terms))) ≡ arity τ = ap arity p.stands in
    let sum : weight B (suc (length b.terms)) ≤ length b'.links = omega (arith, old, new, light.light, links) in
    record { light = subst (λ (n : ℕ). weight B n ≤ length b'.links) (sym one) sum }
placed_light b b' r (suc n) τ longer same links formed p light = light

module _ (b₀ : Bundle) (formed : TablesFormed b₀) where
  mutual
    unfolding file arity

    file_light : (τ : Term) (b : Bundle) → Longer b₀ b → Checked b → TermSorted b₀ τ → Light b → Light (file τ b).bundle
    file_light (var x) b l old h light =
        placed_light b (add_list b []) _ (seek (same_variable x) b.terms) (var x) (list_longer b []) refl (omega (arith, list_length b []))
        old.formed.tables (filed b₀ formed (var x) b l old h).placed light
    file_light (app f ts) b l old h light =
        let p : PlacedTerms = file_all ts b in
        let a : AllFiled b ts p = all_filed b₀ formed ts b l old h.2 in
        let n : count ts ≡ length p.terms = ap count (sym a.stand) ∙ count_gather (tree p.bundle) p.terms in
        placed_light p.bundle (add_list p.bundle p.terms) _ (seek (same_application p.bundle f p.terms) p.bundle.terms) (app f ts)
        (list_longer p.bundle p.terms) refl (omega (arith, n, list_length p.bundle p.terms)) a.checked.formed.tables
        (filed b₀ formed (app f ts) b l old h).placed (all_light ts b l old h.2 light)
    file_light (bind q x t) b l old h light =
        let p : PlacedTerm = file t b in
        let a : FiledAs b t p = filed b₀ formed t b l old h.2 in
        placed_light p.bundle (add_list p.bundle []) _ (seek (same_binder q x p.term) p.bundle.terms) (bind q x t)
        (list_longer p.bundle []) refl (omega (arith, list_length p.bundle [])) a.placed.checked.formed.tables
        (filed b₀ formed (bind q x t) b l old h).placed (file_light t b l old h.2 light)
    file_light (let_in vs ts t) b l old h light =
        let p : PlacedTerms = file_all ts b in
        let a : AllFiled b ts p = all_filed b₀ formed ts b l old h.4 in
        let l₁ : Longer b₀ p.bundle = longer_trans l a.longer in
        let r : PlacedTerm = file t p.bundle in
        let c : FiledAs p.bundle t r = filed b₀ formed t p.bundle l₁ a.checked h.5 in
        let n : count ts ≡ length p.terms = ap count (sym a.stand) ∙ count_gather (tree p.bundle) p.terms in
        let links : length r.bundle.links + arity (let_in vs ts t) ≤ length (add_list (add_list r.bundle vs) p.terms).links =
        omega (arith, n, list_length r.bundle vs, list_length (add_list r.bundle vs) p.terms) in
        placed_light r.bundle (add_list (add_list r.bundle vs) p.terms) _ (seek (same_let r.bundle vs p.terms r.term) r.bundle.terms)
        (let_in vs ts t) (lists_longer r.bundle vs p.terms) refl links c.placed.checked.formed.tables
        (filed b₀ formed (let_in vs ts t) b l old h).placed
        (file_light t p.bundle l₁ a.checked h.5 (all_light ts b l old h.4 light))

    all_light : (ts : Terms) (b : Bundle) → Longer b₀ b → Checked b → TermsSorted b₀ ts → Light b → Light (file_all ts b).bundle
    all_light none b l old h light = light
    all_light (more t ts) b l old h light =
        let a : FiledAs b t (file t b) = filed b₀ formed t b l old h.0 in
        all_light ts (file t b).bundle (longer_trans l a.longer) a.placed.checked h.1 (file_light t b l old h.0 light)

-- ---- the theorem

no_weight : (b : Bundle) → b.terms ≡ [] → Light b
unfolding weight
no_weight b e =
    let z : length b.terms ≡ 0 = ap length e in
    record { light = subst (λ (n : ℕ). weight b n ≤ length b.links) (sym z) (omega arith) }

pub pending_never_fits : PendingNeverFits
pending_never_fits f text φ d r many fit =
    let b : Bundle = bundle_of f in
    let p : PlacedTerm = filed_for b φ in
    let old : Checked b = declared_checked f d in
    let j : FiledAs b (plain b φ) p = job_filed f text φ d r in
    let l : Light p.bundle =
    file_light b old.formed.tables (plain b φ) b (longer_refl b) old (term_sorted f text φ d r) (no_weight b d.terms) in
    let same : pending (tree p.bundle p.term) ≡ pending (plain b φ) = ap pending j.placed.stands in
    omega (
      arith,
      many,
      same,
      pending_below p.bundle j.placed.checked.formed.tables p.term j.placed.is_term,
      weight_on p.bundle p.term (length p.bundle.terms) j.placed.is_term.1,
      l.light,
      fit.links,
    )
