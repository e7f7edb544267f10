-- A visit only appends, whatever it is given.
--     placed_longer, variable_longer, application_longer, binder_longer, let_longer    placed terms
--     concluded_longer, replacing_longer, fixing_longer, fresh_longer, named_longer, open_longer     openers and closers
--     listed_longer, fixed_longer, renaming_longer                                     the contexts of a binder
--     visit_longer, visit_all_longer                                                    the visits
--     claiming, claiming_longer, expanded_longer                                       the bundle that is written
use Prim.Native.Nat.{ℕ, zero, suc}
use mathlib.Core.Bool.{Bool, true, false}
use mathlib.Core.List.{List, [], ◌∷◌, ◌++◌}
use Rattle.bundle.specs.Bundle.{Bundle, TermRecord, sort_of_variable}
use Rattle.logic.specs.Terms.{Binder}
use Rattle.logic.specs.Contexts.{image}
use Rattle.logic.specs.Longer.{Longer, with_variables, add_list, list_start}
use Rattle.logic.proofs.Longer.{longer_refl, longer_trans, list_longer, terms_longer, variables_longer, contexts_longer, steps_longer}
use Rattle.expansion.specs.Nodes.{Node, Nodes, leaf, node, scope, block, nil, cons, node_at}
use Rattle.logic.specs.Lookup.{seek, same_variable, same_application, same_binder, same_let}
use Rattle.expansion.specs.declared.Names.{Names}
use Rattle.expansion.specs.Names.{keeps}
use Rattle.expansion.specs.Placed.{placed, place_variable, place_application, place_binder, place_let}
use Rattle.expansion.specs.Visit.{Visit, Visits, concluded, OpenedContext, replacing, fixing}
use Rattle.expansion.specs.Visit.{image_term, new_variable, fresh, name_of, named, renaming, OpenedBinder, open_binder, visit, visit_all}
use Rattle.expansion.specs.Visit.{visited, expanded, claiming}

-- b' is b with lists appended
pub placed_longer : (b b' : Bundle) (r : TermRecord) (n : ℕ) → Longer b b' → Longer b (placed b b' r n).bundle
placed_longer b b' r zero lists = longer_trans lists (terms_longer b' (r ∷ []))
placed_longer b b' r (suc n) lists = longer_refl b

pub variable_longer : (b : Bundle) (y : ℕ) → Longer b (place_variable b y).bundle
variable_longer b y = placed_longer b (add_list b []) _ (seek (same_variable y) b.terms) (list_longer b [])

pub application_longer : (b : Bundle) (f : ℕ) (ts : List ℕ) → Longer b (place_application b f ts).bundle
application_longer b f ts = placed_longer b (add_list b ts) _ (seek (same_application b f ts) b.terms) (list_longer b ts)

pub binder_longer : (b : Bundle) (q : Binder) (y t : ℕ) → Longer b (place_binder b q y t).bundle
binder_longer b q y t = placed_longer b (add_list b []) _ (seek (same_binder q y t) b.terms) (list_longer b [])

-- the two lists of a let
pub lists_longer : (b : Bundle) (vs ts : List ℕ) → Longer b (add_list (add_list b vs) ts)
lists_longer b vs ts = longer_trans (list_longer b vs) (list_longer (add_list b vs) ts)

pub let_longer : (b : Bundle) (vs ts : List ℕ) (t : ℕ) → Longer b (place_let b vs ts t).bundle
let_longer b vs ts t = placed_longer b (add_list (add_list b vs) ts) _ (seek (same_let b vs ts t) b.terms) (lists_longer b vs ts)

pub concluded_longer : (b : Bundle) (k c l r : ℕ) (ps : List ℕ) → Longer b (concluded b k c l r ps).bundle
concluded_longer b k c l r ps =
    longer_trans (list_longer b ps)
    (steps_longer (add_list b ps) (record { rule = k; context = c; left = l; right = r; premises = list_start b ps } ∷ []))

pub replacing_longer : (b : Bundle) (s c : ℕ) (ts : List ℕ) → Longer b (replacing b s c ts).bundle
replacing_longer b s c ts =
    longer_trans (list_longer b ts) (contexts_longer (add_list b ts) (record { kind = 2; a = s; b = list_start b ts; parent = c } ∷ []))

pub fixing_longer : (b : Bundle) (y c : ℕ) → Longer b (fixing b y c).bundle
fixing_longer b y c = contexts_longer b (record { kind = 1; a = y; b = 0; parent = c } ∷ [])

pub fresh_longer : (b : Bundle) (x : ℕ) → Longer b (fresh b x).bundle
fresh_longer b x =
    longer_trans (variables_longer b (sort_of_variable b x ∷ [])) (variable_longer (with_variables b (sort_of_variable b x ∷ [])) (new_variable b))

pub listed_longer : (b : Bundle) (x y t c : ℕ) → Longer (add_list (fixing b y c).bundle (x ∷ [])) (renaming b x y t c).bundle
listed_longer b x y t c =
    let f : OpenedContext = fixing b y c in
    replacing_longer (add_list f.bundle (x ∷ [])) (list_start f.bundle (x ∷ [])) _ (t ∷ [])

pub fixed_longer : (b : Bundle) (x y t c : ℕ) → Longer (fixing b y c).bundle (renaming b x y t c).bundle
fixed_longer b x y t c = longer_trans (list_longer (fixing b y c).bundle (x ∷ [])) (listed_longer b x y t c)

pub renaming_longer : (b : Bundle) (x y t c : ℕ) → Longer b (renaming b x y t c).bundle
renaming_longer b x y t c = longer_trans (fixing_longer b y c) (fixed_longer b x y t c)

named_longer : (kept : Bool) (b : Bundle) (x : ℕ) → Longer b (named kept b x).bundle
named_longer true b x = variable_longer b x
named_longer false b x = fresh_longer b x

pub open_longer : (kept : Bool) (b : Bundle) (x c : ℕ) → Longer b (open_binder kept b x c).bundle
open_longer kept b x c =
    longer_trans (named_longer kept b x) (renaming_longer (named kept b x).bundle x (name_of kept b x) (named kept b x).term c)

module _ (k : ℕ → Bool) where
  mutual
    unfolding visit

    pub visit_longer : (τ : Node) (c : ℕ) (b : Bundle) → Longer b (visit k τ c b).bundle
    visit_longer (leaf t x) c b = concluded_longer b 1 c t (image_term (image b c x) t) []
    visit_longer (node t f ns) c b =
        let v : Visits = visit_all k ns c b in
        longer_trans (visit_all_longer ns c b)
        (longer_trans (application_longer v.bundle f v.results) (concluded_longer _ 2 c t _ v.steps))
    visit_longer (scope t q x u) c b =
        let o : OpenedBinder = open_binder (k x) b x c in
        let v : Visit = visit k u o.context o.bundle in
        longer_trans (open_longer (k x) b x c)
        (longer_trans (visit_longer u o.context o.bundle)
        (longer_trans (binder_longer v.bundle q o.variable v.result) (concluded_longer _ 4 c t _ (v.step ∷ []))))
    visit_longer (block t s vs ns u) c b =
        let v : Visits = visit_all k ns c b in
        let o : OpenedContext = replacing v.bundle s c v.results in
        let w : Visit = visit k u o.context o.bundle in
        longer_trans (visit_all_longer ns c b)
        (longer_trans (replacing_longer v.bundle s c v.results)
        (longer_trans (visit_longer u o.context o.bundle) (concluded_longer w.bundle 5 c t w.result (v.steps ++ (w.step ∷ [])))))

    pub visit_all_longer : (ns : Nodes) (c : ℕ) (b : Bundle) → Longer b (visit_all k ns c b).bundle
    visit_all_longer nil c b = longer_refl b
    visit_all_longer (cons τ ns) c b = longer_trans (visit_longer τ c b) (visit_all_longer ns _ (visit k τ c b).bundle)

-- ---- the bundle that is written

-- the same records, and another claim
pub claiming_longer : (b : Bundle) (l r : ℕ) → Longer b (claiming b l r)
claiming_longer b l r =
    let same = longer_refl b in
    record {
      version = same.version;
      symbols = same.symbols;
      variables = same.variables;
      terms = same.terms;
      links = same.links;
      contexts = same.contexts;
      steps = same.steps;
    }

pub expanded_longer : (names : Names) (b : Bundle) → Longer b (expanded names b)
unfolding expanded visited
expanded_longer names b =
    let v : Visit = visit (keeps names b) (node_at b b.left) 0 b in
    longer_trans (visit_longer (keeps names b) (node_at b b.left) 0 b) (claiming_longer v.bundle b.left v.result)
