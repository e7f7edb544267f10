-- THE VISITS, without limits, under either choice of names. Old records stay, new ones are appended: every append in document 01's order, with Req 06's
-- where a variable is kept.
use Rattle.std.specs.Prelude.{ℕ, suc, Bool, true, false, List, [], ◌∷◌, ◌++◌, length}
use Rattle.bundle.specs.Bundle.{Bundle, sort_of_variable}
use Rattle.logic.specs.declared.Image.{Image}
use Rattle.logic.specs.declared.Image.TheVariants.{Own, Gives}
use Rattle.logic.specs.Terms.{Binder}
use Rattle.logic.specs.Contexts.{image}
use Rattle.logic.specs.Lookup.{seek, same_variable, same_application, same_binder}
use Rattle.logic.specs.Longer.{with_variables, with_contexts, with_steps, add_list, list_start, consecutive}
use Rattle.expansion.specs.Nodes.{Node, Nodes, leaf, node, scope, block, nil, cons, node_at}
use Rattle.expansion.specs.Placed.{PlacedTerm, place_variable, place_application, place_binder}
use Rattle.expansion.specs.declared.Names.{Names}
use Rattle.expansion.specs.Names.{keeps}

-- ---- What a visit leaves: the bundle, the result's term, and the step that carries the visited term to it.

pub record Visit : Type 0 where
  pub bundle : Bundle
  pub result : ℕ
  pub step : ℕ

pub record Visits : Type 0 where
  pub bundle : Bundle
  pub results : List ℕ
  pub steps : List ℕ

-- the step of a visit: its premises as a list just before it, then its record
abbrev pub concluded : Bundle → (rule context left right : ℕ) → List ℕ → Visit
concluded b k c l r ps = record {
  bundle = with_steps (add_list b ps) (record { rule = k; context = c; left = l; right = r; premises = list_start b ps } ∷ []);
  result = r;
  step = suc (length b.steps);
}

-- a bundle, and a context of it
pub record OpenedContext : Type 0 where
  pub bundle : Bundle
  pub context : ℕ

-- a context that replaces the variables of the list vs by the terms ts, a new list just before it
abbrev pub replacing : Bundle → (vs parent : ℕ) → List ℕ → OpenedContext
replacing b vs c ts = record {
  bundle = with_contexts (add_list b ts) (record { kind = 2; a = vs; b = list_start b ts; parent = c } ∷ []);
  context = suc (length b.contexts);
}

abbrev pub fixing : Bundle → (y parent : ℕ) → OpenedContext
fixing b y c = record { bundle = with_contexts b (record { kind = 1; a = y; b = 0; parent = c } ∷ []); context = suc (length b.contexts) }

-- ---- Variable: REFL, result its image.

abbrev pub image_term : Image → ℕ → ℕ
image_term Own t = t
image_term (Gives r) t = r

-- ---- Application: arguments left to right, result, CONG.

abbrev pub close_application : (c t f : ℕ) → Visits → Visit
close_application c t f v =
    let p : PlacedTerm = place_application v.bundle f v.results in
    concluded p.bundle 2 c t p.term v.steps

-- ---- Binder (a quantifier or a choice): the variable of its result, that one's term, fixing context, replacing context, body, result, BIND.

-- the new variable is one more than all there are
abbrev pub new_variable : Bundle → ℕ
new_variable b = suc (length b.variables)

-- the new variable, and its term
abbrev pub fresh : Bundle → ℕ → PlacedTerm
fresh b x = place_variable (with_variables b (sort_of_variable b x ∷ [])) (new_variable b)

-- A binder of x has for its result's variable x itself where that is kept, and else a new one of the same sort; and that one's term, which for x is
-- looked up first.
abbrev pub name_of : (kept : Bool) → Bundle → ℕ → ℕ
name_of true b x = x
name_of false b x = new_variable b

abbrev pub named : (kept : Bool) → Bundle → ℕ → PlacedTerm
named true b x = place_variable b x
named false b x = fresh b x

-- y fixed, then x replaced by the term t, which is y
abbrev pub renaming : Bundle → (x y t parent : ℕ) → OpenedContext
renaming b x y t c =
    let f : OpenedContext = fixing b y c in
    replacing (add_list f.bundle (x ∷ [])) (list_start f.bundle (x ∷ [])) f.context (t ∷ [])

-- a bundle, a context of it, and the variable that the result binds
pub record OpenedBinder : Type 0 where
  pub bundle : Bundle
  pub context : ℕ
  pub variable : ℕ

abbrev pub open_binder : (kept : Bool) → Bundle → (x c : ℕ) → OpenedBinder
open_binder kept b x c =
    let p : PlacedTerm = named kept b x in
    let o : OpenedContext = renaming p.bundle x (name_of kept b x) p.term c in
    record { bundle = o.bundle; context = o.context; variable = name_of kept b x }

abbrev pub close_binder : (c t : ℕ) → Binder → (y : ℕ) → Visit → Visit
close_binder c t q y v =
    let p : PlacedTerm = place_binder v.bundle q y v.result in
    concluded p.bundle 4 c t p.term (v.step ∷ [])

-- ---- THE VISITS, in context c; k says which variables are kept. Let: bound terms in order, replacing context on the let's own variable list, body, LET.

module _ (k : ℕ → Bool) where
  unfoldable mutual
    unfolding seek same_variable same_application same_binder image consecutive

    pub visit : Node → ℕ → Bundle → Visit
    visit (leaf t x) c b = concluded b 1 c t (image_term (image b c x) t) []
    visit (node t f ns) c b = close_application c t f (visit_all ns c b)
    visit (scope t q x u) c b =
        let o : OpenedBinder = open_binder (k x) b x c in
        close_binder c t q o.variable (visit u o.context o.bundle)
    visit (block t s vs ns u) c b =
        let v : Visits = visit_all ns c b in
        let o : OpenedContext = replacing v.bundle s c v.results in
        let w : Visit = visit u o.context o.bundle in
        concluded w.bundle 5 c t w.result (v.steps ++ (w.step ∷ []))

    pub visit_all : Nodes → ℕ → Bundle → Visits
    visit_all nil c b = record { bundle = b; results = []; steps = [] }
    visit_all (cons τ ns) c b =
        let v : Visit = visit τ c b in
        let vs : Visits = visit_all ns c v.bundle in
        record { bundle = vs.bundle; results = v.result ∷ vs.results; steps = v.step ∷ vs.steps }

-- A job's rule is its left: the visit to it in context 0. What is kept is decided from the job, before.
unfoldable pub visited : Names → Bundle → Visit
unfolding visit node_at keeps
visited names b = visit (keeps names b) (node_at b b.left) 0 b

-- a bundle with a claim
abbrev pub claiming : Bundle → (left right : ℕ) → Bundle
claiming b l r = record {
  version = b.version;
  symbols = b.symbols;
  variables = b.variables;
  terms = b.terms;
  links = b.links;
  contexts = b.contexts;
  steps = b.steps;
  left = l;
  right = r;
}

-- the bundle that is written: all that the visit leaves, and the claim that the rule is its result
unfoldable pub expanded : Names → Bundle → Bundle
unfolding visited
expanded names b = claiming (visited names b).bundle b.left (visited names b).result
