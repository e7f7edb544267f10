-- What the code of the visits goes by: numbers that stand for nodes, and what each visit adds.
--     stands_on, stand_all_on     numbers that stand for nodes do so in longer bundles
--     visit_more                  every visit adds a step
--     visit_all_steps             a visit to a list adds at least as many steps as it has results
--     replacing_context, open_context     the context that is opened is the last one
--     opening                     the context that a let opens
--     scope_longer, node_longer, block_longer, body_longer     a visit only appends to what its parts leave
use mathlib.Core.Path.{◌≡◌, sym, subst}
use mathlib.Core.Logic.{◌⊎◌, inl, inr}
use mathlib.Core.Bool.{Bool}
use mathlib.Core.List.{List, [], ◌∷◌, ◌++◌}
use Prim.Native.Nat.{ℕ, ◌+◌, ◌≤◌, ◌<◌}
use native.Mathlib.Omega.{arith}
use lib.ListN.{length, length-append}
use Rattle.bundle.specs.Bundle.{Bundle, Link, TermRecord, no_link, no_term, link_of, term_of}
use Rattle.logic.specs.Lists.{Number}
use Rattle.logic.specs.Terms.{Binder, binder, number_of}
use Rattle.logic.specs.Contexts.{image}
use Rattle.logic.specs.Longer.{Longer, add_list, list_start}
use Rattle.logic.proofs.Longer.{prefix_at, longer_refl, longer_trans, sizes}
use Rattle.expansion.specs.Nodes.{Node, Nodes, leaf, node, scope, block, nil, cons}
use Rattle.expansion.specs.Visit.{Visit, Visits, visit, visit_all, concluded, OpenedContext, open_binder, replacing, fixing, name_of, named, image_term}
use Rattle.placing.specs.Outcomes.{Stands, StandAll}
use Rattle.expansion.proofs.Grown.{application_longer, binder_longer, concluded_longer, replacing_longer, open_longer, visit_longer, visit_all_longer}

-- ---- numbers that stand for nodes

module _ {b b' : Bundle} (longer : Longer b b') where
  term_same : (t : ℕ) → Number (length b.terms) t → term_of b t ≡ term_of b' t
  term_same t n = sym (prefix_at no_term b.terms b'.terms longer.terms t n.1)

  link_same : (l : ℕ) → Number (length b.links) l → link_of b l ≡ link_of b' l
  link_same l n = sym (prefix_at no_link b.links b'.links longer.links l n.1)

  term_on : (t : ℕ) → Number (length b.terms) t → Number (length b'.terms) t
  term_on t n = (n.0, omega (arith, n.1, (sizes longer).terms))

  order_on : {l m : ℕ} → (m ≡ 0) ⊎ ((l < m) × (m ≤ length b.links)) → (m ≡ 0) ⊎ ((l < m) × (m ≤ length b'.links))
  order_on (inl z) = inl z
  order_on (inr z) = inr (z.0, omega (arith, z.1, (sizes longer).links))

  mutual
    pub stands_on : (τ : Node) (t : ℕ) → Stands b t τ → Stands b' t τ
    stands_on (leaf n x) t h =
        let k = subst (λ (r : TermRecord). (r.kind ≡ 1) × (r.a ≡ x)) (term_same t h.1) (h.2, h.3) in
        (h.0, term_on t h.1, k.0, k.1)
    stands_on (node n f ns) t h =
        let k = subst (λ (r : TermRecord). (r.kind ≡ 2) × (r.a ≡ f) × StandAll b' t r.b ns) (term_same t h.1)
        (h.2, h.3, stand_all_on ns t (term_of b t).b h.4) in
        (h.0, term_on t h.1, k.0, k.1, k.2)
    stands_on (scope n q x u) t h =
        let k = subst (λ (r : TermRecord). (r.kind ≡ number_of (binder q)) × (r.a ≡ x) × (r.b < t) × Stands b' r.b u) (term_same t h.1)
        (h.2, h.3, h.4, stands_on u (term_of b t).b h.5) in
        (h.0, term_on t h.1, k.0, k.1, k.2, k.3)
    stands_on (block n s vs ns u) t h =
        let k = subst (λ (r : TermRecord). (r.kind ≡ 5) × (r.a ≡ s) × StandAll b' t r.b ns × (r.c < t) × Stands b' r.c u) (term_same t h.1)
        (h.2, h.3, stand_all_on ns t (term_of b t).b h.4, h.5, stands_on u (term_of b t).c h.6) in
        (h.0, term_on t h.1, k.0, k.1, k.2, k.3, k.4)

    pub stand_all_on : (ns : Nodes) (o l : ℕ) → StandAll b o l ns → StandAll b' o l ns
    stand_all_on nil o l h = h
    stand_all_on (cons τ ns) o l h =
        let k = subst
        (λ (r : Link). (r.value < o) × ((r.next ≡ 0) ⊎ ((l < r.next) × (r.next ≤ length b'.links))) × Stands b' r.value τ
        × StandAll b' o r.next ns)
        (link_same l h.0) (h.1, order_on h.2, stands_on τ (link_of b l).value h.3, stand_all_on ns o (link_of b l).next h.4) in
        ((h.0.0, omega (arith, h.0.1, (sizes longer).links)), k.0, k.1, k.2, k.3)

-- ---- every visit ends with a step

-- a step appended to a longer bundle
one_more : (b base : Bundle) (k c l r : ℕ) (ps : List ℕ) → Longer b base → length b.steps < length (concluded base k c l r ps).bundle.steps
one_more b base k c l r ps longer =
    let n : length (concluded base k c l r ps).bundle.steps ≡ length base.steps + 1 = length-append base.steps (_ ∷ []) in
    omega (arith, n, (sizes longer).steps)

module _ (k : ℕ → Bool) where
  pub visit_more : (τ : Node) (c : ℕ) (b : Bundle) → length b.steps < length (visit k τ c b).bundle.steps
  unfolding visit
  visit_more (leaf t x) c b = one_more b b 1 c t (image_term (image b c x) t) [] (longer_refl b)
  visit_more (node t f ns) c b =
      let v : Visits = visit_all k ns c b in
      one_more b _ 2 c t _ v.steps (longer_trans (visit_all_longer k ns c b) (application_longer v.bundle f v.results))
  visit_more (scope t q x u) c b =
      let o = open_binder (k x) b x c in
      let v : Visit = visit k u o.context o.bundle in
      one_more b _ 4 c t _ (v.step ∷ [])
      (longer_trans (open_longer (k x) b x c)
      (longer_trans (visit_longer k u o.context o.bundle) (binder_longer v.bundle q o.variable v.result)))
  visit_more (block t s vs ns u) c b =
      let v : Visits = visit_all k ns c b in
      let o = replacing v.bundle s c v.results in
      let w : Visit = visit k u o.context o.bundle in
      one_more b w.bundle 5 c t w.result (v.steps ++ (w.step ∷ []))
      (longer_trans (visit_all_longer k ns c b)
      (longer_trans (replacing_longer v.bundle s c v.results) (visit_longer k u o.context o.bundle)))

  pub visit_all_steps : (ns : Nodes) (c : ℕ) (b : Bundle) → length b.steps + length (visit_all k ns c b).results ≤ length (visit_all k ns c b).bundle.steps
  unfolding visit
  visit_all_steps nil c b = omega arith
  visit_all_steps (cons τ ns) c b = omega (arith, visit_more τ c b, visit_all_steps ns c (visit k τ c b).bundle)

-- ---- the context that is opened is the last one

pub replacing_context : (b : Bundle) (s c : ℕ) (ts : List ℕ) → (replacing b s c ts).context ≡ length (replacing b s c ts).bundle.contexts
replacing_context b s c ts =
    let n : length (replacing b s c ts).bundle.contexts ≡ length b.contexts + 1 = length-append b.contexts (_ ∷ []) in
    omega (arith, n)

pub open_context : (kept : Bool) (b : Bundle) (x c : ℕ) → (open_binder kept b x c).context ≡ length (open_binder kept b x c).bundle.contexts
open_context kept b x c =
    let p = named kept b x in
    let f = fixing p.bundle (name_of kept b x) c in
    replacing_context (add_list f.bundle (x ∷ [])) (list_start f.bundle (x ∷ [])) f.context (p.term ∷ [])

-- ---- a visit only appends to what its parts leave

-- the context that a let opens, once its bound terms are visited
abbrev pub opening : (ℕ → Bool) → Bundle → (s c : ℕ) → Nodes → OpenedContext
opening k b s c ns = replacing (visit_all k ns c b).bundle s c (visit_all k ns c b).results

pub opening_longer : (k : ℕ → Bool) (b : Bundle) (s c : ℕ) (ns : Nodes) → Longer (visit_all k ns c b).bundle (opening k b s c ns).bundle
opening_longer k b s c ns = replacing_longer (visit_all k ns c b).bundle s c (visit_all k ns c b).results

module _ (k : ℕ → Bool) (t c : ℕ) (b : Bundle) where
  pub scope_longer : (q : Binder) (x : ℕ) (u : Node)
      → let o = open_binder (k x) b x c in Longer (visit k u o.context o.bundle).bundle (visit k (scope t q x u) c b).bundle
  unfolding visit
  scope_longer q x u =
      let o = open_binder (k x) b x c in
      let v : Visit = visit k u o.context o.bundle in
      longer_trans (binder_longer v.bundle q o.variable v.result) (concluded_longer _ 4 c t _ (v.step ∷ []))

  pub node_longer : (f : ℕ) (ns : Nodes) → Longer (visit_all k ns c b).bundle (visit k (node t f ns) c b).bundle
  unfolding visit
  node_longer f ns =
      let v : Visits = visit_all k ns c b in
      longer_trans (application_longer v.bundle f v.results) (concluded_longer _ 2 c t _ v.steps)

  pub body_longer : (s : ℕ) (vs : List ℕ) (ns : Nodes) (u : Node)
      → Longer (visit k u (opening k b s c ns).context (opening k b s c ns).bundle).bundle (visit k (block t s vs ns u) c b).bundle
  unfolding visit
  body_longer s vs ns u =
      let v : Visits = visit_all k ns c b in
      let o = replacing v.bundle s c v.results in
      let w : Visit = visit k u o.context o.bundle in
      concluded_longer w.bundle 5 c t w.result (v.steps ++ (w.step ∷ []))

  pub block_longer : (s : ℕ) (vs : List ℕ) (ns : Nodes) (u : Node)
      → Longer (opening k b s c ns).bundle (visit k (block t s vs ns u) c b).bundle
  block_longer s vs ns u = longer_trans (visit_longer k u (opening k b s c ns).context (opening k b s c ns).bundle) (body_longer s vs ns u)
