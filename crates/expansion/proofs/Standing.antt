-- Nodes that stand for terms of a bundle.
--     StandsAs, Stands, Stand              the numbers of a node are terms, each with the tree that the node shows; its binders are the job's
--     stands_term, stand_terms, stands_kept, stand_kept     they are terms, in longer bundles too
--     application_sorts, binder_sorts, let_lists     what a well-formed bundle says of a term, from its tree
--     node_made                            the node of a term, by its record
--     standing                             THE LAW: the node of a term stands for it
use mathlib.Core.Path.{◌≡◌, refl, sym, ap, ap₂, ◌∙◌, subst}
use Prim.Native.Nat.{ℕ, zero, suc, ◌+◌, ◌≤◌, ◌<◌}
use mathlib.Core.List.{List, [], ◌∷◌, map}
use native.Mathlib.Omega.{arith}
use lib.ListN.{length, get_or}
use Rattle.bundle.specs.Bundle.{Bundle, TermRecord, no_term, term_of}
use Rattle.bundle.specs.Links.{items}
use Rattle.logic.specs.declared.Signature.TheVariants.{Unknown}
use Rattle.logic.specs.Lists.{All, Number}
use Rattle.logic.specs.Symbols.{truth_sort, signature_of, argument_sorts}
use Rattle.logic.specs.Terms.{Binder, Term, var, app, bind, let_in, Kind, variable, application, binder, letting, other, kind_of, gather, tree}
use Rattle.logic.specs.Sorts.{sort}
use Rattle.logic.specs.WellFormed.{StartsList, Lower, sort_of_term, ListsFormed, TermFormed, a_variable, an_application, a_binder, a_let, TablesFormed}
use Rattle.logic.specs.Longer.{Longer}
use Rattle.logic.proofs.Tables.{table_step}
use Rattle.logic.proofs.Trees.{refs_as, refs, Before}
use Rattle.logic.proofs.Formed.{tree_variable, tree_application, tree_binder, tree_let}
use Rattle.logic.proofs.Images.{sorts_of, sorts_gather}
use Rattle.logic.proofs.Shapes.{formed_before, Shape, var_shape, app_shape, bind_shape, let_shape, shape}
use Rattle.logic.proofs.Longer.{sizes}
use Rattle.logic.proofs.Kept.{items_kept, tree_kept}
use Rattle.expansion.specs.Nodes.{Node, Nodes, leaf, node, scope, block, nil, cons, number, Numbered, numbered, gather_nodes, no_node, node_as, node_by}
use Rattle.expansion.specs.Nodes.{node_at}
use Rattle.expansion.proofs.Placement.{gather_kept}

abbrev pub numbers_of : Nodes → List ℕ
numbers_of nil = []
numbers_of (cons τ ns) = number τ ∷ numbers_of ns

-- term t is τ
abbrev pub StandsAs : Bundle → ℕ → Term → Type 0
StandsAs b t τ = Number (length b.terms) t × (tree b t ≡ τ)

-- the list of variables of a let: the list at s, all among the first V₀
pub record Binds (V₀ : ℕ) (b : Bundle) (s : ℕ) (vs : List ℕ) : Type 0 where
  pub start : StartsList b s
  pub list : items b s ≡ vs
  pub variables : All (Number V₀) vs

abbrev mutual
  pub Stands : ℕ → Bundle → Node → Type 0
  Stands V₀ b (leaf t x) = StandsAs b t (var x)
  Stands V₀ b (node t f ns) = StandsAs b t (app f (gather (tree b) (numbers_of ns))) × Stand V₀ b ns
  Stands V₀ b (scope t q x u) = StandsAs b t (bind q x (tree b (number u))) × Number V₀ x × Stands V₀ b u
  Stands V₀ b (block t s vs ns u) =
      StandsAs b t (let_in vs (gather (tree b) (numbers_of ns)) (tree b (number u))) × Binds V₀ b s vs × Stand V₀ b ns × Stands V₀ b u

  pub Stand : ℕ → Bundle → Nodes → Type 0
  Stand V₀ b nil = Unit {0}
  Stand V₀ b (cons τ ns) = Stands V₀ b τ × Stand V₀ b ns

module _ (V₀ : ℕ) (b : Bundle) where
  pub stands_term : (τ : Node) → Stands V₀ b τ → Number (length b.terms) (number τ)
  stands_term (leaf t x) h = h.0
  stands_term (node t f ns) h = h.0.0
  stands_term (scope t q x u) h = h.0.0
  stands_term (block t s vs ns u) h = h.0.0

  pub stand_terms : (ns : Nodes) → Stand V₀ b ns → All (Number (length b.terms)) (numbers_of ns)
  stand_terms nil h = tt
  stand_terms (cons τ ns) h = (stands_term τ h.0, stand_terms ns h.1)

-- ---- in a longer bundle

module _ (V₀ : ℕ) {b b' : Bundle} (longer : Longer b b') (formed : TablesFormed b) where
  stands_as_kept : (t : ℕ) {τ τ' : Term} → StandsAs b t τ → τ' ≡ τ → StandsAs b' t τ'
  stands_as_kept t h e = ((h.0.0, omega (arith, h.0.1, (sizes longer).terms)), tree_kept longer formed t h.0.1 ∙ h.1 ∙ sym e)

  mutual
    pub stands_kept : (τ : Node) → Stands V₀ b τ → Stands V₀ b' τ
    stands_kept (leaf t x) h = stands_as_kept t h refl
    stands_kept (node t f ns) h =
        (stands_as_kept t h.0 (ap (app f) (gather_kept longer formed (numbers_of ns) (stand_terms V₀ b ns h.1))), stand_kept ns h.1)
    stands_kept (scope t q x u) h =
        (stands_as_kept t h.0 (ap (bind q x) (tree_kept longer formed (number u) (stands_term V₀ b u h.2).1)), h.1, stands_kept u h.2)
    stands_kept (block t s vs ns u) h = (
      stands_as_kept t h.0 (ap₂ (let_in vs) (gather_kept longer formed (numbers_of ns) (stand_terms V₀ b ns h.2))
          (tree_kept longer formed (number u) (stands_term V₀ b u h.3).1)),
      record {
        start = omega (arith, h.1.start, (sizes longer).links);
        list = items_kept longer formed s h.1.start ∙ h.1.list;
        variables = h.1.variables;
      },
      stand_kept ns h.2,
      stands_kept u h.3,
    )

    pub stand_kept : (ns : Nodes) → Stand V₀ b ns → Stand V₀ b' ns
    stand_kept nil h = tt
    stand_kept (cons τ ns) h = (stands_kept τ h.0, stand_kept ns h.1)

-- ---- what a tree says of its parts

module _ (b : Bundle) (formed : TablesFormed b) (t : ℕ) where
  clash : {A : Type 0} → ◌≡◌ {A = ℕ} 0 1 → A
  clash z = absurd (omega arith)

  same_sorts : (ts us : List ℕ) → gather (tree b) ts ≡ gather (tree b) us → map (sort_of_term b) ts ≡ map (sort_of_term b) us
  same_sorts ts us e = sorts_gather b ts ∙ ap (sorts_of b) e ∙ sym (sorts_gather b us)

  pub application_sorts : (f : ℕ) (ts : List ℕ) → StandsAs b t (app f (gather (tree b) ts))
      → (signature_of b f ≡ Unknown → ⊥) × (argument_sorts b (signature_of b f) ≡ map (sort_of_term b) ts)
  application_sorts f ts h = go (shape b t (formed.terms t h.0))
    where
      go : Shape b t → (signature_of b f ≡ Unknown → ⊥) × (argument_sorts b (signature_of b f) ≡ map (sort_of_term b) ts)
      go (var_shape x e' n) = clash (cc h.1)
      go (app_shape g us e' known low sorts) =
          let is : g ≡ f = cc h.1 in
          let args : gather (tree b) us ≡ gather (tree b) ts = cc h.1 in
          (rw is at known, (rw is at sorts) ∙ same_sorts us ts args)
      go (bind_shape q x u e' n low s) = clash (cc h.1)
      go (let_shape vs us u e' n lows low s) = clash (cc h.1)

  pub binder_sorts : (q : Binder) (x u : ℕ) → StandsAs b t (bind q x (tree b u)) → sort_of_term b u ≡ truth_sort
  binder_sorts q x u h = go (shape b t (formed.terms t h.0))
    where
      go : Shape b t → sort_of_term b u ≡ truth_sort
      go (var_shape y e' n) = clash (cc h.1)
      go (app_shape g us e' known low sorts) = clash (cc h.1)
      go (bind_shape p y v e' n low s) = let is : tree b u ≡ tree b v = cc h.1 in ap (sort b) is ∙ s
      go (let_shape vs us v e' n lows low s) = clash (cc h.1)

  pub let_lists : (vs ts : List ℕ) (u : Term) → StandsAs b t (let_in vs (gather (tree b) ts) u) → ListsFormed b vs ts
  let_lists vs ts u h = go (shape b t (formed.terms t h.0))
    where
      go : Shape b t → ListsFormed b vs ts
      go (var_shape y e' n) = clash (cc h.1)
      go (app_shape g us e' known low sorts) = clash (cc h.1)
      go (bind_shape p y v e' n low s) = clash (cc h.1)
      go (let_shape ws us v e' n lows low s) =
          let is : ws ≡ vs = cc h.1 in
          let bound : gather (tree b) us ≡ gather (tree b) ts = cc h.1 in
          let here : ListsFormed b vs us = rw is at s in
          record { some = here.some; different = here.different; sorts = here.sorts ∙ same_sorts us ts bound }

-- ---- the node of a number

numbered_at : (n : ℕ) (rs : List TermRecord) (i : ℕ) → i < length rs
    → get_or (numbered n rs) i (record { place = 0; term = no_term }) ≡ record { place = n + i; term = get_or rs i no_term }
unfolding numbered
numbered_at n [] i h = absurd (omega arith)
numbered_at n (r ∷ rs) zero h = ap (λ (m : ℕ). record { place = m; term = r }) (let e : n ≡ n + 0 = omega arith in e)
numbered_at n (r ∷ rs) (suc i) h =
    numbered_at (suc n) rs i (omega arith)
    ∙ ap (λ (m : ℕ). record { place = m; term = get_or rs i no_term }) (let e : suc n + i ≡ n + suc i = omega arith in e)

nodes_same : (f g : ℕ → Node) (n : ℕ) → ((i : ℕ) → i < n → f i ≡ g i) → (ts : List ℕ) → Before ts n → gather_nodes f ts ≡ gather_nodes g ts
unfolding gather_nodes
nodes_same f g n h [] below = refl
nodes_same f g n h (t ∷ ts) below = ap₂ cons (h t below.0.1) (nodes_same f g n h ts below.1)

module _ (b : Bundle) where
  node_reads : (k : Kind) (r : Numbered) (n : ℕ) → Before (refs_as b k r.term) n → (f g : ℕ → Node) → ((i : ℕ) → i < n → f i ≡ g i)
      → node_as b k f r ≡ node_as b k g r
  unfolding node_as refs_as
  node_reads variable r n below f g h = refl
  node_reads application r n below f g h = ap (node r.place r.term.a) (nodes_same f g n h (items b r.term.b) below)
  node_reads (binder q) r n below f g h = ap (scope r.place q r.term.a) (h r.term.b below.0.1)
  node_reads letting r n below f g h =
      ap₂ (block r.place r.term.a (items b r.term.a)) (nodes_same f g n h (items b r.term.b) below.1) (h r.term.c below.0.1)
  node_reads other r n below f g h = refl

  node_here_lem : (t : ℕ) → Number (length b.terms) t → Before (refs b (term_of b t)) t
      → node_at b t ≡ node_by b (node_at b) (record { place = t; term = term_of b t })
  unfolding node_at node_by refs
  node_here_lem zero n below = absurd (omega arith)
  node_here_lem (suc i) n below =
      table_step (node_by b) no_node none₀ (λ f. refl) (numbered 1 b.terms) (suc i)
      (λ f g h. subst (λ (r : Numbered). node_by b f r ≡ node_by b g r) (sym here)
      (node_reads (kind_of (term_of b (suc i)).kind) (record { place = suc i; term = term_of b (suc i) }) (suc i) below f g h))
      ∙ ap (node_by b (node_at b)) here
    where
      none₀ : Numbered
      none₀ = record { place = 0; term = no_term }

      here : get_or (numbered 1 b.terms) i none₀ ≡ record { place = suc i; term = term_of b (suc i) }
      here =
          numbered_at 1 b.terms i n.1
          ∙ ap (λ (m : ℕ). record { place = m; term = get_or b.terms i no_term }) (let e : 1 + i ≡ suc i = omega arith in e)

  pub node_made : (t : ℕ) → Number (length b.terms) t → TermFormed b t → (r : TermRecord) → term_of b t ≡ r
      → node_at b t ≡ node_by b (node_at b) (record { place = t; term = r })
  node_made t n h r e = node_here_lem t n (formed_before b t h) ∙ ap (λ (x : TermRecord). node_by b (node_at b) (record { place = t; term = x })) e

-- ---- the node of a term of a well-formed bundle stands for it

module _ (b : Bundle) (formed : TablesFormed b) where
  abbrev Standing : ℕ → Type 0
  Standing t = (number (node_at b t) ≡ t) × Stands (length b.variables) b (node_at b t)

  standing_all : (n : ℕ) → ((t : ℕ) → Lower n t → Standing t) → (ts : List ℕ) → All (Lower n) ts
      → (numbers_of (gather_nodes (node_at b) ts) ≡ ts) × Stand (length b.variables) b (gather_nodes (node_at b) ts)
  unfolding gather_nodes
  standing_all n h [] lows = (refl, tt)
  standing_all n h (t ∷ ts) lows =
      let (is, stands) = h t lows.0 in
      let (are, stand) = standing_all n h ts lows.1 in
      (ap₂ (λ (x : ℕ) (xs : List ℕ). x ∷ xs) is are, (stands, stand))

  standing_by : (t : ℕ) → Number (length b.terms) t → ((u : ℕ) → Lower t u → Standing u) → TermFormed b t → Standing t
  unfolding node_by
  standing_by t n ih h = go h
    where
      made : (r : TermRecord) → term_of b t ≡ r → node_at b t ≡ node_by b (node_at b) (record { place = t; term = r })
      made = node_made b t n h

      from : (τ : Node) → node_at b t ≡ τ → number τ ≡ t → Stands (length b.variables) b τ → Standing t
      from τ e is stands = subst (λ (τ : Node). (number τ ≡ t) × Stands (length b.variables) b τ) (sym e) (is, stands)

      bound : (q : Binder) (x u : ℕ) → Lower t u → node_at b t ≡ scope t q x (node_at b u) → tree b t ≡ bind q x (tree b u)
          → Number (length b.variables) x → Standing t
      bound q x u low e tr nx =
          let (is, stands) = ih u low in
          from (scope t q x (node_at b u)) e refl ((n, tr ∙ ap (λ (m : ℕ). bind q x (tree b m)) (sym is)), nx, stands)

      go : TermFormed b t → Standing t
      go (a_variable x e nx) = from (leaf t x) (made _ e) refl (n, tree_variable b formed t e)
      go (an_application f s e known start lows sorts) =
          let (are, stand) = standing_all t ih (items b s) lows in
          from (node t f (gather_nodes (node_at b) (items b s))) (made _ e) refl
          ((n, tree_application b formed t e ∙ ap (λ (l : List ℕ). app f (gather (tree b) l)) (sym are)), stand)
      go (a_binder q k x u e h nx low s) =
          bound q x u low
          (made _ e ∙ ap (λ (κ : Kind). node_as b κ (node_at b) (record { place = t; term = record { kind = k; a = x; b = u; c = 0 } })) h)
          (tree_binder b formed t q e h) nx
      go (a_let vs ts u e sv nv st lows low lists) =
          let (are, stand) = standing_all t ih (items b ts) lows in
          let (is, stands) = ih u low in
          from (block t vs (items b vs) (gather_nodes (node_at b) (items b ts)) (node_at b u)) (made _ e) refl (
            (n, tree_let b formed t e ∙ ap₂ (λ (l : List ℕ) (m : ℕ). let_in (items b vs) (gather (tree b) l) (tree b m)) (sym are) (sym is)),
            record { start = sv; list = refl; variables = nv },
            stand,
            stands,
          )

  standing_upto : (m t : ℕ) → t ≤ m → Number (length b.terms) t → Standing t
  standing_upto zero t le n = absurd (omega arith)
  standing_upto (suc m) t le n = standing_by t n (λ u low. standing_upto m u (omega arith) (low.0, omega arith)) (formed.terms t n)

  pub standing : (t : ℕ) → Number (length b.terms) t → (number (node_at b t) ≡ t) × Stands (length b.variables) b (node_at b t)
  standing t n = standing_upto t t (omega arith) n
