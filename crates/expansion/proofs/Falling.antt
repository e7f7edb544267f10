-- Numbers fall from a node to its parts; its binders and lets are terms of the job.
--     Falls, FallAll     that, of a node whose number is below m
--     falls_at           THE LAW: it holds of the node of a term of a well-formed bundle
use mathlib.Core.Path.{◌≡◌, refl, sym, ap, ◌∙◌, subst}
use Prim.Native.Nat.{ℕ, zero, suc, ◌≤◌, ◌<◌}
use mathlib.Core.Logic.{inl, inr}
use mathlib.Core.List.{List, [], ◌∷◌}
use native.Mathlib.Omega.{arith}
use lib.ListN.{length}
use Rattle.bundle.specs.Bundle.{Bundle, TermRecord, term_of}
use Rattle.bundle.specs.Links.{items}
use Rattle.logic.specs.Lists.{Among, All, Number}
use Rattle.logic.specs.Terms.{Kind, Binder, binder, letting, kind_of}
use Rattle.logic.specs.WellFormed.{Lower, TermFormed, a_variable, an_application, a_binder, a_let, TablesFormed}
use Rattle.logic.proofs.TermKinds.{number_kind}
use Rattle.expansion.specs.Names.{BindsAt, ListsAt}
use Rattle.expansion.specs.Nodes.{Node, Nodes, leaf, node, scope, block, nil, cons, gather_nodes, node_as, node_by, node_at}
use Rattle.expansion.proofs.Standing.{node_made}

module _ (b : Bundle) where
  abbrev mutual
    pub Falls : ℕ → Node → Type 0
    Falls m (leaf t x) = t < m
    Falls m (node t f ns) = (t < m) × FallAll t ns
    Falls m (scope t q x u) = (t < m) × BindsAt b t x × Falls t u
    Falls m (block t s vs ns u) = (t < m) × All (ListsAt b t) vs × FallAll t ns × Falls t u

    pub FallAll : ℕ → Nodes → Type 0
    FallAll m nil = Unit {0}
    FallAll m (cons τ ns) = Falls m τ × FallAll m ns

  falls_wider : (m m' : ℕ) → m ≤ m' → (τ : Node) → Falls m τ → Falls m' τ
  falls_wider m m' le (leaf t x) h = omega arith
  falls_wider m m' le (node t f ns) h = (omega (arith, h.0), h.1)
  falls_wider m m' le (scope t q x u) h = (omega (arith, h.0), h.1, h.2)
  falls_wider m m' le (block t s vs ns u) h = (omega (arith, h.0), h.1, h.2, h.3)

  falls_all : (m : ℕ) → ((t : ℕ) → Lower m t → Falls (suc t) (node_at b t)) → (ts : List ℕ) → All (Lower m) ts → FallAll m (gather_nodes (node_at b) ts)
  unfolding gather_nodes
  falls_all m h [] lows = tt
  falls_all m h (t ∷ ts) lows = (falls_wider (suc t) m (omega (arith, lows.0.1)) (node_at b t) (h t lows.0), falls_all m h ts lows.1)

  module _ (formed : TablesFormed b) where
    falls_by : (t : ℕ) → Number (length b.terms) t → ((u : ℕ) → Lower t u → Falls (suc u) (node_at b u)) → TermFormed b t → Falls (suc t) (node_at b t)
    unfolding node_by
    falls_by t n ih h = go h
      where
        made : (r : TermRecord) → term_of b t ≡ r → node_at b t ≡ node_by b (node_at b) (record { place = t; term = r })
        made = node_made b t n h

        low_node : (u : ℕ) → Lower t u → Falls t (node_at b u)
        low_node u low = falls_wider (suc u) t (omega (arith, low.1)) (node_at b u) (ih u low)

        bound : (q : Binder) (k x u : ℕ) → kind_of k ≡ binder q → term_of b t ≡ record { kind = k; a = x; b = u; c = 0 } → BindsAt b t x
        bound q k x u kind e = record {
          is_term = n;
          kind = (q, ap (λ (r : TermRecord). kind_of r.kind) e ∙ kind);
          variable = ap (λ (r : TermRecord). r.a) e;
        }

        -- each variable of its list
        listed : (vs ts u : ℕ) → term_of b t ≡ record { kind = 5; a = vs; b = ts; c = u } → (xs : List ℕ) → ((x : ℕ) → Among x xs → Among x (items b vs))
            → All (ListsAt b t) xs
        listed vs ts u e [] among = tt
        listed vs ts u e (x ∷ xs) among = (
          record {
            is_term = n;
            kind = ap (λ (r : TermRecord). kind_of r.kind) e ∙ number_kind letting;
            variable = rw e (among x (inl refl));
          },
          listed vs ts u e xs (λ y m. among y (inr m)),
        )

        go : TermFormed b t → Falls (suc t) (node_at b t)
        go (a_variable x e nx) = subst (Falls (suc t)) (sym (made _ e)) (let z : t < suc t = omega arith in z)
        go (an_application f s e known start lows sorts) = subst (Falls (suc t)) (sym (made _ e)) (omega arith, falls_all t ih (items b s) lows)
        go (a_binder q k x u e kind nx low s) =
            subst (Falls (suc t))
            (sym (made _ e ∙ ap (λ (κ : Kind). node_as b κ (node_at b) (record { place = t; term = record { kind = k; a = x; b = u; c = 0 } })) kind))
            (omega arith, bound q k x u kind e, low_node u low)
        go (a_let vs ts u e sv nv st lows low lists) =
            subst (Falls (suc t)) (sym (made _ e))
            (omega arith, listed vs ts u e (items b vs) (λ x m. m), falls_all t ih (items b ts) lows, low_node u low)

    falls_upto : (m t : ℕ) → t ≤ m → Number (length b.terms) t → Falls (suc t) (node_at b t)
    falls_upto zero t le n = absurd (omega arith)
    falls_upto (suc m) t le n = falls_by t n (λ u low. falls_upto m u (omega arith) (low.0, omega arith)) (formed.terms t n)

    pub falls_at : (t : ℕ) → Number (length b.terms) t → Falls (suc t) (node_at b t)
    falls_at t n = falls_upto t t (omega arith) n
