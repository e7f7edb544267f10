-- What the inner functions answer, against the visits without limits: all that those give where no section passes its limit, and `None` where
-- one does.
use Rattle.logic.specs.Terms.{binder, number_of}
use Rattle.std.specs.Prelude.{IfSome, ◌≡◌, Bool, true, false, Option, Some, None, List, ℕ, ◌+◌, ◌≤◌, ◌<◌, ◌⊎◌, length, take}
use Rattle.bundle.specs.File.{own_counts}
use Rattle.bundle.specs.Bundle.{Bundle, link_of, term_of}
use Rattle.bundle.specs.Words.{largest_word}
use Rattle.bundle.specs.Limits.{limits, Within}
use Rattle.logic.specs.Lists.{Number}
use Rattle.scratch.specs.Stack.{halves}
use Rattle.logic.specs.Longer.{add_list, list_start}
use Rattle.placing.specs.declared.Visited.{Visited}
use Rattle.placing.specs.declared.Opened.{Opened}
use Rattle.expansion.specs.Nodes.{Node, Nodes, leaf, node, scope, block, nil, cons}
use Rattle.expansion.specs.Visit.{Visit, Visits, visit, visit_all}
use Rattle.expansion.specs.Placed.{PlacedTerm}
use Rattle.expansion.specs.Visit as unlimited

-- no section of b may pass its limit
abbrev pub TooMuch : Bundle → Type 0
TooMuch b = Within (own_counts b) → ⊥

-- r, and the bundle b after the call, are what the definition without limits gives: its bundle b' and a; or b' is past a limit
pub data Outcome {A : Type 0} (b' : Bundle) (a : A) (b : Bundle) (r : Option A) : Type 0 where
  done : Within (own_counts b') → b ≡ b' → r ≡ Some a → Outcome b' a b r
  full : TooMuch b' → r ≡ None → Outcome b' a b r

-- of a visit: its result and its step
abbrev pub VisitOutcome : Visit → Bundle → Option Visited → Type 0
VisitOutcome v = Outcome v.bundle (record { result = v.result; step = v.step })

-- the result and the step of a visit that was done are words
abbrev pub VisitFits : Option Visited → Type 0
VisitFits r = IfSome r (λ v. (v.result ≤ largest_word) × (v.step ≤ largest_word))

-- of a context, of a binder's opener, of a term that is placed, of a list of values that is appended
abbrev pub OpenOutcome : unlimited.OpenedContext → Bundle → Option ℕ → Type 0
OpenOutcome o = Outcome o.bundle o.context

abbrev pub BinderOutcome : unlimited.OpenedBinder → Bundle → Option Opened → Type 0
BinderOutcome o = Outcome o.bundle (record { context = o.context; variable = o.variable })

abbrev pub PlaceOutcome : PlacedTerm → Bundle → Option ℕ → Type 0
PlaceOutcome p = Outcome p.bundle p.term

abbrev pub AddOutcome : Bundle → List ℕ → Bundle → Option ℕ → Type 0
AddOutcome b vs = Outcome (add_list b vs) (list_start b vs)

-- of a visit to a list: where the stack s ends, on which the pairs stand from height h on
pub data ListOutcome (v : Visits) (h : ℕ) (b : Bundle) (s : List ℕ) (r : Option ℕ) : Type 0 where
  done : Within (own_counts v.bundle) → b ≡ v.bundle → r ≡ Some (h + length v.results)
      → halves true s h (h + length v.results) ≡ v.results → halves false s h (h + length v.results) ≡ v.steps → ListOutcome v h b s r
  full : TooMuch v.bundle → r ≡ None → ListOutcome v h b s r

-- ---- what the visits ask

-- The number t stands for the node, and the links from l on, of a list of the term o, for the nodes: each refers to lower terms, and a next is 0 or
-- a higher link.
abbrev mutual
  pub Stands : Bundle → ℕ → Node → Type 0
  Stands b t (leaf n x) = (n ≡ t) × Number (length b.terms) t × ((term_of b t).kind ≡ 1) × ((term_of b t).a ≡ x)
  Stands b t (node n f ns) = (n ≡ t) × Number (length b.terms) t × ((term_of b t).kind ≡ 2) × ((term_of b t).a ≡ f) × StandAll b t (term_of b t).b ns
  Stands b t (scope n q x u) =
      (n ≡ t) × Number (length b.terms) t × ((term_of b t).kind ≡ number_of (binder q)) × ((term_of b t).a ≡ x) × ((term_of b t).b < t) × Stands b (term_of b t).b u
  Stands b t (block n s vs ns u) =
      (n ≡ t)
      × Number (length b.terms) t
      × ((term_of b t).kind ≡ 5)
      × ((term_of b t).a ≡ s)
      × StandAll b t (term_of b t).b ns
      × ((term_of b t).c < t)
      × Stands b (term_of b t).c u

  pub StandAll : Bundle → ℕ → ℕ → Nodes → Type 0
  StandAll b o l nil = l ≡ 0
  StandAll b o l (cons τ ns) =
      Number (length b.links) l
      × ((link_of b l).value < o)
      × (((link_of b l).next ≡ 0) ⊎ ((l < (link_of b l).next) × ((link_of b l).next ≤ length b.links)))
      × Stands b (link_of b l).value τ
      × StandAll b o (link_of b l).next ns

-- the stack has a place for each step that there can be, and no more pairs are pending than b has steps
pub record Pending (s : List ℕ) (b : Bundle) (h : ℕ) : Type 0 where
  pub places : limits.steps ≤ length s
  pub height : h ≤ length b.steps

-- a visit leaves the stack as long as it was, and as it was below the height
pub record StackKept (s s' : List ℕ) (h : ℕ) : Type 0 where
  pub long : length s' ≡ length s
  pub below : take h s' ≡ take h s

-- ---- and what they give, where k says which variables are kept: b and s before the call, b' and s' after it

pub record TermAsks (b : Bundle) (s : List ℕ) (Γ h t : ℕ) : Type 0 where
  pub pending : Pending s b h
  pub context : Γ ≤ length b.contexts
  pub standing : Node
  pub stands : Stands b t standing

-- the result and the step are words
pub record TermGives (k : ℕ → Bool) (b : Bundle) (s : List ℕ) (Γ h t : ℕ) (b' : Bundle) (s' : List ℕ) (r : Option Visited) : Type 0 where
  pub kept : StackKept s s' h
  pub outcome : (τ : Node) → Stands b t τ → VisitOutcome (visit k τ Γ b) b' r
  pub words : VisitFits r

pub record ListAsks (b : Bundle) (s : List ℕ) (Γ h o l : ℕ) : Type 0 where
  pub pending : Pending s b h
  pub context : Γ ≤ length b.contexts
  pub standing : Nodes
  pub stands : StandAll b o l standing

pub record ListGives (k : ℕ → Bool) (b : Bundle) (s : List ℕ) (Γ h o l : ℕ) (b' : Bundle) (s' : List ℕ) (r : Option ℕ) : Type 0 where
  pub kept : StackKept s s' h
  pub outcome : (ns : Nodes) → StandAll b o l ns → ListOutcome (visit_all k ns Γ b) h b' s' r
