-- THE RULES AS PRINTED (source document 003, section 2, in document 01's words): when a judgement follows from its premises. Terms are trees;
-- contexts are compared by number, as document 01 says.
use Rattle.std.specs.Prelude.{ℕ, ◌≤◌, ◌≡◌, ◌⊎◌, List, [], ◌∷◌, ◌++◌, length}
use Rattle.bundle.specs.Bundle.{Bundle, Step, context_of, step_of}
use Rattle.bundle.specs.Links.{items}
use Rattle.logic.specs.Lists.{All, Number}
use Rattle.logic.specs.Symbols.{not_symbol}
use Rattle.logic.specs.Terms.{Binder, forAll, exists, choice, Term, Terms, var, app, bind, let_in, none, more, gather, tree}
use Rattle.logic.specs.Free.{Free}
use Rattle.logic.specs.Contexts.{image_tree, Settled, InScope}
use Rattle.logic.specs.Replacement.{Replacement}
use Rattle.logic.specs.ReflWalk.{refl_walk, pair_limit}
use Rattle.logic.specs.Rules.{Rule, REFL, CONG, TRANS, BIND, LET, SKO_EXISTS, SKO_FOR_ALL, rule_of}
use Rattle.logic.specs.WellFormed.{StartsList, Lower}

-- step p says: in context Γ, l is r
pub record Says (b : Bundle) (p Γ : ℕ) (l r : Term) : Type 0 where
  pub context : (step_of b p).context ≡ Γ
  pub left : tree b (step_of b p).left ≡ l
  pub right : tree b (step_of b p).right ≡ r

-- in context Γ, the premises say in order that each of the terms ls is its fellow of rs
abbrev pub SayAll : Bundle → ℕ → Terms → Terms → List ℕ → Type 0
SayAll b Γ none none [] = Unit {0}
SayAll b Γ none none (p ∷ ps) = ⊥
SayAll b Γ none (more r rs) ps = ⊥
SayAll b Γ (more l ls) none ps = ⊥
SayAll b Γ (more l ls) (more r rs) [] = ⊥
SayAll b Γ (more l ls) (more r rs) (p ∷ ps) = Says b p Γ l r × SayAll b Γ ls rs ps

-- context Δ is Γ with the variable y fixed
pub record Fixes (b : Bundle) (Δ y Γ : ℕ) : Type 0 where
  pub kind : (context_of b Δ).kind ≡ 1
  pub variable : (context_of b Δ).a ≡ y
  pub parent : (context_of b Δ).parent ≡ Γ

-- context Δ is Γ with the variables xs replaced by the terms ts, in order
pub record Replaces (b : Bundle) (Δ : ℕ) (xs : List ℕ) (ts : Terms) (Γ : ℕ) : Type 0 where
  pub kind : (context_of b Δ).kind ≡ 2
  pub variables : items b (context_of b Δ).a ≡ xs
  pub terms : gather (tree b) (items b (context_of b Δ).b) ≡ ts
  pub parent : (context_of b Δ).parent ≡ Γ

-- not(φ)
abbrev pub negated : Term → Term
negated φ = app not_symbol (more φ none)

-- In context Γ, left is right, by a rule from premises.
pub data Instance (b : Bundle) (rule : Rule) (Γ : ℕ) (left right : Term) (premises : List ℕ) : Type 0 where
  -- REFL: right is the capture-avoiding replacement of left, each free variable by its image, up to the names of binders inside left (Req 04).
  -- Document 01's two forms are cases of it: `ReflForms` (Statements.antt).
  by_refl : rule ≡ REFL → premises ≡ [] → Replacement b (image_tree b Γ) left right → Instance b rule Γ left right premises
  -- CONG: same symbol, premises in the step's context, one for each argument in order.
  by_cong : rule ≡ CONG → (f : ℕ) (ts us : Terms) → left ≡ app f ts → right ≡ app f us → SayAll b Γ ts us premises
      → Instance b rule Γ left right premises
  -- TRANS: left to middle, middle to right, same context; the middle is settled.
  by_trans : rule ≡ TRANS → (p q : ℕ) (middle : Term) → premises ≡ p ∷ q ∷ [] → Says b p Γ left middle → Says b q Γ middle right
      → Settled b Γ middle → Instance b rule Γ left right premises
  -- BIND, from Qx.φ to Qy.ψ, same binder: the premise is φ to ψ in a context that replaces x alone by y, whose parent fixes y, whose
  -- parent is the step's context. Sides: y is not free in Qx.φ, and y is not free in the image, in the step's context, of any free variable
  -- of Qx.φ.
  by_bind : rule ≡ BIND → (Q : Binder) (x y : ℕ) (φ ψ : Term) (p Δ Θ : ℕ) → left ≡ bind Q x φ → right ≡ bind Q y ψ → premises ≡ p ∷ []
      → Says b p Δ φ ψ → Replaces b Δ (x ∷ []) (more (var y) none) Θ → Fixes b Θ y Γ
      → (Free y left → ⊥) → ((z : ℕ) → Free z left → Free y (image_tree b Γ z) → ⊥) → Instance b rule Γ left right premises
  -- LET: premises carry each bound term to some s in the step's context; the last carries the body to the right side in a context that
  -- replaces the let's variables by those s, in order, with the step's context as parent.
  by_let : rule ≡ LET → (xs : List ℕ) (rs ss : Terms) (t : Term) (ps : List ℕ) (p Δ : ℕ) → left ≡ let_in xs rs t → premises ≡ ps ++ (p ∷ [])
      → SayAll b Γ rs ss ps → Says b p Δ t right → Replaces b Δ xs ss Γ → Instance b rule Γ left right premises
  -- SKO∃, from ∃x.φ: the premise is φ to the right side in a context that replaces x alone by εx.φ, with the step's context as parent. (In every
  -- replacing context the terms are settled in the parent: check 11.)
  by_sko_exists : rule ≡ SKO_EXISTS → (x : ℕ) (φ : Term) (p Δ : ℕ) → left ≡ bind exists x φ → premises ≡ p ∷ [] → Says b p Δ φ right
      → Replaces b Δ (x ∷ []) (more (bind choice x φ) none) Γ → Instance b rule Γ left right premises
  -- SKO∀, from ∀x.φ: the same with εx.not(φ).
  by_sko_for_all : rule ≡ SKO_FOR_ALL → (x : ℕ) (φ : Term) (p Δ : ℕ) → left ≡ bind forAll x φ → premises ≡ p ∷ [] → Says b p Δ φ right
      → Replaces b Δ (x ∷ []) (more (bind choice x (negated φ)) none) Γ → Instance b rule Γ left right premises

-- each of the terms is settled in context Γ: the paper's Γ(s) = s
abbrev pub AllSettled : Bundle → ℕ → Terms → Type 0
AllSettled b Γ none = Unit {0}
AllSettled b Γ (more s ss) = Settled b Γ s × AllSettled b Γ ss

-- LET with the side that the paper prints. Document 01 leaves it out, since in every replacing context the terms are settled in the parent:
-- `LetPrinted` (Statements.antt).
pub record LetAsPrinted (b : Bundle) (Γ : ℕ) (left right : Term) (premises : List ℕ) : Type 0 where
  pub variables : List ℕ
  pub bound : Terms
  pub carried : Terms
  pub body : Term
  pub earlier : List ℕ
  pub last : ℕ
  pub inner : ℕ
  pub is_let : left ≡ let_in variables bound body
  pub premises_are : premises ≡ earlier ++ (last ∷ [])
  pub bound_say : SayAll b Γ bound carried earlier
  pub body_says : Says b last inner body right
  pub replacing : Replaces b inner variables carried Γ
  pub side : AllSettled b Γ carried

-- Document 01's two forms of REFL: left and right are the same term and it is settled; or left is a variable and right its image.
abbrev pub ReflForm : Bundle → ℕ → Term → Term → Type 0
ReflForm b Γ left right = ((left ≡ right) × Settled b Γ left) ⊎ ((x : ℕ) × (left ≡ var x) × (right ≡ image_tree b Γ x))

-- A REFL is of one of these forms, or else its walk visits at most 4,096 pairs.
abbrev pub PairsSuffice : Bundle → Rule → Step → Type 0
PairsSuffice b rule s =
    rule ≡ REFL → ReflForm b s.context (tree b s.left) (tree b s.right) ⊎ ((refl_walk b s).pairs ≤ pair_limit)

-- Each free variable of both sides of a step is mentioned by an entry of its context (Req 05).
abbrev pub SidesInScope : Bundle → Step → Type 0
SidesInScope b s = InScope b s.context (tree b s.left) × InScope b s.context (tree b s.right)

-- both sides of step p are terms
abbrev pub SidesAreTerms : Bundle → ℕ → Type 0
SidesAreTerms b p = Number (length b.terms) (step_of b p).left × Number (length b.terms) (step_of b p).right

-- Step: rule, context, left, right, list of premises, which are earlier steps; its sides are in scope, and it is an instance of its rule, within the pairs
-- of a walk.
pub record StepHolds (b : Bundle) (k : ℕ) : Type 0 where
  pub context : (step_of b k).context ≤ length b.contexts
  pub left : Number (length b.terms) (step_of b k).left
  pub right : Number (length b.terms) (step_of b k).right
  pub start : StartsList b (step_of b k).premises
  pub earlier : All (Lower k) (items b (step_of b k).premises)
  pub scope : SidesInScope b (step_of b k)
  pub «instance» : Instance b (rule_of (step_of b k).rule) (step_of b k).context (tree b (step_of b k).left) (tree b (step_of b k).right)
      (items b (step_of b k).premises)
  pub pairs : PairsSuffice b (rule_of (step_of b k).rule) (step_of b k)
