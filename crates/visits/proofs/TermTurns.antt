-- The visit to a term: what each of its calls asks, and what each of its returns gives.
--     Reads                                         the term's record, as the code reads it
--     term_kind                                     its kind
--     term_words_lem, term_variable                 a variable
--     scope_closed, scope_asks, scope_full, ..      a binder
--     args_asks, args_full, args_ready              the list of arguments or of bound terms
--     apply_done                                    an application
--     let_closed, body_asks, body_full, ..          a let
use mathlib.Core.Path.{◌≡◌, refl, sym, ap, ◌∙◌, subst}
use mathlib.Core.Bool.{Bool, true, false}
use mathlib.Core.Logic.{◌⊎◌, inl, inr}
use mathlib.Core.List.{List, [], ◌∷◌, ◌++◌}
use Prim.Native.Nat.{ℕ, ◌+◌, ◌≤◌, ◌<◌}
use native.Mathlib.Omega.{arith}
use lib.ListN.{length, set}
use Rattle.std.specs.Prelude.{Option, Some, None}
use Rattle.bundle.specs.File.{own_counts}
use Rattle.bundle.specs.Words.{largest_word}
use Rattle.bundle.specs.declared.records.TermWords.{TermWords}
use Rattle.bundle.specs.Bundle.{Bundle, TermRecord, term_of}
use Rattle.bundle.specs.Limits.{limits, Within}
use Rattle.bundle.specs.RecordWords.{as_term}
use Rattle.logic.specs.Lists.{Number}
use Rattle.logic.specs.Terms.{Binder, Kind, variable, application, binder, letting, other, number_of, kind_of}
use Rattle.logic.specs.Longer.{Longer}
use Rattle.logic.specs.Contexts.{image}
use Rattle.logic.proofs.TermKinds.{number_kind}
use Rattle.logic.proofs.Longer.{longer_trans, sizes}
use Rattle.scratch.specs.Stack.{halves}
use Rattle.placing.specs.declared.Visited.{Visited}
use Rattle.placing.specs.declared.Opened.{Opened}
use Rattle.expansion.specs.Nodes.{Node, Nodes, leaf, node, scope, block}
use Rattle.expansion.specs.Visit as unlimited
use Rattle.expansion.specs.Visit.{Visit, visit, visit_all, concluded, image_term, close_application, close_binder, name_of, open_binder, replacing}
use Rattle.placing.specs.Outcomes.{Outcome, VisitOutcome, VisitFits, OpenOutcome, BinderOutcome, Stands, StandAll, TermAsks, TermGives, ListAsks, ListGives}
use Rattle.expansion.proofs.Grown.{open_longer, visit_longer, visit_all_longer}
use Rattle.visits.proofs.StandingKept.{stands_on, visit_more, visit_all_steps, replacing_context, open_context, opening, opening_longer, scope_longer}
use Rattle.visits.proofs.StandingKept.{node_longer, body_longer, block_longer}
use Rattle.placing.proofs.Pairs.{Pair, below_same, below_trans, below_set, halves_then}
use Rattle.placing.proofs.OutcomeFacts.{longer_over, Done, outcome_done, full_on, on, visit_done, ListDone, list_done, list_full}

-- the term's record, as the code reads it
pub record Reads (b : Bundle) (t : ℕ) (w : TermWords) : Type 0 where
  pub is : as_term w ≡ term_of b t

-- what stands for a term, by its kind
module _ {b : Bundle} {t : ℕ} {w : TermWords} (reads : Reads b t w) (P : Node → Type 0) where
  on_second : (ns : Nodes) → StandAll b t (term_of b t).b ns → StandAll b t w.second ns
  on_second ns k = subst (λ (r : TermRecord). StandAll b t r.b ns) (sym reads.is) k

  kind_is : {k : ℕ} → (term_of b t).kind ≡ k → w.kind ≡ k
  kind_is e = ap (λ (r : TermRecord). r.kind) reads.is ∙ e

  numbers : {n x : ℕ} (τ : ℕ → ℕ → Node) → n ≡ t → (term_of b t).a ≡ x → P (τ t w.first) → P (τ n x)
  numbers τ e f p = subst P (λ i. τ (sym e i) ((ap (λ (r : TermRecord). r.a) reads.is ∙ f) i)) p

  kind_at : (k : Kind) → (term_of b t).kind ≡ number_of k → kind_of w.kind ≡ k
  kind_at k e = ap kind_of (kind_is e) ∙ number_kind k

  variable_only : kind_of w.kind ≡ variable → P (leaf t w.first) → (τ : Node) → Stands b t τ → P τ
  variable_only e p (leaf n x) k = numbers leaf k.0 k.3 p
  variable_only e p (node n f ns) k = let z = sym e ∙ kind_at application k.2 in absurd (cc)
  variable_only e p (scope n q x u) k = let z = sym e ∙ kind_at (binder q) k.2 in absurd (cc)
  variable_only e p (block n s vs ns u) k = let z = sym e ∙ kind_at letting k.2 in absurd (cc)

  binder_only : {q : Binder} → kind_of w.kind ≡ binder q → ((u : Node) → w.second < t → Stands b w.second u → P (scope t q w.first u))
      → (τ : Node) → Stands b t τ → P τ
  binder_only e p (leaf n x) k = let z = sym e ∙ kind_at variable k.2 in absurd (cc)
  binder_only e p (node n f ns) k = let z = sym e ∙ kind_at application k.2 in absurd (cc)
  binder_only {q} e p (scope n q' x u) k =
      let z = sym e ∙ kind_at (binder q') k.2 in
      let same : q ≡ q' = cc in
      let body = subst (λ (r : TermRecord). (r.b < t) × Stands b r.b u) (sym reads.is) (k.4, k.5) in
      numbers (λ m y. scope m q' y u) k.0 k.3 (subst (λ (o : Binder). P (scope t o w.first u)) same (p u body.0 body.1))
  binder_only e p (block n s vs ns u) k = let z = sym e ∙ kind_at letting k.2 in absurd (cc)

  application_only : kind_of w.kind ≡ application → ((ns : Nodes) → StandAll b t w.second ns → P (node t w.first ns))
      → (τ : Node) → Stands b t τ → P τ
  application_only e p (leaf n x) k = let z = sym e ∙ kind_at variable k.2 in absurd (cc)
  application_only e p (node n f ns) k = numbers (λ m y. node m y ns) k.0 k.3 (p ns (on_second ns k.4))
  application_only e p (scope n q x u) k = let z = sym e ∙ kind_at (binder q) k.2 in absurd (cc)
  application_only e p (block n s vs ns u) k = let z = sym e ∙ kind_at letting k.2 in absurd (cc)

  let_only : kind_of w.kind ≡ letting
      → ((vs : List ℕ) (ns : Nodes) (u : Node) → StandAll b t w.second ns → w.third < t → Stands b w.third u → P (block t w.first vs ns u))
      → (τ : Node) → Stands b t τ → P τ
  let_only e p (leaf n x) k = let z = sym e ∙ kind_at variable k.2 in absurd (cc)
  let_only e p (node n f ns) k = let z = sym e ∙ kind_at application k.2 in absurd (cc)
  let_only e p (scope n q x u) k = let z = sym e ∙ kind_at (binder q) k.2 in absurd (cc)
  let_only e p (block n s vs ns u) k =
      let body = subst (λ (r : TermRecord). (r.c < t) × Stands b r.c u) (sym reads.is) (k.5, k.6) in
      numbers (λ m y. block m y vs ns u) k.0 k.3 (p vs ns u (on_second ns k.4) body.0 body.1)

  -- an application or a let
  listed_only : (kind_of w.kind ≡ application) ⊎ (kind_of w.kind ≡ letting) → ((ns : Nodes) → StandAll b t w.second ns → P (node t w.first ns))
      → ((vs : List ℕ) (ns : Nodes) (u : Node) → StandAll b t w.second ns → w.third < t → Stands b w.third u → P (block t w.first vs ns u))
      → (τ : Node) → Stands b t τ → P τ
  listed_only (inl e) p p' = application_only e p
  listed_only (inr e) p p' = let_only e p'

  -- each term that stands for a node has a kind
  none_only : kind_of w.kind ≡ other → (τ : Node) → Stands b t τ → ⊥
  none_only e (leaf n x) k = let z = sym e ∙ kind_at variable k.2 in absurd (cc)
  none_only e (node n f ns) k = let z = sym e ∙ kind_at application k.2 in absurd (cc)
  none_only e (scope n q x u) k = let z = sym e ∙ kind_at (binder q) k.2 in absurd (cc)
  none_only e (block n s vs ns u) k = let z = sym e ∙ kind_at letting k.2 in absurd (cc)

stands_number : (b : Bundle) (t : ℕ) (τ : Node) → Stands b t τ → Number (length b.terms) t
stands_number b t (leaf n x) k = k.1
stands_number b t (node n f ns) k = k.1
stands_number b t (scope n q x u) k = k.1
stands_number b t (block n s vs ns u) k = k.1

-- the variable of a binder's result is a word
name_word : (kept : Bool) (b : Bundle) (x : ℕ) → x ≤ largest_word → Within (own_counts b) → name_of kept b x ≤ largest_word
name_word true b x low k = low
name_word false b x low k = omega (arith, k.variables)

module _ {b : Bundle} {s : List ℕ} {Γ h t : ℕ} (asks : TermAsks b s Γ h t) where
  -- numbers that go into a step
  pub term_words_lem : Within (own_counts b) → (Γ ≤ largest_word) × (t ≤ largest_word)
  term_words_lem k =
      (omega (arith, asks.context, k.contexts), omega (arith, (stands_number b t asks.standing asks.stands).1, k.terms))

  module _ {w : TermWords} (reads : Reads b t w) where
    pub term_kind : kind_of w.kind ≡ other → ⊥
    term_kind e = none_only reads (λ τ. ⊥) e asks.standing asks.stands

    -- ---- a variable

    pub term_variable : {keeps : ℕ → Bool} {b1 : Bundle} {r : Option Visited} → kind_of w.kind ≡ variable
        → VisitOutcome (concluded b 1 Γ t (image_term (image b Γ w.first) t) []) b1 r → VisitFits r → TermGives keeps b s Γ h t b1 s r
    unfolding visit
    term_variable {keeps} {b1} {r} e g fits = record {
      kept = below_same s h;
      outcome = variable_only reads (λ τ. VisitOutcome (visit keeps τ Γ b) b1 r) e g;
      words = fits;
    }

    -- ---- a binder

    -- keeps says which variables are kept, and kept whether this one's is
    module _ (keeps : ℕ → Bool) {q : Binder} (binds : kind_of w.kind ≡ binder q) {kept : Bool} (kept_is : kept ≡ keeps w.first) {b1 : Bundle}
        {r : Option Opened} (opened : BinderOutcome (open_binder kept b w.first Γ) b1 r) where
      scope_opened : BinderOutcome (open_binder (keeps w.first) b w.first Γ) b1 r
      scope_opened = subst (λ (p : Bool). BinderOutcome (open_binder p b w.first Γ) b1 r) kept_is opened

      -- there was no room for its contexts
      pub scope_closed : r ≡ None → TermGives keeps b s Γ h t b1 s None
      scope_closed e = record {
        kept = below_same s h;
        outcome = binder_only reads (λ τ. VisitOutcome (visit keeps τ Γ b) b1 None) binds (λ u low k.
            full_on scope_opened e (longer_trans (visit_longer keeps u _ _) (scope_longer keeps t Γ b q w.first u)));
        words = tt;
      }

      module _ {o : Opened} (told : r ≡ Some o) where
        scope_open : Done (open_binder (keeps w.first) b w.first Γ).bundle (record { context = (open_binder (keeps w.first) b w.first Γ).context; variable = (open_binder (keeps w.first) b w.first Γ).variable }) b1 o
        scope_open = outcome_done scope_opened told

        scope_longer_lem : Longer b b1
        scope_longer_lem = on (open_longer (keeps w.first) b w.first Γ) scope_open.bundle

        -- the call for the body
        pub scope_asks : TermAsks b1 s o.context h w.second × (w.second < t)
        scope_asks = binder_only reads (λ τ. TermAsks b1 s o.context h w.second × (w.second < t)) binds (λ u low k. (
          record {
            pending = record { places = asks.pending.places; height = omega (arith, asks.pending.height, (sizes scope_longer_lem).steps) };
            context = omega (arith, ap (λ (x : Opened). x.context) scope_open.value, open_context (keeps w.first) b w.first Γ, ap (λ (B : Bundle). length B.contexts) scope_open.bundle);
            standing = u;
            stands = stands_on scope_longer_lem u w.second k;
          },
          low,
        )) asks.standing asks.stands

        -- the variable that the result binds is a word
        pub scope_word : w.first ≤ largest_word → Within (own_counts b) → o.variable ≤ largest_word
        scope_word low k = omega (arith, ap (λ (x : Opened). x.variable) scope_open.value, name_word (keeps w.first) b w.first low k)

        module _ {b2 : Bundle} {s2 : List ℕ} {r2 : Option Visited} (gave : TermGives keeps b1 s o.context h w.second b2 s2 r2) where
          scope_body : (u : Node) → Stands b w.second u
              → VisitOutcome (visit keeps u (open_binder (keeps w.first) b w.first Γ).context (open_binder (keeps w.first) b w.first Γ).bundle) b2 r2
          scope_body u k =
              subst (λ (v : Visit). VisitOutcome v b2 r2) (λ i. visit keeps u (scope_open.value i).context (scope_open.bundle i))
              (gave.outcome u (stands_on scope_longer_lem u w.second k))

          -- the body's visit was full: so is the binder's
          pub scope_full : r2 ≡ None → TermGives keeps b s Γ h t b2 s2 None
          scope_full e = record {
            kept = gave.kept;
            outcome = binder_only reads (λ τ. VisitOutcome (visit keeps τ Γ b) b2 None) binds (λ u low k.
                full_on (scope_body u k) e (scope_longer keeps t Γ b q w.first u));
            words = tt;
          }

          -- a binder's visit, from the body's and what closed it
          pub scope_done : {x : Visited} → r2 ≡ Some x → {b3 : Bundle} {r3 : Option Visited}
              → VisitOutcome (close_binder Γ t q o.variable (record { bundle = b2; result = x.result; step = x.step })) b3 r3
              → VisitFits r3 → TermGives keeps b s Γ h t b3 s2 r3
          unfolding visit
          scope_done {x} told2 {b3} {r3} g fits = record {
            kept = gave.kept;
            outcome = binder_only reads (λ τ. VisitOutcome (visit keeps τ Γ b) b3 r3) binds (λ u low k.
                let d = visit_done (scope_body u k) told2 in
                subst (λ (v : Visit). VisitOutcome v b3 r3)
                (λ j. close_binder Γ t q (scope_open.value j).variable (record { bundle = d.bundle j; result = d.result j; step = d.step j })) g);
            words = fits;
          }

    -- ---- the list of arguments, or of bound terms

    module _ (listed : (kind_of w.kind ≡ application) ⊎ (kind_of w.kind ≡ letting)) where
      -- the call for it
      pub args_asks : ListAsks b s Γ h t w.second
      args_asks = listed_only reads (λ τ. ListAsks b s Γ h t w.second) listed
          (λ ns k. record { pending = asks.pending; context = asks.context; standing = ns; stands = k })
          (λ vs ns u k low st. record { pending = asks.pending; context = asks.context; standing = ns; stands = k })
          asks.standing asks.stands

      module _ {keeps : ℕ → Bool} {b1 : Bundle} {s1 : List ℕ} {r : Option ℕ} (gave : ListGives keeps b s Γ h t w.second b1 s1 r) where
        -- the list's visit was full: so is the term's
        pub args_full : r ≡ None → TermGives keeps b s Γ h t b1 s1 None
        args_full e = record {
          kept = gave.kept;
          outcome = listed_only reads (λ τ. VisitOutcome (visit keeps τ Γ b) b1 None) listed
              (λ ns k. Outcome.full (longer_over (node_longer keeps t Γ b w.first ns) (list_full (gave.outcome ns k) e)) refl)
              (λ vs ns u k low st. Outcome.full
              (longer_over (longer_trans (opening_longer keeps b w.first Γ ns) (block_longer keeps t Γ b w.first vs ns u)) (list_full (gave.outcome ns k) e)) refl);
          words = tt;
        }

        module _ {top : ℕ} (told : r ≡ Some top) where
          args_done : (ns : Nodes) → StandAll b t w.second ns → ListDone (visit_all keeps ns Γ b) h b1 s1 top
          args_done ns k = list_done (gave.outcome ns k) told

          -- the pairs are on the stack, no more than there are steps
          pub args_ready : (h ≤ top) × (top ≤ length b1.steps) × (top ≤ length s1)
          args_ready =
              let ns = args_asks.standing in
              let d = args_done ns args_asks.stands in
              let e : top ≤ length (visit_all keeps ns Γ b).bundle.steps = omega (arith, d.height, asks.pending.height, visit_all_steps keeps ns Γ b) in (
                omega (arith, d.height),
                omega (arith, e, ap (λ (B : Bundle). length B.steps) d.bundle),
                omega (arith, e, d.within.steps, asks.pending.places, gave.kept.long),
              )

          -- an application's visit, from its arguments' and what closed it
          pub apply_done : kind_of w.kind ≡ application → {b2 : Bundle} {r2 : Option Visited}
              → VisitOutcome (close_application Γ t w.first (record { bundle = b1; results = halves true s1 h top; steps = halves false s1 h top })) b2 r2
              → VisitFits r2 → TermGives keeps b s Γ h t b2 s1 r2
          unfolding visit
          apply_done e {b2} {r2} g fits = record {
            kept = gave.kept;
            outcome = application_only reads (λ τ. VisitOutcome (visit keeps τ Γ b) b2 r2) e (λ ns k.
                let d = args_done ns k in
                subst (λ (v : Visit). VisitOutcome v b2 r2)
                (λ j. close_application Γ t w.first (record { bundle = d.bundle j; results = d.results j; steps = d.steps j })) g);
            words = fits;
          }

          -- ---- a let

          module _ (is_let : kind_of w.kind ≡ letting) {b2 : Bundle} {r2 : Option ℕ} (opened : OpenOutcome (replacing b1 w.first Γ (halves true s1 h top)) b2 r2) where
            let_opened : (ns : Nodes) → StandAll b t w.second ns → OpenOutcome (opening keeps b w.first Γ ns) b2 r2
            let_opened ns k =
                let d = args_done ns k in
                subst (λ (o : unlimited.OpenedContext). OpenOutcome o b2 r2) (λ j. replacing (d.bundle j) w.first Γ (d.results j)) opened

            -- there was no room for it
            pub let_closed : r2 ≡ None → TermGives keeps b s Γ h t b2 s1 None
            let_closed e = record {
              kept = gave.kept;
              outcome = let_only reads (λ τ. VisitOutcome (visit keeps τ Γ b) b2 None) is_let (λ vs ns u k low st.
                  full_on (let_opened ns k) e (block_longer keeps t Γ b w.first vs ns u));
              words = tt;
            }

            module _ {inner : ℕ} (told2 : r2 ≡ Some inner) where
              let_done : (ns : Nodes) → StandAll b t w.second ns → Done (opening keeps b w.first Γ ns).bundle (opening keeps b w.first Γ ns).context b2 inner
              let_done ns k = outcome_done (let_opened ns k) told2

              let_stands : (ns : Nodes) → StandAll b t w.second ns → (u : Node) → Stands b w.third u → Stands b2 w.third u
              let_stands ns k u st =
                  stands_on (on (longer_trans (visit_all_longer keeps ns Γ b) (opening_longer keeps b w.first Γ ns)) (let_done ns k).bundle) u w.third st

              -- the call for the body
              pub body_asks : TermAsks b2 s1 inner top w.third × (w.third < t)
              body_asks = let_only reads (λ τ. TermAsks b2 s1 inner top w.third × (w.third < t)) is_let (λ vs ns u k low st.
                  let d = let_done ns k in
                  let v = visit_all keeps ns Γ b in (
                    record {
                      pending = record {
                        places = omega (arith, asks.pending.places, gave.kept.long);
                        height = omega (
                          arith,
                          args_ready.1,
                          ap (λ (B : Bundle). length B.steps) (args_done ns k).bundle,
                          ap (λ (B : Bundle). length B.steps) d.bundle,
                        );
                      };
                      context = omega (arith, d.value, replacing_context v.bundle w.first Γ v.results, ap (λ (B : Bundle). length B.contexts) d.bundle);
                      standing = u;
                      stands = let_stands ns k u st;
                    },
                    low,
                  )) asks.standing asks.stands

              module _ {b3 : Bundle} {s3 : List ℕ} {r3 : Option Visited} (gave3 : TermGives keeps b2 s1 inner top w.third b3 s3 r3) where
                body_outcome : (ns : Nodes) → StandAll b t w.second ns → (u : Node) → Stands b w.third u
                    → VisitOutcome (visit keeps u (opening keeps b w.first Γ ns).context (opening keeps b w.first Γ ns).bundle) b3 r3
                body_outcome ns k u st =
                    let d = let_done ns k in
                    subst (λ (v : Visit). VisitOutcome v b3 r3) (λ i. visit keeps u (d.value i) (d.bundle i)) (gave3.outcome u (let_stands ns k u st))

                -- the body's visit was full: so is the let's
                pub body_full : r3 ≡ None → TermGives keeps b s Γ h t b3 s3 None
                body_full e = record {
                  kept = below_trans args_ready.0 gave.kept gave3.kept;
                  outcome = let_only reads (λ τ. VisitOutcome (visit keeps τ Γ b) b3 None) is_let (λ vs ns u k low st.
                      full_on (body_outcome ns k u st) e (body_longer keeps t Γ b w.first vs ns u));
                  words = tt;
                }

                module _ {x : Visited} (told3 : r3 ≡ Some x) where
                  -- a place for the body's pair
                  pub body_ready : top < length s3
                  body_ready = let_only reads (λ τ. top < length s3) is_let (λ vs ns u k low st.
                      let d = visit_done (body_outcome ns k u st) told3 in
                      let i : top < limits.steps =
                      omega (
                        arith,
                        args_ready.1,
                        ap (λ (B : Bundle). length B.steps) (args_done ns k).bundle,
                        visit_more keeps u (opening keeps b w.first Γ ns).context (opening keeps b w.first Γ ns).bundle,
                        d.within.steps,
                      ) in
                      omega (arith, i, asks.pending.places, gave.kept.long, gave3.kept.long)) asks.standing asks.stands

                  -- a let's visit, from the bound terms', the body's and the step that closed it
                  pub body_done : {pair : ℕ} → Pair pair x.result x.step → {b4 : Bundle} {r4 : Option Visited}
                      → VisitOutcome (concluded b3 5 Γ t x.result (halves false (set s3 top pair) h (top + 1))) b4 r4
                      → VisitFits r4 → TermGives keeps b s Γ h t b4 (set s3 top pair) r4
                  unfolding visit
                  body_done {pair} packed {b4} {r4} g fits = record {
                    kept = below_trans args_ready.0 gave.kept (below_trans (omega arith) gave3.kept (below_set s3 top top pair (omega arith)));
                    outcome = let_only reads (λ τ. VisitOutcome (visit keeps τ Γ b) b4 r4) is_let (λ vs ns u k low st.
                        let a = args_done ns k in
                        let d = visit_done (body_outcome ns k u st) told3 in
                        let steps = (visit_all keeps ns Γ b).steps in
                        let premises : halves false (set s3 top pair) h (top + 1) ≡ steps
                        ++ ((visit keeps u (opening keeps b w.first Γ ns).context (opening keeps b w.first Γ ns).bundle).step ∷ []) =
                        halves_then gave3.kept false h pair args_ready.0 body_ready
                        ∙ (λ j. a.steps j ++ ((packed.lower ∙ d.step) j ∷ [])) in
                        subst (λ (v : Visit). VisitOutcome v b4 r4) (λ j. concluded (d.bundle j) 5 Γ t (d.result j) (premises j)) g);
                    words = fits;
                  }
