-- Words stored at the end of a section are a record appended, and every other section stays as it is.
--     Written                        words vs stand from place p on, and every other word is as it was
--     written_none, written_more     no store, and one store more
--     written_1, written_2, written_4, written_5   stores one after another
--     rows_kept, rows_more           a section whose words are as they were, and one with a record more: one law over start, size and kind
--     variable_appended, ..          what words written so leave
--     variable_stored, ..            what the stores of each append leave
use mathlib.Core.Path.{◌≡◌, refl, sym, subst, ◌∙◌}
use mathlib.Core.List.{List, [], ◌∷◌, ◌++◌}
use Prim.Native.Nat.{ℕ, ◌+◌, ◌*◌, ◌≤◌, ◌<◌}
use native.Mathlib.Omega.{arith}
use native.Mathlib.Decide.{dec_lt}
use lib.ListN.{length, get_or, set, length-append, length-set, get_or-append}
use lib.Seq.{get_or-set_same, get_or-set_other, get_or-append_seam}
use Rattle.bundle.specs.declared.Counts.{Counts}
use Rattle.bundle.specs.Bundle.{Bundle, Symbol, Link, TermRecord, Context, Step}
use Rattle.bundle.specs.Limits.{limits, Within, symbols_at, variables_at, terms_at, links_at, contexts_at, steps_at}
use Rattle.bundle.specs.File.{tab, record_by, symbol_from, link_from, term_from, context_from, step_from, bundle_by}
use Rattle.bundle.proofs.Fields.{symbol_same, variable_same, term_same, link_same, context_same, step_same, section_same, section_more}
use Rattle.logic.specs.Longer.{with_variables, with_terms, with_links, with_contexts, with_steps}
use Rattle.scratch.specs.Scratch.{word_in, bundle_in, Roomy}
use Rattle.scratch.proofs.ScratchFields.{sized_as}

-- v is w with the words vs from place p on
pub record Written (w v : List ℕ) (p : ℕ) (vs : List ℕ) : Type 0 where
  pub long : length v ≡ length w
  pub new : (k : ℕ) → k < length vs → get_or v (p + k) 0 ≡ get_or vs k 0
  pub below : (j : ℕ) → j < p → get_or v j 0 ≡ get_or w j 0
  pub above : (j : ℕ) → p + length vs ≤ j → get_or v j 0 ≡ get_or w j 0

written_none : (w : List ℕ) (p : ℕ) → Written w w p []
written_none w p = record { long = refl; new = λ k h. absurd (omega arith); below = λ j h. refl; above = λ j h. refl }

module _ {w v : List ℕ} {p : ℕ} {vs : List ℕ} (o : Written w v p vs) (q x : ℕ) (here : q ≡ p + length vs) (fits : q < length w) where
  pub written_more : Written w (set v q x) p (vs ++ (x ∷ []))
  written_more =
      let l : length (vs ++ (x ∷ [])) ≡ length vs + 1 = length-append vs (x ∷ []) in
      record {
        long = length-set v q x ∙ o.long;
        new = λ k h. new k h (dec_lt k (length vs));
        below = λ j h. get_or-set_other v q j x 0 (omega arith) ∙ o.below j h;
        above = λ j h. get_or-set_other v q j x 0 (omega arith) ∙ o.above j (omega arith);
      }
    where
      new : (k : ℕ) → k < length (vs ++ (x ∷ [])) → Dec (k < length vs) → get_or (set v q x) (p + k) 0 ≡ get_or (vs ++ (x ∷ [])) k 0
      new k h (yes u) = get_or-set_other v q (p + k) x 0 (omega arith) ∙ o.new k u ∙ sym (get_or-append vs (x ∷ []) 0 k u)
      new k h (no u) =
          let e : k ≡ length vs = omega (arith, length-append vs (x ∷ [])) in
          let f : p + length vs ≡ q = omega arith in
          let g : q < length v = omega (arith, o.long) in
          rw (e, f) (get_or-set_same v q x 0 g ∙ sym (get_or-append_seam vs x [] 0))

-- one word, and two, four and five stored one after another
written_1 : (w : List ℕ) (p a : ℕ) → p + 1 ≤ length w → Written w (set w p a) p (a ∷ [])
written_1 w p a h = written_more (written_none w p) p a (omega arith) (omega arith)

module _ (w : List ℕ) (p a b : ℕ) where
  abbrev pub stored_2 : List ℕ
  stored_2 = set (set w p a) (p + 1) b

  written_2 : p + 2 ≤ length w → Written w stored_2 p (a ∷ b ∷ [])
  written_2 h = written_more (written_1 w p a (omega arith)) (p + 1) b (omega arith) (omega arith)

  module _ (d e : ℕ) where
    abbrev pub stored_4 : List ℕ
    stored_4 = set (set stored_2 (p + 2) d) (p + 3) e

    written_4 : p + 4 ≤ length w → Written w stored_4 p (a ∷ b ∷ d ∷ e ∷ [])
    written_4 h = written_more (written_more (written_2 (omega arith)) (p + 2) d (omega arith) (omega arith)) (p + 3) e (omega arith) (omega arith)

    abbrev pub stored_5 : ℕ → List ℕ
    stored_5 f = set stored_4 (p + 4) f

    written_5 : (f : ℕ) → p + 5 ≤ length w → Written w (stored_5 f) p (a ∷ b ∷ d ∷ e ∷ f ∷ [])
    written_5 f h = written_more (written_4 (omega arith)) (p + 4) f (omega arith) (omega arith)

-- v has the words of w from place lo to before place hi
abbrev pub Same : List ℕ → List ℕ → ℕ → ℕ → Type 0
Same w v lo hi = (j : ℕ) → lo ≤ j → j < hi → get_or v j 0 ≡ get_or w j 0

-- a section of records that `from` makes of `size` words each, where `from` reads no other words
module _ {A : Type 0} (from : (ℕ → ℕ) → A) (size : ℕ) (same : (u u' : ℕ → ℕ) → ((k : ℕ) → k < size → u k ≡ u' k) → from u ≡ from u')
    (w v : List ℕ) (start n : ℕ) (h : Same w v start (start + size * n)) where
  pub rows_kept : tab (λ j. from (record_by (word_in v) start size j)) n ≡ tab (λ j. from (record_by (word_in w) start size j)) n
  rows_kept = section_same from size same (word_in v) (word_in w) start start n (λ j l. h (start + j) (omega arith) (omega arith))

  pub rows_more : (vs : List ℕ) → ((k : ℕ) → k < size → get_or v (start + size * n + k) 0 ≡ get_or vs k 0)
      → tab (λ j. from (record_by (word_in v) start size j)) (n + 1) ≡ tab (λ j. from (record_by (word_in w) start size j)) n ++ (from (word_in vs) ∷ [])
  rows_more vs = section_more from size same (word_in v) (word_in w) start start n (λ j l. h (start + j) (omega arith) (omega arith)) (word_in vs)

module _ (w v : List ℕ) (c : Counts) where
  pub symbols_kept : Same w v (symbols_at limits) (symbols_at limits + 2 * c.symbols) → (bundle_in v c).symbols ≡ (bundle_in w c).symbols
  unfolding bundle_by
  symbols_kept = rows_kept symbol_from 2 symbol_same w v (symbols_at limits) c.symbols

  pub variables_kept : Same w v (variables_at limits) (variables_at limits + 1 * c.variables) → (bundle_in v c).variables ≡ (bundle_in w c).variables
  unfolding bundle_by
  variables_kept = rows_kept (λ u. u 0) 1 variable_same w v (variables_at limits) c.variables

  pub terms_kept : Same w v (terms_at limits) (terms_at limits + 4 * c.terms) → (bundle_in v c).terms ≡ (bundle_in w c).terms
  unfolding bundle_by
  terms_kept = rows_kept term_from 4 term_same w v (terms_at limits) c.terms

  pub links_kept : Same w v (links_at limits) (links_at limits + 2 * c.links) → (bundle_in v c).links ≡ (bundle_in w c).links
  unfolding bundle_by
  links_kept = rows_kept link_from 2 link_same w v (links_at limits) c.links

  pub contexts_kept : Same w v (contexts_at limits) (contexts_at limits + 4 * c.contexts) → (bundle_in v c).contexts ≡ (bundle_in w c).contexts
  unfolding bundle_by
  contexts_kept = rows_kept context_from 4 context_same w v (contexts_at limits) c.contexts

  pub steps_kept : Same w v (steps_at limits) (steps_at limits + 5 * c.steps) → (bundle_in v c).steps ≡ (bundle_in w c).steps
  unfolding bundle_by
  steps_kept = rows_kept step_from 5 step_same w v (steps_at limits) c.steps

-- a bundle of its parts, part by part
abbrev bundle : ℕ → List Symbol → List ℕ → List TermRecord → List Link → List Context → List Step → ℕ → ℕ → Bundle
bundle n ss vs ts ls cs ps l r = record { version = n; symbols = ss; variables = vs; terms = ts; links = ls; contexts = cs; steps = ps; left = l; right = r }

pub bundle_path : {n : ℕ} {ss ss' : List Symbol} {vs vs' : List ℕ} {ts ts' : List TermRecord} {ls ls' : List Link} {cs cs' : List Context} {ps ps' : List Step}
    {l l' r r' : ℕ}
    → ss ≡ ss' → vs ≡ vs' → ts ≡ ts' → ls ≡ ls' → cs ≡ cs' → ps ≡ ps' → l ≡ l' → r ≡ r'
    → bundle n ss vs ts ls cs ps l r ≡ bundle n ss' vs' ts' ls' cs' ps' l' r'
bundle_path {n} s v t k c p l r =
    λ i. record { version = n; symbols = s i; variables = v i; terms = t i; links = k i; contexts = c i; steps = p i; left = l i; right = r i }

-- the counts with those of the sections that can be appended to as they are given
abbrev pub counted : Counts → ℕ → ℕ → ℕ → ℕ → ℕ → Counts
counted c v t l x s = record {
  version = c.version;
  symbols = c.symbols;
  variables = v;
  terms = t;
  links = l;
  contexts = x;
  steps = s;
}

-- what an append leaves: words and counts of the bundle b
abbrev pub Grows : List ℕ → Counts → Bundle → Type 0
Grows v r b = Roomy v r × (bundle_in v r ≡ b)

-- the words of a new record at the end of its section, and all else as it was
module _ {w v : List ℕ} {c : Counts} (g : Roomy w c) where
  roomy_more : {r : Counts} → Within r → length v ≡ length w → Roomy v r
  roomy_more h l = record { within = h; long = omega (arith, g.long) }

  variable_appended : {x : ℕ} → c.variables < limits.variables → Written w v (variables_at limits + c.variables) (x ∷ [])
      → Grows v (counted c (c.variables + 1) c.terms c.links c.contexts c.steps) (with_variables (bundle_in w c) (x ∷ []))
  unfolding bundle_by
  variable_appended {x} l u =
      let o : Written w v (variables_at limits + 1 * c.variables) (x ∷ []) = subst (λ n. Written w v (variables_at limits + n) (x ∷ [])) (omega arith) u in (
        roomy_more (record {
          symbols = g.within.symbols;
          variables = omega arith;
          terms = g.within.terms;
          links = g.within.links;
          contexts = g.within.contexts;
          steps = g.within.steps;
        }) o.long,
        bundle_path
            (symbols_kept w v c (λ j f t. o.below j (omega (arith, g.within))))
            (rows_more (λ u. u 0) 1 variable_same w v (variables_at limits) c.variables (λ j f t. o.below j (omega arith)) (x ∷ []) o.new)
            (terms_kept w v c (λ j f t. o.above j (omega (arith, g.within))))
            (links_kept w v c (λ j f t. o.above j (omega (arith, g.within))))
            (contexts_kept w v c (λ j f t. o.above j (omega (arith, g.within))))
            (steps_kept w v c (λ j f t. o.above j (omega (arith, g.within))))
            (o.below 7 (omega arith))
            (o.below 8 (omega arith)),
      )

  term_appended : {kind a b d : ℕ} → c.terms < limits.terms → Written w v (terms_at limits + 4 * c.terms) (kind ∷ a ∷ b ∷ d ∷ [])
      → Grows v (counted c c.variables (c.terms + 1) c.links c.contexts c.steps) (with_terms (bundle_in w c) ((record { kind = kind; a = a; b = b; c = d }) ∷ []))
  unfolding bundle_by
  term_appended {kind} {a} {b} {d} l o = (
    roomy_more (record {
      symbols = g.within.symbols;
      variables = g.within.variables;
      terms = omega arith;
      links = g.within.links;
      contexts = g.within.contexts;
      steps = g.within.steps;
    }) o.long,
    bundle_path
        (symbols_kept w v c (λ j f t. o.below j (omega (arith, g.within))))
        (variables_kept w v c (λ j f t. o.below j (omega (arith, g.within))))
        (rows_more term_from 4 term_same w v (terms_at limits) c.terms (λ j f t. o.below j (omega arith)) (kind ∷ a ∷ b ∷ d ∷ []) o.new)
        (links_kept w v c (λ j f t. o.above j (omega (arith, g.within))))
        (contexts_kept w v c (λ j f t. o.above j (omega (arith, g.within))))
        (steps_kept w v c (λ j f t. o.above j (omega (arith, g.within))))
        (o.below 7 (omega arith))
        (o.below 8 (omega arith)),
  )

  link_appended : {value next : ℕ} → c.links < limits.links → Written w v (links_at limits + 2 * c.links) (value ∷ next ∷ [])
      → Grows v (counted c c.variables c.terms (c.links + 1) c.contexts c.steps) (with_links (bundle_in w c) ((record { value = value; next = next }) ∷ []))
  unfolding bundle_by
  link_appended {value} {next} l o = (
    roomy_more (record {
      symbols = g.within.symbols;
      variables = g.within.variables;
      terms = g.within.terms;
      links = omega arith;
      contexts = g.within.contexts;
      steps = g.within.steps;
    }) o.long,
    bundle_path
        (symbols_kept w v c (λ j f t. o.below j (omega (arith, g.within))))
        (variables_kept w v c (λ j f t. o.below j (omega (arith, g.within))))
        (terms_kept w v c (λ j f t. o.below j (omega (arith, g.within))))
        (rows_more link_from 2 link_same w v (links_at limits) c.links (λ j f t. o.below j (omega arith)) (value ∷ next ∷ []) o.new)
        (contexts_kept w v c (λ j f t. o.above j (omega (arith, g.within))))
        (steps_kept w v c (λ j f t. o.above j (omega (arith, g.within))))
        (o.below 7 (omega arith))
        (o.below 8 (omega arith)),
  )

  context_appended : {kind a b parent : ℕ} → c.contexts < limits.contexts → Written w v (contexts_at limits + 4 * c.contexts) (kind ∷ a ∷ b ∷ parent ∷ [])
      → Grows v (counted c c.variables c.terms c.links (c.contexts + 1) c.steps) (with_contexts (bundle_in w c) ((record { kind = kind; a = a; b = b; parent = parent }) ∷ []))
  unfolding bundle_by
  context_appended {kind} {a} {b} {parent} l o = (
    roomy_more (record {
      symbols = g.within.symbols;
      variables = g.within.variables;
      terms = g.within.terms;
      links = g.within.links;
      contexts = omega arith;
      steps = g.within.steps;
    }) o.long,
    bundle_path
        (symbols_kept w v c (λ j f t. o.below j (omega (arith, g.within))))
        (variables_kept w v c (λ j f t. o.below j (omega (arith, g.within))))
        (terms_kept w v c (λ j f t. o.below j (omega (arith, g.within))))
        (links_kept w v c (λ j f t. o.below j (omega (arith, g.within))))
        (rows_more context_from 4 context_same w v (contexts_at limits) c.contexts (λ j f t. o.below j (omega arith)) (kind ∷ a ∷ b ∷ parent ∷ []) o.new)
        (steps_kept w v c (λ j f t. o.above j (omega (arith, g.within))))
        (o.below 7 (omega arith))
        (o.below 8 (omega arith)),
  )

  step_appended : {rule context left right premises : ℕ} → c.steps < limits.steps → Written w v (steps_at limits + 5 * c.steps) (rule ∷ context ∷ left ∷ right ∷ premises ∷ [])
      → Grows v (counted c c.variables c.terms c.links c.contexts (c.steps + 1)) (with_steps (bundle_in w c) ((record { rule = rule; context = context; left = left; right = right; premises = premises }) ∷ []))
  unfolding bundle_by
  step_appended {rule} {context} {left} {right} {premises} l o = (
    roomy_more (record {
      symbols = g.within.symbols;
      variables = g.within.variables;
      terms = g.within.terms;
      links = g.within.links;
      contexts = g.within.contexts;
      steps = omega arith;
    }) o.long,
    bundle_path
        (symbols_kept w v c (λ j f t. o.below j (omega (arith, g.within))))
        (variables_kept w v c (λ j f t. o.below j (omega (arith, g.within))))
        (terms_kept w v c (λ j f t. o.below j (omega (arith, g.within))))
        (links_kept w v c (λ j f t. o.below j (omega (arith, g.within))))
        (contexts_kept w v c (λ j f t. o.below j (omega (arith, g.within))))
        (rows_more step_from 5 step_same w v (steps_at limits) c.steps (λ j f t. o.below j (omega arith)) (rule ∷ context ∷ left ∷ right ∷ premises ∷ []) o.new)
        (o.below 7 (omega arith))
        (o.below 8 (omega arith)),
  )

-- the same of the stores themselves, where the words hold b
module _ {w : List ℕ} {c : Counts} (g : Roomy w c) {b : Bundle} (e : bundle_in w c ≡ b) where
  pub variable_stored : (x : ℕ) → length b.variables < limits.variables
      → Grows (set w (variables_at limits + c.variables) x) (counted c (c.variables + 1) c.terms c.links c.contexts c.steps) (with_variables b (x ∷ []))
  variable_stored x l =
      rw (← e) (variable_appended g (omega (arith, (sized_as w c e).variables)) (written_1 w _ _ (omega (arith, g.long, (sized_as w c e).variables))))

  pub term_stored : (kind a d f : ℕ) → length b.terms < limits.terms
      → Grows (stored_4 w (terms_at limits + 4 * c.terms) kind a d f) (counted c c.variables (c.terms + 1) c.links c.contexts c.steps)
      (with_terms b (record { kind = kind; a = a; b = d; c = f } ∷ []))
  term_stored kind a d f l = rw (← e) (term_appended g (omega (arith, (sized_as w c e).terms)) (written_4 w _ _ _ _ _ (omega (arith, g.long, (sized_as w c e).terms))))

  pub link_stored : (value next : ℕ) → length b.links < limits.links
      → Grows (stored_2 w (links_at limits + 2 * c.links) value next) (counted c c.variables c.terms (c.links + 1) c.contexts c.steps)
      (with_links b (record { value = value; next = next } ∷ []))
  link_stored value next l = rw (← e) (link_appended g (omega (arith, (sized_as w c e).links)) (written_2 w _ _ _ (omega (arith, g.long, (sized_as w c e).links))))

  pub context_stored : (kind a d parent : ℕ) → length b.contexts < limits.contexts
      → Grows (stored_4 w (contexts_at limits + 4 * c.contexts) kind a d parent) (counted c c.variables c.terms c.links (c.contexts + 1) c.steps)
      (with_contexts b (record { kind = kind; a = a; b = d; parent = parent } ∷ []))
  context_stored kind a d parent l =
      rw (← e) (context_appended g (omega (arith, (sized_as w c e).contexts)) (written_4 w _ _ _ _ _ (omega (arith, g.long, (sized_as w c e).contexts))))

  pub step_stored : (rule context left right premises : ℕ) → length b.steps < limits.steps
      → Grows (stored_5 w (steps_at limits + 5 * c.steps) rule context left right premises) (counted c c.variables c.terms c.links c.contexts (c.steps + 1))
      (with_steps b (record { rule = rule; context = context; left = left; right = right; premises = premises } ∷ []))
  step_stored rule context left right premises l = rw (← e) (step_appended g (omega (arith, (sized_as w c e).steps)) (written_5 w _ _ _ _ _ _ (omega (arith, g.long, (sized_as w c e).steps))))
