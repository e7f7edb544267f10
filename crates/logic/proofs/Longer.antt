-- Longer bundles.
--     prefix_refl, prefix_trans, prefix_length, prefix_at, prefix_new     lists that begin alike
--     longer_refl, longer_trans, sizes     bundles that begin alike
--     with_symbols .., symbols_longer ..    records appended to one section
--     symbol_added ..                      the record just appended, as every longer bundle has it
--     chain_link, chain_kept               lists of links in order, which stay as they are
--     consecutive, start_of, add_list        a list of values as new links, one after another; its first link
--     list_length, list_longer, list_added              the list just appended, as every longer bundle has it
use mathlib.Core.Path.{◌≡◌, refl, sym, ap, ◌∙◌, subst}
use Prim.Native.Nat.{ℕ, zero, suc, ◌+◌, ◌≤◌, ◌<◌}
use mathlib.Core.Bool.{Bool, true, false, cond, ◌&&◌}
use mathlib.Core.Logic.{◌⊎◌, inl, inr}
use mathlib.Core.List.{List, [], ◌∷◌, ◌++◌, append-nil, append_assoc}
use native.Mathlib.Omega.{arith}
use lib.Dec.{ltb, leb}
use lib.ListN.{length, get_or, length-append, get_or-append}
use lib.Seq.{get_or-append_seam}
use borrow.Author.Tests.{lt-ltb, le-leb}
use Rattle.bundle.specs.Bundle.{Bundle, Symbol, Link, TermRecord, Context, Step, at, no_symbol, no_link, no_term, no_context, no_step, symbol_of, sort_of_variable}
use Rattle.bundle.specs.Bundle.{term_of, context_of, step_of}
use Rattle.bundle.specs.Links.{chain, follows, items}
use Rattle.bundle.proofs.Chains.{chain_nil, chain_cons}
use Rattle.logic.specs.Lists.{Number}
use Rattle.logic.specs.Longer.{Prefix, Longer, with_symbols, with_variables, with_terms, with_links, with_contexts, with_steps, start_of, consecutive}
use Rattle.logic.specs.Longer.{add_list, list_start}

-- ---- lists that begin alike

pub prefix_refl : {A : Type 0} (xs : List A) → Prefix xs xs
prefix_refl xs = ([], sym (append-nil xs))

pub prefix_trans : {A : Type 0} (xs ys zs : List A) → Prefix xs ys → Prefix ys zs → Prefix xs zs
prefix_trans {A} xs ys zs p q = (p.0 ++ q.0, q.1 ∙ ap (λ (l : List A). l ++ q.0) p.1 ∙ append_assoc xs p.0 q.0)

pub prefix_length : {A : Type 0} (xs ys : List A) → Prefix xs ys → length xs ≤ length ys
prefix_length xs ys p = omega (arith, ap length p.1, length-append xs p.0)

pub prefix_at : {A : Type 0} (d : A) (xs ys : List A) → Prefix xs ys → (n : ℕ) → n ≤ length xs → at d ys n ≡ at d xs n
prefix_at d xs ys p zero h = refl
prefix_at {A} d xs ys p (suc i) h = ap (λ (l : List A). get_or l i d) p.1 ∙ get_or-append xs p.0 d i h

-- the element after those of xs
pub prefix_new : {A : Type 0} (d : A) (xs ys : List A) (x : A) → Prefix (xs ++ (x ∷ [])) ys → at d ys (suc (length xs)) ≡ x
prefix_new d xs ys x p =
    prefix_at d (xs ++ (x ∷ [])) ys p (suc (length xs)) (omega (arith, length-append xs (x ∷ []))) ∙ get_or-append_seam xs x [] d

-- ---- bundles that begin alike

pub longer_refl : (b : Bundle) → Longer b b
longer_refl b = record {
  version = refl;
  symbols = prefix_refl b.symbols;
  variables = prefix_refl b.variables;
  terms = prefix_refl b.terms;
  links = prefix_refl b.links;
  contexts = prefix_refl b.contexts;
  steps = prefix_refl b.steps;
}

pub longer_trans : {a b c : Bundle} → Longer a b → Longer b c → Longer a c
longer_trans {a} {b} {c} p q = record {
  version = q.version ∙ p.version;
  symbols = prefix_trans a.symbols b.symbols c.symbols p.symbols q.symbols;
  variables = prefix_trans a.variables b.variables c.variables p.variables q.variables;
  terms = prefix_trans a.terms b.terms c.terms p.terms q.terms;
  links = prefix_trans a.links b.links c.links p.links q.links;
  contexts = prefix_trans a.contexts b.contexts c.contexts p.contexts q.contexts;
  steps = prefix_trans a.steps b.steps c.steps p.steps q.steps;
}

-- no count is less
pub record Sizes (b b' : Bundle) : Type 0 where
  pub symbols : length b.symbols ≤ length b'.symbols
  pub variables : length b.variables ≤ length b'.variables
  pub terms : length b.terms ≤ length b'.terms
  pub links : length b.links ≤ length b'.links
  pub contexts : length b.contexts ≤ length b'.contexts
  pub steps : length b.steps ≤ length b'.steps

pub sizes : {b b' : Bundle} → Longer b b' → Sizes b b'
sizes {b} {b'} e = record {
  symbols = prefix_length b.symbols b'.symbols e.symbols;
  variables = prefix_length b.variables b'.variables e.variables;
  terms = prefix_length b.terms b'.terms e.terms;
  links = prefix_length b.links b'.links e.links;
  contexts = prefix_length b.contexts b'.contexts e.contexts;
  steps = prefix_length b.steps b'.steps e.steps;
}

-- ---- records appended to one section

module _ (b : Bundle) where
  pub symbols_longer : (xs : List Symbol) → Longer b (with_symbols b xs)
  symbols_longer xs =
      let same = longer_refl b in
      record {
        version = refl;
        symbols = (xs, refl);
        variables = same.variables;
        terms = same.terms;
        links = same.links;
        contexts = same.contexts;
        steps =
            same.steps;
      }

  pub variables_longer : (xs : List ℕ) → Longer b (with_variables b xs)
  variables_longer xs =
      let same = longer_refl b in
      record {
        version = refl;
        symbols = same.symbols;
        variables = (xs, refl);
        terms = same.terms;
        links = same.links;
        contexts = same.contexts;
        steps =
            same.steps;
      }

  pub terms_longer : (xs : List TermRecord) → Longer b (with_terms b xs)
  terms_longer xs =
      let same = longer_refl b in
      record {
        version = refl;
        symbols = same.symbols;
        variables = same.variables;
        terms = (xs, refl);
        links = same.links;
        contexts = same.contexts;
        steps =
            same.steps;
      }

  pub links_longer : (xs : List Link) → Longer b (with_links b xs)
  links_longer xs =
      let same = longer_refl b in
      record {
        version = refl;
        symbols = same.symbols;
        variables = same.variables;
        terms = same.terms;
        links = (xs, refl);
        contexts = same.contexts;
        steps =
            same.steps;
      }

  pub contexts_longer : (xs : List Context) → Longer b (with_contexts b xs)
  contexts_longer xs =
      let same = longer_refl b in
      record {
        version = refl;
        symbols = same.symbols;
        variables = same.variables;
        terms = same.terms;
        links = same.links;
        contexts = (xs, refl);
        steps =
            same.steps;
      }

  pub steps_longer : (xs : List Step) → Longer b (with_steps b xs)
  steps_longer xs =
      let same = longer_refl b in
      record {
        version = refl;
        symbols = same.symbols;
        variables = same.variables;
        terms = same.terms;
        links = same.links;
        contexts =
            same.contexts;
        steps = (xs, refl);
      }

  -- the record just appended, as every longer bundle B has it
  module _ {B : Bundle} where
    pub symbol_added : (r : Symbol) → Longer (with_symbols b (r ∷ [])) B → symbol_of B (suc (length b.symbols)) ≡ r
    symbol_added r e = prefix_new no_symbol b.symbols B.symbols r e.symbols

    pub variable_added : (s : ℕ) → Longer (with_variables b (s ∷ [])) B → sort_of_variable B (suc (length b.variables)) ≡ s
    variable_added s e = prefix_new 0 b.variables B.variables s e.variables

    pub term_added : (r : TermRecord) → Longer (with_terms b (r ∷ [])) B → term_of B (suc (length b.terms)) ≡ r
    term_added r e = prefix_new no_term b.terms B.terms r e.terms

    pub context_added : (r : Context) → Longer (with_contexts b (r ∷ [])) B → context_of B (suc (length b.contexts)) ≡ r
    context_added r e = prefix_new no_context b.contexts B.contexts r e.contexts

    pub step_added : (r : Step) → Longer (with_steps b (r ∷ [])) B → step_of B (suc (length b.steps)) ≡ r
    step_added r e = prefix_new no_step b.steps B.steps r e.steps

-- ---- lists of links

-- the next of link i among n: 0, or greater and at most n
abbrev InOrder : ℕ → ℕ → ℕ → Type 0
InOrder n i next = (next ≡ 0) ⊎ ((i < next) × (next ≤ n))

-- the list of a link whose next is in order: its value, and then the list of its next
pub chain_link : (ls : List Link) (i : ℕ) → Number (length ls) i → InOrder (length ls) i (at no_link ls i).next
    → chain ls i ≡ (at no_link ls i).value ∷ chain ls (at no_link ls i).next
unfolding follows
chain_link ls i h order =
    chain_cons ls i (λ z. omega arith) h.1 ∙ ap (λ (n : ℕ). (at no_link ls i).value ∷ chain ls n) (follow (at no_link ls i).next order)
  where
    none : (p : Bool) → ◌≡◌ {A = ℕ} (cond p 0 0) 0
    none true = refl
    none false = refl

    follow : (m : ℕ) → InOrder (length ls) i m → follows (length ls) i m ≡ m
    follow m (inl z) = rw z (none (ltb i 0 && leb 0 (length ls)))
    follow m (inr z) = rw (lt-ltb i m z.0, le-leb m (length ls) z.1)

-- Of links in order, the lists stay as they are where links are appended. (A next past the last link would come to life.)
module _ (ls ls' : List Link) (more : Prefix ls ls') (order : (i : ℕ) → Number (length ls) i → InOrder (length ls) i (at no_link ls i).next) where
  from_link_kept : (i : ℕ) → Number (length ls) i → chain ls' (at no_link ls i).next ≡ chain ls (at no_link ls i).next → chain ls' i ≡ chain ls i
  from_link_kept i h e =
      chain_link ls' i (h.0, omega (arith, h.1, longer)) (rw same (wider (at no_link ls i).next (order i h)))
      ∙ ap (λ (l : Link). l.value ∷ chain ls' l.next) same
      ∙ ap (λ (xs : List ℕ). (at no_link ls i).value ∷ xs) e
      ∙ sym (chain_link ls i h (order i h))
    where
      longer : length ls ≤ length ls'
      longer = prefix_length ls ls' more

      same : at no_link ls' i ≡ at no_link ls i
      same = prefix_at no_link ls ls' more i h.1

      wider : (m : ℕ) → InOrder (length ls) i m → InOrder (length ls') i m
      wider m (inl z) = inl z
      wider m (inr z) = inr (z.0, omega (arith, z.1, longer))

  -- n is more than the links from s on
  walk_kept : (n s : ℕ) → s ≤ length ls → length ls < s + n → chain ls' s ≡ chain ls s
  walk_kept zero s h l = absurd (omega arith)
  walk_kept (suc n) zero h l = chain_nil ls' ∙ sym (chain_nil ls)
  walk_kept (suc n) (suc i) h l = go (at no_link ls (suc i)).next (order (suc i) (omega arith, h)) (from_link_kept (suc i) (omega arith, h)) (walk_kept n)
    where
      go : (m : ℕ) → InOrder (length ls) (suc i) m → (chain ls' m ≡ chain ls m → chain ls' (suc i) ≡ chain ls (suc i))
          → ((s : ℕ) → s ≤ length ls → length ls < s + n → chain ls' s ≡ chain ls s) → chain ls' (suc i) ≡ chain ls (suc i)
      go m (inl z) link ih = link (rw z (chain_nil ls' ∙ sym (chain_nil ls)))
      go m (inr z) link ih = link (ih m z.1 (omega (arith, z.0)))

  pub chain_kept : (s : ℕ) → s ≤ length ls → chain ls' s ≡ chain ls s
  chain_kept s h = walk_kept (suc (length ls)) s h (omega arith)

-- ---- a list of values appended as links

pub consecutive_length : (m : ℕ) (vs : List ℕ) → length (consecutive m vs) ≡ length vs
unfolding consecutive
consecutive_length m [] = refl
consecutive_length m (v ∷ vs) = ap suc (consecutive_length (suc m) vs)

-- how many links there are with a list appended
pub list_length : (b : Bundle) (vs : List ℕ) → length (add_list b vs).links ≡ length b.links + length vs
list_length b vs =
    length-append b.links (consecutive (suc (length b.links)) vs)
    ∙ ap (λ (n : ℕ). length b.links + n) (consecutive_length (suc (length b.links)) vs)

pub list_longer : (b : Bundle) (vs : List ℕ) → Longer b (add_list b vs)
list_longer b vs = links_longer b (consecutive (suc (length b.links)) vs)

-- consecutive links give their values, wherever they stand
consecutive_chain : (old later : List Link) (vs : List ℕ)
    → chain (old ++ (consecutive (suc (length old)) vs ++ later)) (start_of (suc (length old)) vs) ≡ vs
unfolding consecutive
consecutive_chain old later [] = chain_nil (old ++ later)
consecutive_chain old later (v ∷ vs) =
    chain_link all (suc (length old)) (omega arith, fits) (rw here (order vs refl))
    ∙ ap (λ (l : Link). l.value ∷ chain all l.next) here
    ∙ ap (λ (l : List ℕ). v ∷ l) (moved (consecutive_chain (old ++ (x ∷ [])) later vs))
  where
    x : Link
    x = record { value = v; next = start_of (suc (suc (length old))) vs }

    rest : List Link
    rest = consecutive (suc (suc (length old))) vs ++ later

    all : List Link
    all = old ++ (x ∷ rest)

    here : get_or all (length old) no_link ≡ x
    here = get_or-append_seam old x rest no_link

    fits : suc (length old) ≤ length all
    fits = omega (arith, length-append old (x ∷ rest))

    order : (us : List ℕ) → us ≡ vs → InOrder (length all) (suc (length old)) (start_of (suc (suc (length old))) us)
    order [] e = inl refl
    order (u ∷ us) e =
        let new = suc (suc (length old)) in
        inr (
          omega arith,
          omega (arith, length-append old (x ∷ rest), length-append (consecutive new vs) later, consecutive_length new vs, ap length e),
        )

    longer : length (old ++ (x ∷ [])) ≡ suc (length old)
    longer = omega (arith, length-append old (x ∷ []))

    moved : chain ((old ++ (x ∷ [])) ++ (consecutive (suc (length (old ++ (x ∷ [])))) vs ++ later)) (start_of (suc (length (old ++ (x ∷ [])))) vs) ≡ vs
        → chain all (start_of (suc (suc (length old))) vs) ≡ vs
    moved e =
        sym (ap (λ (l : List Link). chain l (start_of (suc (suc (length old))) vs)) (append_assoc old (x ∷ []) rest))
        ∙ subst (λ (n : ℕ). chain ((old ++ (x ∷ [])) ++ (consecutive (suc n) vs ++ later)) (start_of (suc n) vs) ≡ vs) longer e

-- the list just appended, as every longer bundle B has it
pub list_added : (b : Bundle) (vs : List ℕ) {B : Bundle} → Longer (add_list b vs) B → items B (list_start b vs) ≡ vs
unfolding items
list_added b vs e =
    ap (λ (l : List Link). chain l (list_start b vs)) (e.links.1 ∙ append_assoc b.links (consecutive (suc (length b.links)) vs) e.links.0)
    ∙ consecutive_chain b.links e.links.0 vs
