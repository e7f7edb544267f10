-- All numbers of the bundle that is written are words of 32 bits, where its counts are within the limits.
--     memory_small, file_small         a bundle that is read out of words, and out of bytes
--     small_variables .. small_steps   records appended to one section
--     items_small, image_small         items of lists; images
--     SmallNode, node_small            the numbers of a node; of the node of a term
-- Where the last bundle, which is longer than all in between, is within the limits:
--     list_small, start_small, placed_small, variable_small, concluded_small, replacing_small, fixing_small     openers and closers
--     new_small, fresh_small, name_small, named_small, open_small     those of a binder
--     visit_small, visit_all_small      the visits
--     expanded_small                   THE LAW: the bundle that is written
use Prim.Native.Nat.{ℕ, zero, suc, ◌+◌, ◌*◌, ◌-◌, ◌^◌, ◌≤◌, ◌<◌}
use mathlib.Core.Bool.{Bool, true, false, cond}
use mathlib.Core.List.{List, [], ◌∷◌, ◌++◌}
use native.Mathlib.Omega.{arith}
use lib.ListN.{length, get_or, length-append}
use lib.Dec.{eqb, ltb}
use Rattle.bundle.specs.declared.Counts.{Counts}
use Rattle.bundle.specs.Bundle.{Bundle, Link, TermRecord, Context, Step, at, no_term, no_context, sort_of_variable, context_of}
use Rattle.bundle.specs.Words.{word_at}
use Rattle.bundle.specs.Limits.{Within}
use Rattle.bundle.specs.Links.{rest, lists, chain, items}
use Rattle.bundle.specs.File.{bundle_by, counts_of, bundle_of, own_counts}
use Rattle.logic.specs.Lists.{All}
use Rattle.logic.specs.declared.Image.{Image}
use Rattle.logic.specs.declared.Image.TheVariants.{Own, Gives}
use Rattle.logic.specs.declared.Mention.{Mention}
use Rattle.logic.specs.declared.Mention.TheVariants.{Fixed, Replaced, Absent}
use Rattle.logic.specs.Terms.{Binder, forAll, exists, choice, Kind, kind_of, variable, application, binder, letting, other, number_of}
use Rattle.logic.specs.Contexts.{Entry, fixing as isFixing, replacing as isReplacing, noEntry, entry_of, lookup, mention_as, mention, first, image_by, own_image}
use Rattle.logic.specs.Contexts.{image}
use Rattle.logic.specs.Longer.{Longer, with_variables, with_terms, with_links, with_contexts, with_steps, start_of, consecutive, add_list, list_start}
use Rattle.logic.proofs.Tables.{table_all}
use Rattle.logic.proofs.Longer.{longer_refl, longer_trans, sizes, list_longer, terms_longer, contexts_longer, steps_longer, consecutive_length}
use Rattle.expansion.specs.Nodes.{Node, Nodes, leaf, node, scope, block, nil, cons, Numbered, numbered, gather_nodes, no_node, node_as, node_by, node_at}
use Rattle.logic.specs.Lookup.{after, seek, same_variable, same_application, same_binder}
use Rattle.expansion.specs.declared.Names.{Names}
use Rattle.expansion.specs.Names.{keeps}
use Rattle.expansion.specs.Placed.{PlacedTerm, placed, place_variable, place_application, place_binder}
use Rattle.expansion.specs.Visit.{Visit, Visits, concluded, OpenedContext, replacing, fixing}
use Rattle.expansion.specs.Visit.{image_term, new_variable, fresh, name_of, named, renaming, OpenedBinder, open_binder, visit, visit_all, visited, expanded}
use Rattle.expansion.specs.File.{symbol_words, variable_words, term_words, link_words, context_words, step_words}
use Rattle.expansion.specs.Demands.{Bytes}
use Rattle.expansion.proofs.SmallNumbers.{Word, SmallBundle, all_append, all_snoc, all_get_d, all_at, all_tab}
use Rattle.expansion.proofs.Grown.{variable_longer, application_longer, binder_longer, concluded_longer, replacing_longer, fixing_longer, listed_longer}
use Rattle.expansion.proofs.Grown.{visit_longer, visit_all_longer}

-- ---- a bundle that is read out of words, and out of bytes

word_small : (f : List ℕ) → Bytes f → (k : ℕ) → Word (word_at f k)
unfolding word_at
word_small f h k =
    let byte : (i : ℕ) → get_or f i 0 < 256 = all_get_d (λ x. x < 256) f 0 h (omega arith) in
    omega (arith, byte (4 * k), byte (4 * k + 1), byte (4 * k + 2), byte (4 * k + 3))

pub memory_small : (word : ℕ → ℕ) (places c : Counts) → Word c.version → ((k : ℕ) → Word (word k)) → SmallBundle (bundle_by word places c)
unfolding bundle_by
memory_small word places c v h = record {
  version = v;
  symbols = all_tab (λ r. All Word (symbol_words r)) _ (λ j. (h _, (h _, tt))) c.symbols;
  variables = all_tab (λ s. All Word (variable_words s)) _ (λ j. (h _, tt)) c.variables;
  terms = all_tab (λ r. All Word (term_words r)) _ (λ j. (h _, (h _, (h _, (h _, tt))))) c.terms;
  links = all_tab (λ r. All Word (link_words r)) _ (λ j. (h _, (h _, tt))) c.links;
  contexts = all_tab (λ r. All Word (context_words r)) _ (λ j. (h _, (h _, (h _, (h _, tt))))) c.contexts;
  steps = all_tab (λ r. All Word (step_words r)) _ (λ j. (h _, (h _, (h _, (h _, (h _, tt)))))) c.steps;
  left = h 7;
  right = h 8;
}

pub file_small : (f : List ℕ) → Bytes f → SmallBundle (bundle_of f)
unfolding bundle_of counts_of
file_small f h = memory_small (word_at f) (counts_of f) (counts_of f) (word_small f h 0) (word_small f h)

-- ---- records appended to one section

module _ {b : Bundle} (small : SmallBundle b) where
  pub small_variables : (s : ℕ) → Word s → SmallBundle (with_variables b (s ∷ []))
  small_variables s h = let more = all_snoc (λ s. All Word (variable_words s)) b.variables s small.variables (h, tt) in search arith

  pub small_terms : (r : TermRecord) → All Word (term_words r) → SmallBundle (with_terms b (r ∷ []))
  small_terms r h = let more = all_snoc (λ r. All Word (term_words r)) b.terms r small.terms h in search arith

  pub small_links : (rs : List Link) → All (λ r. All Word (link_words r)) rs → SmallBundle (with_links b rs)
  small_links rs h = let more = all_append (λ r. All Word (link_words r)) b.links rs small.links h in search arith

  pub small_contexts : (r : Context) → All Word (context_words r) → SmallBundle (with_contexts b (r ∷ []))
  small_contexts r h = let more = all_snoc (λ r. All Word (context_words r)) b.contexts r small.contexts h in search arith

  pub small_steps : (r : Step) → All Word (step_words r) → SmallBundle (with_steps b (r ∷ []))
  small_steps r h = let more = all_snoc (λ r. All Word (step_words r)) b.steps r small.steps h in search arith

-- ---- items of lists, and images

lists_small : (n : ℕ) (ls : List Link) → All (λ r. All Word (link_words r)) ls → All (λ l. All Word l) (lists n ls)
unfolding lists rest
lists_small n [] h = tt
lists_small n (l ∷ ls) h = go (ltb n l.next) (lists_small (suc n) ls h.1)
  where
    go : (p : Bool) → All (λ l. All Word l) (lists (suc n) ls)
        → (Word l.value × All Word (cond p (get_or (lists (suc n) ls) (l.next - suc n) []) [])) × All (λ l. All Word l) (lists (suc n) ls)
    go true k = ((h.0.0, all_get_d (λ l. All Word l) (lists (suc n) ls) [] k tt (l.next - suc n)), k)
    go false k = ((h.0.0, tt), k)

module _ {b : Bundle} (small : SmallBundle b) where
  pub items_small : (s : ℕ) → All Word (items b s)
  unfolding items chain
  items_small s = all_at (λ l. All Word l) (lists 1 b.links) [] (lists_small 1 b.links small.links) tt s

  abbrev MentionSmall : Mention → Type 0
  MentionSmall Fixed = Unit {0}
  MentionSmall (Replaced t) = Word t
  MentionSmall Absent = Unit {0}

  abbrev ImageSmall : Image → Type 0
  ImageSmall Own = Unit {0}
  ImageSmall (Gives t) = Word t

  lookup_small : (vs ts : List ℕ) (x : ℕ) → All Word ts → MentionSmall (lookup vs ts x)
  unfolding lookup
  lookup_small [] ts x h = tt
  lookup_small (v ∷ vs) [] x h = tt
  lookup_small (v ∷ vs) (t ∷ ts) x h = go (eqb v x) (lookup_small vs ts x h.1)
    where
      go : (p : Bool) → MentionSmall (lookup vs ts x) → MentionSmall (cond p (Replaced t) (lookup vs ts x))
      go true m = h.0
      go false m = m

  mention_small : (k : Entry) (r : Context) (x : ℕ) → MentionSmall (mention_as b k r x)
  unfolding mention_as
  mention_small isFixing r x = go (eqb r.a x)
    where
      go : (p : Bool) → MentionSmall (cond p Fixed Absent)
      go true = tt
      go false = tt
  mention_small isReplacing r x = lookup_small (items b r.a) (items b r.b) x (items_small r.b)
  mention_small noEntry r x = tt

  first_small : (m : Mention) (i : Image) → MentionSmall m → ImageSmall i → ImageSmall (first m i)
  unfolding first
  first_small Fixed i hm hi = tt
  first_small (Replaced t) i hm hi = hm
  first_small Absent i hm hi = hi

  image_in : (c x : ℕ) → ImageSmall (image b c x)
  unfolding image image_by mention
  image_in c =
      table_all (image_by b) own_image (λ f. (x : ℕ) → ImageSmall (f x)) (λ x. tt) no_context b.contexts
      (λ i f h x.
      let r : Context = context_of b i in
      first_small (mention b r x) (f r.parent x) (mention_small (entry_of r.kind) r x) (h r.parent x))
      c

  given_small : (i : Image) (t : ℕ) → ImageSmall i → Word t → Word (image_term i t)
  given_small Own t h k = k
  given_small (Gives r) t h k = h

  pub image_small : (c x t : ℕ) → Word t → Word (image_term (image b c x) t)
  image_small c x t k = given_small (image b c x) t (image_in c x) k

-- ---- the numbers of a node that a visit writes

abbrev mutual
  pub SmallNode : Node → Type 0
  SmallNode (leaf t x) = Word t
  SmallNode (node t f ns) = Word t × Word f × SmallNodes ns
  SmallNode (scope t q x u) = Word t × Word x × SmallNode u
  SmallNode (block t s vs ns u) = Word t × Word s × SmallNodes ns × SmallNode u

  pub SmallNodes : Nodes → Type 0
  SmallNodes nil = Unit {0}
  SmallNodes (cons τ ns) = SmallNode τ × SmallNodes ns

gather_small : (f : ℕ → Node) → ((i : ℕ) → SmallNode (f i)) → (ts : List ℕ) → SmallNodes (gather_nodes f ts)
unfolding gather_nodes
gather_small f h [] = tt
gather_small f h (t ∷ ts) = (h t, gather_small f h ts)

abbrev SmallNumbered : Numbered → Type 0
SmallNumbered r = Word r.place × All Word (term_words r.term)

numbered_small : (n : ℕ) (rs : List TermRecord) → All (λ r. All Word (term_words r)) rs → n + length rs ≤ 2 ^ 32 → All SmallNumbered (numbered n rs)
unfolding numbered
numbered_small n [] h l = tt
numbered_small n (r ∷ rs) h l = ((omega arith, h.0), numbered_small (suc n) rs h.1 (omega arith))

node_as_lem : (b : Bundle) (k : Kind) (f : ℕ → Node) (r : Numbered) → ((i : ℕ) → SmallNode (f i)) → SmallNumbered r → SmallNode (node_as b k f r)
unfolding node_as
node_as_lem b variable f r h w = w.0
node_as_lem b application f r h w = (w.0, w.1.1.0, gather_small f h (items b r.term.b))
node_as_lem b (binder q) f r h w = (w.0, w.1.1.0, h r.term.b)
node_as_lem b letting f r h w = (w.0, w.1.1.0, gather_small f h (items b r.term.b), h r.term.c)
node_as_lem b other f r h w = (omega arith, omega arith, tt)

pub node_small : (b : Bundle) → SmallBundle b → Within (own_counts b) → (t : ℕ) → SmallNode (node_at b t)
unfolding node_at node_by
node_small b small fit t =
    table_all (node_by b) no_node SmallNode (omega arith, omega arith, tt) none (numbered 1 b.terms)
    (λ i f h.
    let r : Numbered = at none (numbered 1 b.terms) i in
    node_as_lem b (kind_of r.term.kind) f r h
    (all_at SmallNumbered (numbered 1 b.terms) none (numbered_small 1 b.terms small.terms (omega arith)) nothing i))
    t
  where
    none : Numbered
    none = record { place = 0; term = no_term }

    nothing : SmallNumbered none
    nothing = (omega arith, (omega arith, (omega arith, (omega arith, (omega arith, tt)))))

-- ---- openers and closers

-- a list from link m on
start_word : (m : ℕ) (vs : List ℕ) → m + length vs ≤ 2 ^ 32 → Word (start_of m vs)
start_word m [] l = omega arith
start_word m (v ∷ vs) l = omega arith

consecutive_small : (m : ℕ) (vs : List ℕ) → All Word vs → m + length vs ≤ 2 ^ 32 → All (λ r. All Word (link_words r)) (consecutive m vs)
unfolding consecutive
consecutive_small m [] h l = tt
consecutive_small m (v ∷ vs) h l =
    ((h.0, (start_word (suc m) vs (omega arith), tt)), consecutive_small (suc m) vs h.1 (omega arith))

-- what the lookup finds is a term's number, or 0
pub seek_le : (p : TermRecord → Bool) (rs : List TermRecord) → seek p rs ≤ length rs
unfolding seek
seek_le p [] = omega arith
seek_le p (r ∷ rs) = go (p r) (seek p rs) (seek_le p rs)
  where
    go : (q : Bool) (m : ℕ) → m ≤ length rs → cond q 1 (after m) ≤ suc (length rs)
    go true m l = omega arith
    go false zero l = omega arith
    go false (suc m) l = omega arith

-- what they leave
pub record SmallPlaced (p : PlacedTerm) : Type 0 where
  pub bundle : SmallBundle p.bundle
  pub term : Word p.term

pub record SmallOpened (o : OpenedContext) : Type 0 where
  pub bundle : SmallBundle o.bundle
  pub context : Word o.context

pub record SmallBinder (o : OpenedBinder) : Type 0 where
  pub bundle : SmallBundle o.bundle
  pub context : Word o.context
  pub variable : Word o.variable

pub record SmallVisit (v : Visit) : Type 0 where
  pub bundle : SmallBundle v.bundle
  pub result : Word v.result
  pub step : Word v.step

pub record SmallVisits (v : Visits) : Type 0 where
  pub bundle : SmallBundle v.bundle
  pub results : All Word v.results
  pub steps : All Word v.steps

pub binder_word : (q : Binder) → Word (number_of (binder q))
binder_word forAll = omega arith
binder_word exists = omega arith
binder_word choice = omega arith

-- `end` is the last bundle, and within the limits.
module _ {end : Bundle} (fit : Within (own_counts end)) where
  list_room : (b : Bundle) (vs : List ℕ) → Longer (add_list b vs) end → suc (length b.links) + length vs ≤ 2 ^ 32
  list_room b vs e =
      let new : List Link = consecutive (suc (length b.links)) vs in
      omega (arith, fit.links, (sizes e).links, length-append b.links new, consecutive_length (suc (length b.links)) vs)

  pub start_small : (b : Bundle) (vs : List ℕ) → Longer (add_list b vs) end → Word (list_start b vs)
  start_small b vs e = start_word (suc (length b.links)) vs (list_room b vs e)

  pub list_small : (b : Bundle) (vs : List ℕ) → SmallBundle b → All Word vs → Longer (add_list b vs) end → SmallBundle (add_list b vs)
  list_small b vs small h e =
      small_links small (consecutive (suc (length b.links)) vs) (consecutive_small (suc (length b.links)) vs h (list_room b vs e))

  -- b' is b with lists appended
  pub placed_small : (b b' : Bundle) (r : TermRecord) (n : ℕ) → SmallBundle b → Longer b b' → (Longer b' end → SmallBundle b' × All Word (term_words r))
      → n ≤ length b.terms → Longer (placed b b' r n).bundle end → SmallPlaced (placed b b' r n)
  placed_small b b' r zero small lists made l e =
      let (small', words) = made (longer_trans (terms_longer b' (r ∷ [])) e) in
      record {
        bundle = small_terms small' r words;
        term = omega (arith, fit.terms, (sizes e).terms, (sizes lists).terms, length-append b'.terms (r ∷ []));
      }
  placed_small b b' r (suc n) small lists made l e = record { bundle = small; term = omega (arith, fit.terms, (sizes e).terms) }

  pub variable_small : (b : Bundle) (x : ℕ) → SmallBundle b → Word x → Longer (place_variable b x).bundle end → SmallPlaced (place_variable b x)
  variable_small b x small w e =
      placed_small b (add_list b []) _ (seek (same_variable x) b.terms) small (list_longer b [])
      (λ l. (list_small b [] small tt l, (omega arith, (w, (omega arith, (omega arith, tt)))))) (seek_le (same_variable x) b.terms) e

  pub concluded_small : (b : Bundle) (k c l r : ℕ) (ps : List ℕ) → SmallBundle b → Word k → Word c → Word l → Word r → All Word ps
      → Longer (concluded b k c l r ps).bundle end → SmallVisit (concluded b k c l r ps)
  concluded_small b k c l r ps small hk hc hl hr hp e =
      let s : Step = record { rule = k; context = c; left = l; right = r; premises = list_start b ps } in
      let e₁ : Longer (add_list b ps) end = longer_trans (steps_longer (add_list b ps) (s ∷ [])) e in
      record {
        bundle = small_steps (list_small b ps small hp e₁) s (hk, (hc, (hl, (hr, (start_small b ps e₁, tt)))));
        result = hr;
        step = omega (arith, fit.steps, (sizes e).steps, length-append b.steps (s ∷ []));
      }

  pub replacing_small : (b : Bundle) (s c : ℕ) (ts : List ℕ) → SmallBundle b → Word s → Word c → All Word ts
      → Longer (replacing b s c ts).bundle end → SmallOpened (replacing b s c ts)
  replacing_small b s c ts small hs hc ht e =
      let r : Context = record { kind = 2; a = s; b = list_start b ts; parent = c } in
      let e₁ : Longer (add_list b ts) end = longer_trans (contexts_longer (add_list b ts) (r ∷ [])) e in
      record {
        bundle = small_contexts (list_small b ts small ht e₁) r (omega arith, (hs, (start_small b ts e₁, (hc, tt))));
        context = omega (arith, fit.contexts, (sizes e).contexts, length-append b.contexts (r ∷ []));
      }

  pub fixing_small : (b : Bundle) (y c : ℕ) → SmallBundle b → Word y → Word c → Longer (fixing b y c).bundle end → SmallOpened (fixing b y c)
  fixing_small b y c small hy hc e =
      let r : Context = record { kind = 1; a = y; b = 0; parent = c } in
      record {
        bundle = small_contexts small r (omega arith, (hy, (omega arith, (hc, tt))));
        context = omega (arith, fit.contexts, (sizes e).contexts, length-append b.contexts (r ∷ []));
      }

  pub new_small : (b : Bundle) (x : ℕ) → Longer (fresh b x).bundle end → Word (new_variable b)
  new_small b x e =
      let v : Bundle = with_variables b (sort_of_variable b x ∷ []) in
      let e₁ : Longer v end =
      longer_trans (variable_longer v (new_variable b)) e in
      omega (arith, fit.variables, (sizes e₁).variables, length-append b.variables (sort_of_variable b x ∷ []))

  pub fresh_small : (b : Bundle) (x : ℕ) → SmallBundle b → Longer (fresh b x).bundle end → SmallPlaced (fresh b x)
  fresh_small b x small e =
      let s : ℕ = sort_of_variable b x in
      let y : Word (new_variable b) = new_small b x e in
      let sort : All Word (s ∷ []) = all_at (λ s. All Word (variable_words s)) b.variables 0 small.variables (omega arith, tt) x in
      let v : Bundle = with_variables b (s ∷ []) in
      variable_small v (new_variable b) (small_variables small s sort.0) y e

  name_small : (kept : Bool) (b : Bundle) (x : ℕ) → Word x → Longer (named kept b x).bundle end → Word (name_of kept b x)
  name_small true b x hx e = hx
  name_small false b x hx e = new_small b x e

  named_small : (kept : Bool) (b : Bundle) (x : ℕ) → SmallBundle b → Word x → Longer (named kept b x).bundle end → SmallPlaced (named kept b x)
  named_small true b x small hx e = variable_small b x small hx e
  named_small false b x small hx e = fresh_small b x small e

  open_small : (kept : Bool) (b : Bundle) (x c : ℕ) → SmallBundle b → Word x → Word c → Longer (open_binder kept b x c).bundle end
      → SmallBinder (open_binder kept b x c)
  open_small kept b x c small hx hc e =
      let y : ℕ = name_of kept b x in
      let p : PlacedTerm = named kept b x in
      let f : OpenedContext = fixing p.bundle y c in
      let e₃ : Longer (add_list f.bundle (x ∷ [])) end = longer_trans (listed_longer p.bundle x y p.term c) e in
      let e₂ : Longer f.bundle end = longer_trans (list_longer f.bundle (x ∷ [])) e₃ in
      let e₁ : Longer p.bundle end = longer_trans (fixing_longer p.bundle y c) e₂ in
      let hy : Word y = name_small kept b x hx e₁ in
      let sp : SmallPlaced p = named_small kept b x small hx e₁ in
      let sf : SmallOpened f = fixing_small p.bundle y c sp.bundle hy hc e₂ in
      let so : SmallOpened (renaming p.bundle x y p.term c) =
      replacing_small (add_list f.bundle (x ∷ [])) (list_start f.bundle (x ∷ [])) f.context (p.term ∷ [])
      (list_small f.bundle (x ∷ []) sf.bundle (hx, tt) e₃) (start_small f.bundle (x ∷ []) e₃) sf.context (sp.term, tt) e in
      record { bundle = so.bundle; context = so.context; variable = hy }

  -- ---- the visits

  module _ (k : ℕ → Bool) where
    mutual
      unfolding visit

      pub visit_small : (τ : Node) (c : ℕ) (b : Bundle) → SmallNode τ → Word c → SmallBundle b → Longer (visit k τ c b).bundle end → SmallVisit (visit k τ c b)
      visit_small (leaf t x) c b h hc small e =
          concluded_small b 1 c t (image_term (image b c x) t) [] small (omega arith) hc h (image_small small c x t h) tt e
      visit_small (node t f ns) c b h hc small e =
          let v : Visits = visit_all k ns c b in
          let p : PlacedTerm = place_application v.bundle f v.results in
          let n : ℕ = seek (same_application v.bundle f v.results) v.bundle.terms in
          let e₂ : Longer p.bundle end = longer_trans (concluded_longer p.bundle 2 c t p.term v.steps) e in
          let e₁ : Longer v.bundle end = longer_trans (application_longer v.bundle f v.results) e₂ in
          let sv : SmallVisits v = visit_all_small ns c b h.2 hc small e₁ in
          let sp : SmallPlaced p =
          placed_small v.bundle (add_list v.bundle v.results) _ n sv.bundle (list_longer v.bundle v.results)
          (λ l.
          (list_small v.bundle v.results sv.bundle sv.results l, (omega arith, (h.1, (start_small v.bundle v.results l, (omega arith, tt))))))
          (seek_le (same_application v.bundle f v.results) v.bundle.terms) e₂ in
          concluded_small p.bundle 2 c t p.term v.steps sp.bundle (omega arith) hc h.0 sp.term sv.steps e
      visit_small (scope t q x u) c b h hc small e =
          let o : OpenedBinder = open_binder (k x) b x c in
          let y : ℕ = o.variable in
          let v : Visit = visit k u o.context o.bundle in
          let p : PlacedTerm = place_binder v.bundle q y v.result in
          let n : ℕ = seek (same_binder q y v.result) v.bundle.terms in
          let e₃ : Longer p.bundle end = longer_trans (concluded_longer p.bundle 4 c t p.term (v.step ∷ [])) e in
          let e₂ : Longer v.bundle end = longer_trans (binder_longer v.bundle q y v.result) e₃ in
          let e₁ : Longer o.bundle end = longer_trans (visit_longer k u o.context o.bundle) e₂ in
          let so : SmallBinder o = open_small (k x) b x c small h.1 hc e₁ in
          let sv : SmallVisit v = visit_small u o.context o.bundle h.2 so.context so.bundle e₂ in
          let sp : SmallPlaced p =
          placed_small v.bundle (add_list v.bundle []) _ n sv.bundle (list_longer v.bundle [])
          (λ l. (list_small v.bundle [] sv.bundle tt l, (binder_word q, (so.variable, (sv.result, (omega arith, tt))))))
          (seek_le (same_binder q y v.result) v.bundle.terms) e₃ in
          concluded_small p.bundle 4 c t p.term (v.step ∷ []) sp.bundle (omega arith) hc h.0 sp.term (sv.step, tt) e
      visit_small (block t s vs ns u) c b h hc small e =
          let v : Visits = visit_all k ns c b in
          let o : OpenedContext = replacing v.bundle s c v.results in
          let w : Visit = visit k u o.context o.bundle in
          let e₃ : Longer w.bundle end = longer_trans (concluded_longer w.bundle 5 c t w.result (v.steps ++ (w.step ∷ []))) e in
          let e₂ : Longer o.bundle end = longer_trans (visit_longer k u o.context o.bundle) e₃ in
          let e₁ : Longer v.bundle end = longer_trans (replacing_longer v.bundle s c v.results) e₂ in
          let sv : SmallVisits v = visit_all_small ns c b h.2 hc small e₁ in
          let so : SmallOpened o = replacing_small v.bundle s c v.results sv.bundle h.1 hc sv.results e₂ in
          let sw : SmallVisit w = visit_small u o.context o.bundle h.3 so.context so.bundle e₃ in
          concluded_small w.bundle 5 c t w.result (v.steps ++ (w.step ∷ [])) sw.bundle (omega arith) hc h.0 sw.result
          (all_snoc Word v.steps w.step sv.steps sw.step) e

      pub visit_all_small : (ns : Nodes) (c : ℕ) (b : Bundle) → SmallNodes ns → Word c → SmallBundle b → Longer (visit_all k ns c b).bundle end
          → SmallVisits (visit_all k ns c b)
      visit_all_small nil c b h hc small e = record { bundle = small; results = tt; steps = tt }
      visit_all_small (cons τ ns) c b h hc small e =
          let v : Visit = visit k τ c b in
          let sv : SmallVisit v = visit_small τ c b h.0 hc small (longer_trans (visit_all_longer k ns c v.bundle) e) in
          let ss : SmallVisits (visit_all k ns c v.bundle) = visit_all_small ns c v.bundle h.1 hc sv.bundle e in
          record { bundle = ss.bundle; results = (sv.result, ss.results); steps = (sv.step, ss.steps) }

-- THE LAW
pub expanded_small : (names : Names) (b : Bundle) → SmallBundle b → Within (own_counts (visited names b).bundle) → SmallBundle (expanded names b)
unfolding visited expanded
expanded_small names b small fit =
    let e : Longer b (visited names b).bundle = visit_longer (keeps names b) (node_at b b.left) 0 b in
    let begins : Within (own_counts b) = record {
      symbols = omega (arith, fit.symbols, (sizes e).symbols);
      variables = omega (arith, fit.variables, (sizes e).variables);
      terms = omega (arith, fit.terms, (sizes e).terms);
      links = omega (arith, fit.links, (sizes e).links);
      contexts = omega (arith, fit.contexts, (sizes e).contexts);
      steps = omega (arith, fit.steps, (sizes e).steps);
    } in
    let v : SmallVisit (visited names b) =
    visit_small fit (keeps names b) (node_at b b.left) 0 b (node_small b small begins b.left) (omega arith) small (longer_refl (visited names b).bundle) in
    record {
      version = v.bundle.version;
      symbols = v.bundle.symbols;
      variables = v.bundle.variables;
      terms = v.bundle.terms;
      links = v.bundle.links;
      contexts = v.bundle.contexts;
      steps = v.bundle.steps;
      left = small.left;
      right = v.result;
    }
