-- A list of links appended one by one.
--     add_none     of no value
--     link_more    a link more
--     add_more     of the first value, and then of the others
--     start_is     where a list of n values starts, by what `list_start` ensures
--     push_more    a turn of the loop that appends a part of the stack
use mathlib.Core.Path.{◌≡◌, sym, ap, ◌∙◌}
use mathlib.Core.Bool.{Bool}
use mathlib.Core.List.{List, [], ◌∷◌, ◌++◌, append-nil, append_assoc}
use Prim.Native.Nat.{ℕ, suc, ◌+◌, ◌≤◌, ◌<◌}
use native.Mathlib.Omega.{arith}
use native.Mathlib.Decide.{dec_lt}
use lib.ListN.{length, get_or, drop, length-append}
use Rattle.bundle.specs.Bundle.{Bundle, Link}
use Rattle.logic.specs.Longer.{with_links, start_of, consecutive, add_list, list_start}
use Rattle.scratch.specs.Stack.{half_of, halves_of}
use Rattle.scratch.proofs.Halves.{rest_none, rest_more}

pub add_none : (b : Bundle) → add_list b [] ≡ b
unfolding consecutive
add_none b =
    ap (λ (ls : List Link). record {
      version = b.version;
      symbols = b.symbols;
      variables = b.variables;
      terms = b.terms;
      links = ls;
      contexts =
          b.contexts;
      steps = b.steps;
      left = b.left;
      right = b.right;
    }) (append-nil b.links)

pub link_more : (b : Bundle) (v next : ℕ) → length (with_links b (record { value = v; next = next } ∷ [])).links ≡ length b.links + 1
link_more b v next = length-append b.links (record { value = v; next = next } ∷ [])

pub add_more : (b : Bundle) (v next : ℕ) (vs : List ℕ) → next ≡ start_of (suc (suc (length b.links))) vs
    → add_list (with_links b (record { value = v; next = next } ∷ [])) vs ≡ add_list b (v ∷ vs)
unfolding consecutive
add_more b v next vs e =
    let l : length (b.links ++ (record { value = v; next = next } ∷ [])) ≡ suc (length b.links) = link_more b v next ∙ omega arith in
    rw (l, append_assoc, ← e)

-- the next of a link, where m is the link after it and the pairs that are left are those from place i on
next_start : (u : Bool) (s : List ℕ) (i m next : ℕ) → (i < length s → next ≡ m) → (length s ≤ i → next ≡ 0) → next ≡ start_of m (halves_of u (drop i s))
next_start u s i m next more none = go (dec_lt i (length s))
  where
    go : Dec (i < length s) → next ≡ start_of m (halves_of u (drop i s))
    go (yes h) = rw (rest_more u s i h) (more h)
    go (no h) = rw (rest_none u s i (omega arith)) (none (omega arith))

-- the pair at place i as a link; its next is the link after it where pairs are left, and otherwise 0
pub push_more : (b : Bundle) (u : Bool) (s : List ℕ) (i v next : ℕ) → i < length s → v ≡ half_of u (get_or s i 0)
    → (i + 1 < length s → next ≡ length b.links + 2) → (length s ≤ i + 1 → next ≡ 0)
    → add_list (with_links b (record { value = v; next = next } ∷ [])) (halves_of u (drop (i + 1) s)) ≡ add_list b (halves_of u (drop i s))
push_more b u s i v next h p more none =
    add_more b v next (halves_of u (drop (i + 1) s)) (next_start u s (i + 1) (suc (suc (length b.links))) next (λ k. more k ∙ omega arith) none)
    ∙ rw (p, rest_more u s i h)

-- where a list of n values starts that is appended next
pub start_is : (b : Bundle) (vs : List ℕ) (n r : ℕ) → length vs ≡ n → (n ≡ 0 → r ≡ 0) → ((n ≡ 0 → ⊥) → r ≡ length b.links + 1) → r ≡ list_start b vs
start_is b [] n r e none some = none (sym e)
start_is b (v ∷ vs) n r e none some = some (λ z. omega arith) ∙ omega arith
