-- Reading parts, turn by turn: what answers from here on answers the whole.
--     Given                                       all that reading parts gives
--     parts_end, no_more_places                   the list's end; no place for a pair
--     part_none, part_asks, part_more             a part's formula did not fit; the call for the others; the parts, from the first and the others
--     Going                                       the loop's invariant
--     let_none, body_none, let_gives              a let, from its pairs and its body
use Prim.Native.Nat.{ℕ, suc, ◌+◌, ◌≤◌, ◌<◌}
use native.Mathlib.Omega.{arith}
use mathlib.Core.Path.{◌≡◌, refl, sym, ap, ◌∙◌, subst}
use mathlib.Core.Bool.{Bool, true, false, cond}
use mathlib.Core.List.{List, [], ◌∷◌, map}
use lib.ListN.{length, set, length-set}
use Rattle.std.specs.Prelude.{Option, Some, None, IfSome}
use Rattle.std.specs.Option.{unwrap_or}
use Rattle.std.proofs.lemmas.Option.{IfSome_then}
use Rattle.bundle.specs.Bundle.{Bundle}
use Rattle.bundle.specs.Limits.{limits}
use Rattle.logic.specs.Terms.{Term, Terms, let_in, more}
use Rattle.scratch.specs.Stack.{halves}
use Rattle.scratch.proofs.Halves.{halves_none}
use Rattle.expansion.specs.Placed.{place_let}
use Rattle.placing.specs.Outcomes.{StackKept}
use Rattle.placing.proofs.Pairs.{Pair, below_same, below_trans, below_set, below_halves, halves_first}
use Rattle.grammar.specs.Grammar.{Lexeme, closes, spell}
use Rattle.reading.specs.Local.{head_sort, plain}
use Rattle.reading.specs.Records.{file, file_all}
use Rattle.lexing.specs.Lexes.{lexemes_of, Tail}
use Rattle.lexing.proofs.Tails.{tail_after}
use Rattle.heads.specs.declared.Item.{Item}
use Rattle.heads.specs.Places.{Part, after_part, spell_parts, PartAt, PartEnd}
use Rattle.endings.specs.declared.ReadTerm.{ReadTerm}
use Rattle.endings.specs.declared.ReadParts.{ReadParts}
use Rattle.endings.specs.ReadOutcomes.{TermOutcome, TermFits}
use Rattle.formulas.specs.Pending.{count}
use Rattle.formulas.specs.ReadGives.{terms_of, variable_of, first_sort, TooLarge, ReadOutcome, PartsOutcome, Asks, Leaves, LeavesParts, Reads, ReadsLet}
use Rattle.formulas.specs.ReadGives.{ReadsParts}
use Rattle.formulas.proofs.Sizes.{no_place, first_large, rest_large, pairs_large, body_large}
use Rattle.formulas.proofs.PartTerms.{variable_called_lem, terms_count}
use Rattle.formulas.proofs.FormulaTurns.{at_some, read_done, read_full, parts_done, parts_full, outcome_of_lem, placed_leaves, none_leaves}
use Rattle.formulas.proofs.FormulaTurns.{Closed, closed_outcome}

-- ---- the sort of the first

first_none : (D : Bundle) (first : Option ℕ) → unwrap_or first 0 ≡ first_sort D first []
unfolding first_sort
first_none D None = refl
first_none D (Some s) = refl

first_of : (D : Bundle) (first : Option ℕ) (own : ℕ) (p : Part) (ps : List Part) → own ≡ head_sort D p.formula
    → first_sort D (Some (unwrap_or first own)) ps ≡ first_sort D first (p ∷ ps)
unfolding first_sort
first_of D None own p ps e = e
first_of D (Some s) own p ps e = refl

-- ---- one more part, and others after it

one_more : {τ : Term} {ts : Terms} {v : ℕ} {vs : List ℕ} {m s s' : ℕ} {ls : List Lexeme} {b b1 : Bundle} {h n : ℕ} {b' : Bundle} (st1 : List ℕ)
    {st : List ℕ} {r : Option ReadParts} {pair t : ℕ} → b1 ≡ (file τ b).bundle → Pair pair t v → t ≡ (file τ b).term → s ≡ s' → h < length st1
    → StackKept (set st1 h pair) st (h + 1) → IfSome r (λ p. p.height ≤ length st)
    → PartsOutcome ts vs m s ls b1 (h + 1) n b' st r → PartsOutcome (more τ ts) (v ∷ vs) (suc m) s' ls b h n b' st r
unfolding file
one_more {τ} {ts} {v} {vs} {m} {s} {s'} {ls} {b} {b1} {h} {n} {b'} st1 {st} {r} {pair} {t} eb packed et es room kept places o =
    go (subst (λ (y : Bundle). PartsOutcome ts vs m s ls y (h + 1) n b' st r) eb o)
  where
    go : PartsOutcome ts vs m s ls (file τ b).bundle (h + 1) n b' st r → PartsOutcome (more τ ts) (v ∷ vs) (suc m) s' ls b h n b' st r
    go (PartsOutcome.done x is d) =
        let top : x.height ≡ h + 1 + m = d.height in
        let all : x.height ≡ h + suc m = omega (arith, top) in
        let fits : h + 1 + m ≤ length st = omega (arith, top, at_some (λ (p : ReadParts). p.height ≤ length st) is places) in
        let up : halves true st (h + 1) (h + 1 + m) ≡ _ = ap (halves true st (h + 1)) (sym top) ∙ d.terms in
        let low : halves false st (h + 1) (h + 1 + m) ≡ _ = ap (halves false st (h + 1)) (sym top) ∙ d.variables in
        PartsOutcome.done x is (record {
          height = all;
          sort = d.sort ∙ es;
          bundle = d.bundle;
          terms = ap (halves true st h) all ∙ halves_first st1 h pair room kept true m fits ∙ (λ j. (packed.upper ∙ et) j ∷ up j);
          variables = ap (halves false st h) all ∙ halves_first st1 h pair room kept false m fits ∙ (λ j. packed.lower j ∷ low j);
          after = d.after;
        })
    go (PartsOutcome.full o d) = PartsOutcome.full (rest_large τ ts o) d

-- ---- the turns

module _ (D : Bundle) (n : ℕ) (bound : Bool) where
  pub record Given (text : List ℕ) (b : Bundle) (st : List ℕ) (h : ℕ) (first : Option ℕ) (b' : Bundle) (st' : List ℕ) (r : Option ReadParts) : Type 0 where
    pub leaves : LeavesParts text st h st' r
    pub reads : ReadsParts D text b h n bound first b' st' r

  no_parts : {text st : List ℕ} {h : ℕ} {st' : List ℕ} → StackKept st st' h → LeavesParts text st h st' None
  no_parts kept = record { kept = kept; height = tt; tail = tt; fewer = tt }

  module _ {text : List ℕ} {item : Item} (at : PartAt text (length D.variables) bound item) {v : ℕ} (on : item.variable ≡ Some v) where
    not_ended : (P : List Part → List Lexeme → Type 0)
        → ((p : Part) (ps : List Part) (rest : List Lexeme) → v ≡ variable_of D bound p
        → lexemes_of item.rest.now ≡ spell p.formula (after_part bound (spell_parts bound ps rest)) → P (p ∷ ps) rest)
        → (ps : List Part) (rest : List Lexeme) → lexemes_of text ≡ spell_parts bound ps rest → P ps rest
    not_ended P g [] rest l = let m = (at.means [] rest l).last in absurd (cc)
    not_ended P g (p ∷ ps) rest l =
        let m = at.means (p ∷ ps) rest l in
        let k = m.variable in
        let same : v ≡ _ = cc in
        g p ps rest (same ∙ ap (λ (x : ℕ). cond bound x 0) (variable_called_lem D p.called)) m.after

  module _ {text : List ℕ} {b : Bundle} {st : List ℕ} {h : ℕ} (asks : Asks st h) {item : Item} (at : PartAt text (length D.variables) bound item)
      (first : Option ℕ)
    where
      -- the list's end
      pub parts_end : item.variable ≡ None → {x : ReadParts} → x.height ≡ h → x.sort ≡ unwrap_or first 0 → x.rest.now ≡ item.rest.now
          → Given text b st h first b st (Some x)
      unfolding terms_of file
      parts_end e {x} top same left = record {
        leaves = record {
          kept = below_same st h;
          height = (omega (arith, top), omega (arith, top, asks.height));
          tail = rw left at.item.tail;
          fewer = omega (arith, ap length left, at.item.fewer);
        };
        reads = go;
      }
        where
          go : ReadsParts D text b h n bound first b st (Some x)
          go [] rest l =
              PartsOutcome.done x refl (record {
                height = omega (arith, top);
                sort = same ∙ first_none D first;
                bundle = refl;
                terms = halves_none true st h x.height (omega (arith, top));
                variables = halves_none false st h x.height (omega (arith, top));
                after = ap lexemes_of left ∙ (at.means [] rest l).after;
              })
          go (p ∷ ps) rest l = let m = (at.means (p ∷ ps) rest l).variable in absurd (cc)

      module _ {v : ℕ} (on : item.variable ≡ Some v) where
        -- no place for a pair
        pub no_more_places : limits.links ≤ h → Given text b st h first b st None
        unfolding terms_of
        no_more_places l = record {
          leaves = no_parts (below_same st h);
          reads = not_ended at on _ (λ p ps rest k m. PartsOutcome.full (no_place (plain D p.formula) (terms_of D ps) l) refl);
        }

        module _ {b1 : Bundle} {st1 : List ℕ} {read : Option ReadTerm} (left : Leaves item.rest.now st h st1 read) (gave : Reads D item.rest.now b h n b1 read) where
          -- the part's formula did not fit
          pub part_none : read ≡ None → Given text b st h first b1 st1 None
          unfolding terms_of
          part_none e = record {
            leaves = no_parts left.kept;
            reads = not_ended at on _ (λ p ps rest k m.
                PartsOutcome.full (first_large (plain D p.formula) (terms_of D ps) (read_full (gave p.formula _ m) e)) refl);
          }

          module _ {x : ReadTerm} (is : read ≡ Some x) (room : h < limits.links) where
            read_tail : Tail item.rest.now x.rest.now
            read_tail = at_some (λ (t : ReadTerm). Tail item.rest.now t.rest.now) is left.tail

            part_room : h < length st1
            part_room = omega (arith, room, asks.places, left.kept.long)

            module _ {pair : ℕ} (packed : Pair pair x.term v) {after : List ℕ} (end : PartEnd bound x.rest.now after) where
              -- the call for the others
              pub part_asks : Asks (set st1 h pair) (h + 1)
              part_asks = record {
                places = omega (arith, length-set st1 h pair, left.kept.long, asks.places);
                height = omega (arith, room);
              }

              pub part_later : length after < length item.rest.now
              part_later = omega (arith, at_some (λ (t : ReadTerm). length t.rest.now < length item.rest.now) is left.fewer, end.fewer)

              -- the parts, from the first and the others
              pub part_more : {u : ℕ} → u ≡ unwrap_or first x.sort → {b' : Bundle} {st' : List ℕ} {r : Option ReadParts}
                  → Given after b1 (set st1 h pair) (h + 1) (Some u) b' st' r → Given text b st h first b' st' r
              unfolding terms_of
              part_more {u} same {b'} {st'} {r} g = record {
                leaves = record {
                  kept = below_trans (omega arith) (below_trans (omega arith) left.kept (below_set st1 h h pair (omega arith))) g.leaves.kept;
                  height = IfSome_then r g.leaves.height (λ p z. (omega (arith, z.0), z.1));
                  tail = IfSome_then r g.leaves.tail (λ p z. tail_after at.item.tail (tail_after read_tail (tail_after end.tail z)));
                  fewer = IfSome_then r g.leaves.fewer (λ p z. omega (arith, z, at.item.fewer, part_later));
                };
                reads = not_ended at on _ (λ p ps rest k m. go p ps rest k m);
              }
                where
                  long : length st' ≡ length st1
                  long = g.leaves.kept.long ∙ length-set st1 h pair

                  go : (p : Part) (ps : List Part) (rest : List Lexeme) → v ≡ variable_of D bound p
                      → lexemes_of item.rest.now ≡ spell p.formula (after_part bound (spell_parts bound ps rest))
                      → PartsOutcome (terms_of D (p ∷ ps)) (map (variable_of D bound) (p ∷ ps)) (length (p ∷ ps)) (first_sort D first (p ∷ ps)) rest
                      b h n b' st' r
                  go p ps rest k m =
                      let d = read_done (gave p.formula _ m) is in
                      one_more st1 d.bundle (record { upper = packed.upper; lower = packed.lower ∙ k }) d.term
                      (ap (λ (y : ℕ). first_sort D (Some y) ps) same ∙ first_of D first x.sort p ps d.sort) part_room g.leaves.kept
                      (IfSome_then r g.leaves.height (λ y z. omega (arith, z.1, asks.places, left.kept.long, long)))
                      (g.reads ps rest (end.means (spell_parts bound ps rest) d.after))

  -- ---- the loop's invariant: whatever answers from the text `here` on answers the whole

  pub record Going (text₀ : List ℕ) (b₀ : Bundle) (st₀ : List ℕ) (h₀ : ℕ) (b : Bundle) (st : List ℕ) (h : ℕ) (first : Option ℕ) (item : Item) : Type 0 where
    pub here : List ℕ
    pub from : length here ≤ length text₀
    pub asks : Asks st h
    pub at : PartAt here (length D.variables) bound item
    pub on : (b' : Bundle) (st' : List ℕ) (r : Option ReadParts) → Given here b st h first b' st' r → Given text₀ b₀ st₀ h₀ None b' st' r

-- ---- a let, from its pairs and its body

module _ (D : Bundle) {text st : List ℕ} {b : Bundle} {h n : ℕ} {b1 : Bundle} {st1 : List ℕ} {parts : Option ReadParts}
    (leaves : LeavesParts text st h st1 parts)
    (reads : ReadsParts D text b h n true None b1 st1 parts) where
  -- its pairs did not fit
  pub let_none : parts ≡ None → Leaves text st h st1 None × ReadsLet D text b h n b1 None
  let_none e = (
    none_leaves leaves.kept,
    λ ps φ rest l. ReadOutcome.full (pairs_large (map (variable_of D true) ps) (terms_of D ps) (plain D φ) (parts_full (reads ps (spell φ (closes ∷ rest)) l) e)) refl,
  )

  module _ {x : ReadParts} (is : parts ≡ Some x) where
    tops : (h ≤ x.height) × (x.height ≤ limits.links)
    tops = at_some (λ (p : ReadParts). (h ≤ p.height) × (p.height ≤ limits.links)) is leaves.height

    few : length x.rest.now ≤ length text
    few = at_some (λ (p : ReadParts). length p.rest.now ≤ length text) is leaves.fewer

    module _ (places : limits.links ≤ length st) where
      module _ {b2 : Bundle} {st2 : List ℕ} {read : Option ReadTerm} (left : Leaves x.rest.now st1 x.height st2 read)
          (gave : Reads D x.rest.now b1 x.height n b2 read) where
        kept : StackKept st st2 h
        kept = below_trans tops.0 leaves.kept left.kept

        its_size : (ps : List Part) → x.height ≡ h + length ps → x.height ≡ h + count (terms_of D ps)
        its_size ps e = omega (arith, e, terms_count D ps)

        -- its body did not fit
        pub body_none : read ≡ None → Leaves text st h st2 None × ReadsLet D text b h n b2 None
        body_none e = (none_leaves kept, go)
          where
            go : ReadsLet D text b h n b2 None
            go ps φ rest l =
                let d = parts_done (reads ps (spell φ (closes ∷ rest)) l) is in
                let o = read_full (gave φ (closes ∷ rest) d.after) e in
                ReadOutcome.full (body_large (map (variable_of D true) ps) (terms_of D ps) (plain D φ) (its_size ps d.height)
                (subst (λ (y : Bundle). TooLarge (plain D φ) y x.height n) d.bundle o)) refl

        module _ {body : ReadTerm} (body_is : read ≡ Some body) where
          further : Tail text body.rest.now
          further =
              tail_after (at_some (λ (p : ReadParts). Tail text p.rest.now) is leaves.tail)
              (at_some (λ (t : ReadTerm). Tail x.rest.now t.rest.now) body_is left.tail)

          inside : length body.rest.now < length x.rest.now
          inside = at_some (λ (t : ReadTerm). length t.rest.now < length x.rest.now) body_is left.fewer

          module _ (whole : ReadTerm) (closed : Closed body whole) where
            halves_kept : (u : Bool) → halves u st2 h x.height ≡ halves u st1 h x.height
            halves_kept u = below_halves left.kept u h (omega (arith, tops.1, places, leaves.kept.long))

            pub let_gives : {b3 : Bundle} {res : Option ReadTerm} → TermFits res
                → TermOutcome (place_let b2 (halves false st2 h x.height) (halves true st2 h x.height) whole.term) whole.sort whole.rest.now b3 res
                → Leaves text st h st2 res × ReadsLet D text b h n b3 res
            unfolding file
            let_gives {b3} {res} fits o = (placed_leaves kept o fits (tail_after further closed.2.tail) (omega (arith, few, inside, closed.2.fewer)), go)
              where
                go : ReadsLet D text b h n b3 res
                go ps φ rest l =
                    let vs : List ℕ = map (variable_of D true) ps in
                    let ts : Terms = terms_of D ps in
                    let d = parts_done (reads ps (spell φ (closes ∷ rest)) l) is in
                    let z = subst (λ (y : Bundle). ReadOutcome (plain D φ) (head_sort D φ) (closes ∷ rest) y x.height n b2 read) d.bundle
                    (gave φ (closes ∷ rest) d.after) in
                    let k = read_done (closed_outcome {x = whole} body_is closed z) refl in
                    let no : halves false st2 h x.height ≡ vs = halves_kept false ∙ d.variables in
                    let up : halves true st2 h x.height ≡ (file_all ts b).terms = halves_kept true ∙ d.terms in
                    outcome_of_lem (let_in vs ts (plain D φ)) b
                    (subst (λ (u : Bundle × List ℕ × List ℕ × ℕ × ℕ). TermOutcome (place_let u.0 u.1 u.2 u.3) u.4 whole.rest.now b3 res)
                    (λ j. (k.bundle j, no j, up j, k.term j, k.sort j)) o) k.after
