-- The answers of `places`.
--     head_list     the head of a formula, after which a list opens
--     bound         a variable of a let's list
--     sorted        a variable of a quantifier's list
use Prim.Native.Nat.{ℕ}
use native.Mathlib.Omega.{arith}
use mathlib.Core.Path.{◌≡◌, ap, ◌∙◌}
use mathlib.Core.Logic.{◌⊎◌, inl, inr}
use mathlib.Core.List.{List, ◌∷◌}
use lib.ListN.{get_or, drop}
use Rattle.logic.specs.declared.kinds.Binder.{Binder as BinderName}
use Rattle.logic.specs.Named.{binder_in}
use Rattle.grammar.specs.Bytes.{quantifier, letting, sort, name}
use Rattle.grammar.specs.Grammar.{Lexeme, opens, word}
use Rattle.lexing.specs.Lexes.{lexemes_of}
use Rattle.lexing.specs.Words.{sort_in}
use Rattle.lexing.specs.declared.words.SortWord.{SortWord}
use Rattle.lexing.proofs.Tails.{tail_after}
use Rattle.pass_tokens.specs.declared.Meaning.{Meaning}
use Rattle.pass_tokens.specs.declared.Meaning.TheVariants.{Variable, Binder, Let, Sort}
use Rattle.pass_tokens.specs.Tokens.{Blanks, Opened, Closed, WordTo, Heads, HeadTo, SortedTo, BoundTo}
use Rattle.pass_tokens.proofs.BlankLaws.{opens_next}

-- the texts as they are read: t₀ has the head behind white space, and another list opens in t₃
module _ (symbols variables : ℕ) {t₀ t t₁ t₂ t₃ : List ℕ} {m : Meaning} (b : Blanks t₀ t) (h : WordTo symbols variables t t₁ m) (k : Blanks t₁ t₂)
    (o : Opened t₂ t₃) (next : get_or t₃ 0 0 ≡ 40) where
  rest : lexemes_of t₁ ≡ opens ∷ lexemes_of t₃
  rest = k.same ∙ o.opened

  opened : ((q : BinderName) × (m ≡ Binder q)) ⊎ (m ≡ Let) → Heads symbols t₀ t₃ m
  opened (inl (q, e)) =
      let said = rw e at h.means in
      rw e
      (lexemes_of (drop 1 t₃), b.same ∙ said ∙ ap (λ (ls : List Lexeme). word (quantifier (binder_in q)) ∷ ls) rest, (opens_next t₃ next).next)
  opened (inr e) =
      let said = rw e at h.means in
      rw e (lexemes_of (drop 1 t₃), b.same ∙ said ∙ ap (λ (ls : List Lexeme). word letting ∷ ls) rest, (opens_next t₃ next).next)

  pub head_list : ((q : BinderName) × (m ≡ Binder q)) ⊎ (m ≡ Let) → HeadTo symbols t₀ t₃ m
  head_list e = record {
    tail = tail_after b.tail (tail_after h.tail (tail_after k.tail o.tail));
    fewer = omega (arith, b.fewer, h.fewer, k.fewer, o.fewer);
    heads = opened e;
  }

module _ (symbols variables : ℕ) {t₀ t₁ t₂ t₃ : List ℕ} {m : Meaning} where
  pub bound : Opened t₀ t₁ → WordTo symbols variables t₁ t₂ m → (n : ℕ) → m ≡ Variable n → Blanks t₂ t₃ → BoundTo variables t₀ t₃ n
  bound o h n e k =
      let v = rw e at h.means in
      record {
        tail = tail_after o.tail (tail_after h.tail k.tail);
        fewer = omega (arith, o.fewer, h.fewer, k.fewer);
        small = v.0;
        some = v.1.3;
        called = v.1.0;
        listed = o.opened ∙ ap (λ (ls : List Lexeme). opens ∷ ls) (v.1.1 ∙ ap (λ (ls : List Lexeme). word (name v.1.0) ∷ ls) k.same);
        variable = v.1.2;
      }

  pub sorted : {n : ℕ} → BoundTo variables t₀ t₁ n → WordTo symbols variables t₁ t₂ m → (s : SortWord) → m ≡ Sort s → Closed t₂ t₃
      → SortedTo variables t₀ t₃ (record { variable = n; sort = s })
  sorted x h s e z =
      let said = rw e at h.means in
      record {
        tail = tail_after x.tail (tail_after h.tail z.tail);
        fewer = omega (arith, x.fewer, h.fewer, z.fewer);
        small = x.small;
        some = x.some;
        called = x.called;
        listed = x.listed
            ∙ ap (λ (ls : List Lexeme). opens ∷ word (name x.called) ∷ ls) (said ∙ ap (λ (ls : List Lexeme). word (sort (sort_in s)) ∷ ls) z.closed);
        variable = x.variable;
      }
