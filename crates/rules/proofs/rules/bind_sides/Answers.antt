-- `rules::bind_sides` meets its contract.
use native.Mathlib.Omega.{arith}
use Prim.Native.Nat.{ℕ, ◌+◌, ◌*◌, ◌-◌, ◌≤◌, ◌<◌}
use mathlib.Core.Path.{◌≡◌, sym, ap, ◌∙◌}
use borrow.Author.Tests.{le-leb}
use lib.ListN.{length}
use Rattle.bundle.specs.Bundle.{Bundle, term_of}
use Rattle.logic.specs.Rules.{bind_sides_by}
use Rattle.free_variables.specs.TermSets.{free_in}
use Rattle.free_variables.proofs.FreeWords.{free_zero, free_past}
use Rattle.images.specs.ContextRows.{image_at}
use Rattle.images.specs.LentReading.{images_in}
use Rattle.rules.specs.WordSides.{hit_by}
use Rattle.rules.proofs.BindWords.{apart_none, set_word, words_on, words_end, words_fail}
use Rattle.rules.proofs.rules.bind_sides.Goals as goal

-- y, as the right side has it
bound : {b b' : Bundle} {y : ℕ} (t : ℕ) → b ≡ b' → y ≡ (term_of b t).a → y ≡ (term_of b' t).a
bound t same e = e ∙ ap (λ (b : Bundle). (term_of b t).a) same

pub returns-then-is_free : goal.returns-then-is_free
unfolding bind_sides_by
returns-then-is_free c = rw (← bound c.args.s.right c.bundle-bundle.ensures c.term_field-y.ensures, ← c.is_free.ensures, c.if-is_free.true)

pub returns-then-left-eq0 : goal.returns-then-left-eq0
unfolding bind_sides_by
returns-then-left-eq0 c =
    let a = c.args in
    let s = a.sets.now in
    rw (← bound c.args.s.right c.bundle-bundle.ensures c.term_field-y.ensures, ← c.is_free.ensures, c.if-is_free.false)
    (sym (apart_none (free_in s a.s.left) (hit_by (free_in s) (images_in s.bundle a.images.now a.s.context) c.term_field-y.result)
    (length s.bundle.variables) (λ x. free_zero s a.s.left x c.if-left-eq0.true)))

pub returns-then-left-terms : goal.returns-then-left-terms
unfolding bind_sides_by
returns-then-left-terms c =
    let a = c.args in
    let s = a.sets.now in
    rw (← bound c.args.s.right c.bundle-bundle.ensures c.term_field-y.ensures, ← c.is_free.ensures, c.if-is_free.false)
    (sym (apart_none (free_in s a.s.left) (hit_by (free_in s) (images_in s.bundle a.images.now a.s.context) c.term_field-y.result)
    (length s.bundle.variables) (λ x. free_past s a.s.left x (rw c.bundle-bundle.ensures at (rw c.terms.ensures.0 at c.if-left-terms.true)))))

pub returns-then-word_hits : goal.returns-then-word_hits
unfolding bind_sides_by
returns-then-word_hits c =
    let a = c.args in
    let s = a.sets.now in
    let k : ℕ = c.loop-k.k in
    let last : ℕ = length s.bundle.variables in
    let hit = hit_by (free_in s) (image_at last a.images.now a.s.context) c.term_field-y.result in
    let few : a.s.left ≤ length s.bundle.terms = rw c.bundle-bundle.ensures at (rw c.terms.ensures.0 at c.if-left-terms.false) in
    rw (le-leb _ _ c.requires.1, ← bound a.s.right c.bundle-bundle.ensures c.term_field-y.ensures, ← c.is_free.ensures, c.if-is_free.false)
    (sym (words_fail s a.s.left last hit c.if-left-eq0.false few k (omega (arith, c.n-n.ensures))
    (rw (
      set_word c.words-area.result.now (c.n-n.result * (a.s.left - 1)) c.min-words.result k (omega arith),
      c.words-area.ensures.0,
      c.n-n.ensures,
    ) at (c.word_hits.ensures.1 c.if-word_hits.true))))

pub loop-k-preserved : goal.loop-k-preserved
loop-k-preserved c = λ some few.
    let a = c.args in
    let s = a.sets.now in
    let k : ℕ = c.loop-k.k in
    let last : ℕ = length s.bundle.variables in
    let hit = hit_by (free_in s) (image_at last a.images.now a.s.context) c.term_field-y.result in
    let next : 64 * k + 64 ≡ 64 * (k + 1) = omega arith in
    rw (← next)
    (words_on s a.s.left last hit some few k (omega (arith, c.n-n.ensures)) (c.loop-k.invariant some few)
    (rw (
      set_word c.words-area.result.now (c.n-n.result * (a.s.left - 1)) c.min-words.result k (omega arith),
      c.words-area.ensures.0,
      c.n-n.ensures,
    ) at (c.word_hits.ensures.0 c.if-word_hits.false)))

pub returns : goal.returns
unfolding bind_sides_by
returns c =
    let a = c.args in
    let s = a.sets.now in
    let k : ℕ = c.loop-k.k in
    let last : ℕ = length s.bundle.variables in
    let hit = hit_by (free_in s) (image_at last a.images.now a.s.context) c.term_field-y.result in
    let few : a.s.left ≤ length s.bundle.terms = rw c.bundle-bundle.ensures at (rw c.terms.ensures.0 at c.if-left-terms.false) in
    let count : c.variables-variables.result ≡ last = rw c.bundle-bundle.ensures at c.variables-variables.ensures.0 in
    let over : k < s.n → last ≤ 64 * k = λ low. omega (arith, c.n-n.ensures, count) in
    rw (le-leb _ _ c.requires.1, ← bound a.s.right c.bundle-bundle.ensures c.term_field-y.ensures, ← c.is_free.ensures, c.if-is_free.false)
    (sym (words_end s a.s.left last hit c.if-left-eq0.false few k over (c.loop-k.invariant c.if-left-eq0.false few)))
