-- What lent memory holds, whatever that is: the reading of it that the code makes. Nothing is asked of the memory but that it is long enough.
use Rattle.std.specs.Prelude.{ℕ, ◌+◌, ◌*◌, ◌/◌, ◌≤◌, Bool, true, cond, not, List, length, get_or, leb}
use Rattle.bundle.specs.Bundle.{Bundle, Step, step_of}
use Rattle.bundle.specs.Limits.{set_words}
use Rattle.bundle.specs.File.{tab, record_by, step_from}
use Rattle.logic.specs.declared.Mention.{Mention}
use Rattle.logic.specs.declared.Mention.TheVariants.{Absent}
use Rattle.logic.specs.declared.Image.{Image}
use Rattle.logic.specs.Tests.{up_to}
use Rattle.logic.specs.Contexts.{as_image}
use Rattle.logic.specs.Longer.{with_steps}
use Rattle.logic.specs.Readings.{Reading}
use Rattle.free_variables.specs.TermSets.{TermSets, free_in, settled_in, in_scope_in, moved_at, mentioned_at}
use Rattle.free_variables.specs.FreeSets.{FreeSets}
use Rattle.images.specs.ContextRows.{mention_in, Images, Scopes}

-- what is known of a file: a set of variables for each term, a table of images, and of each context the sets of variables that it moves and mentions
pub record Known : Type 0 where
  pub sets : TermSets
  pub images : List ℕ
  pub scopes : List ℕ

-- the steps of a bed, five words each
abbrev pub bed_steps : List ℕ → List Step
bed_steps bed = tab (λ j. step_from (record_by (λ k. get_or bed k 0) 0 5 j)) (length bed / 5)

-- the step of a number: first come those of the file, then those of the bed
unfoldable pub step_in : Bundle → List ℕ → ℕ → Step
step_in b bed p = step_of (with_steps b (bed_steps bed)) p

-- f for the contexts up to c, and d for a number that is none
abbrev pub known : {A : Type 0} → ℕ → A → (ℕ → ℕ → A) → ℕ → ℕ → A
known c d f k x = cond (leb k c) (f k x) d

abbrev pub mentions_in : Bundle → List ℕ → ℕ → ℕ → Mention
mentions_in b images = known (length b.contexts) Absent (mention_in b images)

abbrev pub images_in : Bundle → List ℕ → ℕ → ℕ → Image
images_in b images k x = as_image (mentions_in b images k x)

abbrev pub all_settled_in : TermSets → List ℕ → ℕ → ℕ → Bool
all_settled_in s scopes = known (length s.bundle.contexts) true (λ k. settled_in s scopes (moved_at s.n k))

-- in a number that is no context nothing is mentioned
unfoldable pub all_in_scope_in : TermSets → List ℕ → ℕ → ℕ → Bool
unfolding in_scope_in
all_in_scope_in s scopes k t =
    cond (leb k (length s.bundle.contexts)) (in_scope_in s scopes (mentioned_at s.n k) t)
    (up_to (length s.bundle.variables) (λ x. not (free_in s t x)))

unfoldable pub reading_in : Known → List ℕ → Reading
reading_in k bed = record {
  free = free_in k.sets;
  image = images_in k.sets.bundle k.images;
  settled = all_settled_in k.sets k.scopes;
  in_scope = all_in_scope_in k.sets k.scopes;
  step = step_in k.sets.bundle bed;
}

-- there is room for the free sets of all terms, and for what is known of all contexts; a set has a bit for each variable, and no more words than it may
pub record Lent (k : Known) : Type 0 where
  pub bits : length k.sets.bundle.variables ≤ 64 * k.sets.n
  pub few : k.sets.n ≤ set_words
  pub free : k.sets.n * length k.sets.bundle.terms ≤ length k.sets.words
  pub images : length k.sets.bundle.variables * (length k.sets.bundle.contexts + 1) ≤ length k.images
  pub scopes : 2 * k.sets.n * (length k.sets.bundle.contexts + 1) ≤ length k.scopes

-- what is known is right: the free sets of all terms, and the images and sets of all contexts
pub record Right (k : Known) : Type 0 where
  pub free : FreeSets k.sets
  pub images : Images k.sets.bundle k.images (length k.sets.bundle.contexts + 1)
  pub scopes : Scopes k.sets.bundle k.scopes k.sets.n (length k.sets.bundle.contexts + 1)
