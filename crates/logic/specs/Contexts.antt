-- Contexts: images of variables, mentioned variables, moved variables, settled terms (image, moved, settled are document 01's words), terms in scope, and
-- checks 10 and 11.
use Rattle.std.specs.Prelude.{ℕ, ◌≡◌, Bool, true, false, cond, not, ◌&&◌, ◌||◌, List, [], ◌∷◌, length, eqb, ltb}
use Rattle.bundle.specs.Bundle.{Bundle, Context, context_of, term_of}
use Rattle.bundle.specs.Links.{items}
use Rattle.bundle.specs.Lists.{numbers, each}
use Rattle.logic.specs.Tests.{Fault}
use Rattle.logic.specs.declared.Mention.{Mention}
use Rattle.logic.specs.declared.Mention.TheVariants.{Fixed, Replaced, Absent}
use Rattle.logic.specs.declared.Image.{Image}
use Rattle.logic.specs.declared.Image.TheVariants.{Own, Gives}
use Rattle.logic.specs.Lists.{Among}
use Rattle.logic.specs.Tests.{passed, up_to, Test, test, first_failing, first_fault}
use Rattle.logic.specs.Table.{table}
use Rattle.logic.specs.Terms.{Term, var, tree}
use Rattle.logic.specs.Free.{Free, free_at}
use Rattle.logic.specs.Checks.{starts_list, lists_agree}

-- ---- images

-- A context's kind, by name: 1 fixes, 2 replaces. A number that is no kind is `noEntry`.
pub data Entry : Type 0 where
  fixing replacing noEntry : Entry

-- its number; no kind has 0
abbrev pub entry_number : Entry → ℕ
entry_number fixing = 1
entry_number replacing = 2
entry_number noEntry = 0

unfoldable pub entry_of : ℕ → Entry
entry_of k = cond (eqb k 1) fixing (cond (eqb k 2) replacing noEntry)

-- what the lists of a replacing context say of x
unfoldable pub lookup : List ℕ → List ℕ → ℕ → Mention
lookup [] ts x = Absent
lookup (v ∷ vs) [] x = Absent
lookup (v ∷ vs) (t ∷ ts) x = cond (eqb v x) (Replaced t) (lookup vs ts x)

-- what a context's own entry says of x; where there is no entry the walk has come to the empty context, and x is its own image
unfoldable pub mention_as : Bundle → Entry → Context → ℕ → Mention
unfolding lookup items
mention_as b fixing r x = cond (eqb r.a x) Fixed Absent
mention_as b replacing r x = lookup (items b r.a) (items b r.b) x
mention_as b noEntry r x = Fixed

unfoldable pub mention : Bundle → Context → ℕ → Mention
unfolding mention_as entry_of
mention b r x = mention_as b (entry_of r.kind) r x

-- The first entry that fixes it makes it its own image; the first that replaces it gives its term there: from an entry's mention, and the
-- image in its parent.
unfoldable pub first : Mention → Image → Image
first Fixed i = Own
first (Replaced t) i = Gives t
first Absent i = i

unfoldable pub image_by : Bundle → (ℕ → ℕ → Image) → Context → ℕ → Image
unfolding mention first
image_by b f r x = first (mention b r x) (f r.parent x)

-- where no entry mentions it, it is its own image
abbrev pub own_image : ℕ → Image
own_image x = Own

-- document 01's image: that of variable x in context c. Go from the entry towards the empty context.
unfoldable pub image : Bundle → ℕ → ℕ → Image
unfolding image_by table
image b c = table (image_by b) own_image b.contexts c

-- ---- mentioned variables

-- what an entry says of x, or else what those above it say
unfoldable pub or_above : Mention → Mention → Mention
or_above Fixed m = Fixed
or_above (Replaced t) m = Replaced t
or_above Absent m = m

-- the same by kind; where there is no entry the walk has come to the empty context, and x is not mentioned
unfoldable pub found_as : Bundle → Entry → Context → ℕ → Mention → Mention
unfolding mention_as or_above
found_as b fixing r x m = or_above (mention_as b fixing r x) m
found_as b replacing r x m = or_above (mention_as b replacing r x) m
found_as b noEntry r x m = Absent

unfoldable pub found_by : Bundle → (ℕ → ℕ → Mention) → Context → ℕ → Mention
unfolding found_as entry_of
found_by b f r x = found_as b (entry_of r.kind) r x (f r.parent x)

abbrev pub not_found : ℕ → Mention
not_found x = Absent

-- What the entries of context c say of x: the first that mentions it on the way to the empty context. An image follows from it, but of a
-- variable that is its own image it also tells whether it is fixed or not mentioned.
unfoldable pub found : Bundle → ℕ → ℕ → Mention
unfolding found_by table
found b c = table (found_by b) not_found b.contexts c

unfoldable pub as_image : Mention → Image
as_image Fixed = Own
as_image (Replaced t) = Gives t
as_image Absent = Own

-- the same in propositions: an entry of c fixes x or replaces it, or one on the way to the empty context does
pub data Mentioned (b : Bundle) : ℕ → ℕ → Type 0 where
  by_fixing : {c x : ℕ} → (context_of b c).kind ≡ 1 → (context_of b c).a ≡ x → Mentioned b c x
  by_replacing : {c x : ℕ} → (context_of b c).kind ≡ 2 → Among x (items b (context_of b c).a) → Mentioned b c x
  by_parent : {c x : ℕ} → Mentioned b (context_of b c).parent x → Mentioned b c x

-- the same as a test: something is found of x
unfoldable pub mentioned_by : Mention → Bool
mentioned_by Fixed = true
mentioned_by (Replaced t) = true
mentioned_by Absent = false

unfoldable pub mentioned : Bundle → ℕ → ℕ → Bool
unfolding mentioned_by found
mentioned b c x = mentioned_by (found b c x)

-- ---- images as trees

-- the image as a tree
unfoldable pub tree_of_image : Bundle → Image → ℕ → Term
unfolding tree
tree_of_image b Own x = var x
tree_of_image b (Gives t) x = tree b t

unfoldable pub image_tree : Bundle → ℕ → ℕ → Term
unfolding tree_of_image image
image_tree b c x = tree_of_image b (image b c x) x

-- ---- moved and settled, in propositions

-- document 01's moved: its image is another term
abbrev pub Moved : Bundle → ℕ → ℕ → Type 0
Moved b c x = image_tree b c x ≡ var x → ⊥

-- document 01's settled: none of its free variables is moved
abbrev pub Settled : Bundle → ℕ → Term → Type 0
Settled b c t = (x : ℕ) → Free x t → image_tree b c x ≡ var x

-- ---- in scope, in propositions (Req 05)

-- Each free variable of a term is mentioned by an entry, fixed or replaced. Standing inside a replacement is not being mentioned.
abbrev pub InScope : Bundle → ℕ → Term → Type 0
InScope b c t = (x : ℕ) → Free x t → Mentioned b c x

-- ---- the same as tests on numbers

-- term t is the variable x
abbrev pub is_variable : Bundle → ℕ → ℕ → Bool
is_variable b t x = eqb (term_of b t).kind 1 && eqb (term_of b t).a x

unfoldable pub moved_by : Bundle → Image → ℕ → Bool
moved_by b Own x = false
moved_by b (Gives t) x = not (is_variable b t x)

unfoldable pub moved : Bundle → ℕ → ℕ → Bool
unfolding moved_by image
moved b c x = moved_by b (image b c x) x

-- of the variables for which s holds, none is moved in context c
unfoldable pub settled_for : Bundle → (ℕ → Bool) → ℕ → Bool
unfolding up_to moved
settled_for b s c = up_to (length b.variables) (λ x. not (s x) || not (moved b c x))

unfoldable pub settled : Bundle → ℕ → ℕ → Bool
unfolding free_at settled_for
settled b c t = settled_for b (free_at b t) c

-- each free variable of term t is mentioned in context c
unfoldable pub in_scope : Bundle → ℕ → ℕ → Bool
unfolding up_to free_at mentioned
in_scope b c t = up_to (length b.variables) (λ x. not (free_at b t x) || mentioned b c x)

-- ---- checks 10 and 11

-- 10: a context's kind, unused field, reference, lists. The parent has a lower number; 0 is the empty context.
unfoldable pub context_refers_as : Bundle → Entry → ℕ → Context → List Bool
unfolding each items lists_agree
context_refers_as b fixing i r = numbers (length b.variables) r.a ∷ eqb r.b 0 ∷ ltb r.parent i ∷ []
context_refers_as b replacing i r =
    starts_list b r.a
    ∷ each (numbers (length b.variables)) (items b r.a)
    ∷ starts_list b r.b
    ∷ each (numbers (length b.terms)) (items b r.b)
    ∷ lists_agree b (items b r.a) (items b r.b)
    ∷ ltb r.parent i
    ∷ []
context_refers_as b noEntry i r = false ∷ []

unfoldable pub context_refers : Bundle → ℕ → Bool
unfolding context_refers_as entry_of passed
context_refers b i = passed (context_refers_as b (entry_of (context_of b i).kind) i (context_of b i))

-- 11: in every replacing context the terms are settled in the parent
unfoldable pub replacements_settled_as : Bundle → Entry → Context → Bool
unfolding each items settled
replacements_settled_as b fixing r = true
replacements_settled_as b replacing r = each (settled b r.parent) (items b r.b)
replacements_settled_as b noEntry r = true

unfoldable pub replacements_settled : Bundle → ℕ → Bool
unfolding replacements_settled_as entry_of
replacements_settled b i = replacements_settled_as b (entry_of (context_of b i).kind) (context_of b i)

abbrev pub context_tests : Bundle → ℕ → List Test
context_tests b i = test 10 (context_refers b i) ∷ test 11 (replacements_settled b i) ∷ []

unfoldable pub context_fault : Bundle → ℕ → ℕ
unfolding first_failing context_refers replacements_settled
context_fault b i = first_failing (context_tests b i)

unfoldable pub contexts_fault : Bundle → Fault
unfolding first_fault context_fault
contexts_fault b = first_fault (context_fault b) (length b.contexts)
