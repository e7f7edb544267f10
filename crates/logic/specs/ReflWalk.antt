-- The walk of whole-term REFL (Req 04) over pairs of term records: left to right, parent before child, to the first difference.
-- `pair_walk_by` says how many pairs it visits, the one that differs too, and whether it ended with no difference. `within_by` is the same with a
-- number of pairs that it may still visit; proofs/ReflWalk.antt shows that it is spent exactly where `pair_walk_by` visits more.
-- Both are over what is read of free variables (of a term, a variable) and of images (of a variable, in the step's context); `pair_walk` is the walk at
-- the bundle's own.
use Rattle.std.specs.Prelude.{ℕ, zero, suc, ◌+◌, ◌-◌, ◌≤◌, ◌<◌, ◌≡◌, Bool, true, false, cond, not, ◌&&◌, List, [], ◌∷◌, length, eqb, leb}
use Rattle.bundle.specs.Bundle.{Bundle, TermRecord, Step, term_of, sort_of_variable}
use Rattle.bundle.specs.Links.{items}
use Rattle.bundle.specs.Lists.{numbers, each, has}
use Rattle.logic.specs.declared.Image.{Image}
use Rattle.logic.specs.declared.Image.TheVariants.{Own, Gives}
use Rattle.logic.specs.declared.Limited.{Limited}
use Rattle.logic.specs.declared.Limited.TheVariants.{Same, Different, Spent}
use Rattle.logic.specs.Lists.{Number}
use Rattle.logic.specs.Table.{table}
use Rattle.logic.specs.Terms.{Kind, kind_of, variable, application, binder, letting, other}
use Rattle.logic.specs.Free.{free_at}
use Rattle.logic.specs.Contexts.{image, is_variable}

-- ---- binders crossed

-- The variables of the binders crossed, left and right, in pairs, the nearest first.
abbrev pub Crossed : Type 0
Crossed = List (ℕ × ℕ)

unfoldable pub lefts : Crossed → List ℕ
lefts [] = []
lefts (p ∷ ps) = p.0 ∷ lefts ps

unfoldable pub rights : Crossed → List ℕ
rights [] = []
rights (p ∷ ps) = p.1 ∷ rights ps

-- Two lists of variables crossed in pairs, one after another. A let's variables are all different, so their order does not matter.
unfoldable pub cross_all : List ℕ → List ℕ → Crossed → Crossed
cross_all [] ys crossed = crossed
cross_all (x ∷ xs) [] crossed = crossed
cross_all (x ∷ xs) (y ∷ ys) crossed = cross_all xs ys ((x, y) ∷ crossed)

-- At a variable x bound inside left, the right side must be the variable of the matching binder, not hidden by a nearer one on either side.
unfoldable pub meets : Crossed → ℕ → ℕ → Bool
meets [] x z = false
meets (p ∷ ps) x z = cond (eqb x p.0) (eqb z p.1) (not (eqb z p.1) && meets ps x z)

unfoldable pub bound_meets : Bundle → Crossed → ℕ → ℕ → Bool
unfolding meets
bound_meets b crossed x r = eqb (term_of b r).kind 1 && meets crossed x (term_of b r).a

-- At a variable x free in left, the right side must be its image's term, with none of that term's free variables bound by a binder crossed on
-- the right.
unfoldable pub image_is : Bundle → Image → ℕ → ℕ → Bool
image_is b Own x r = is_variable b r x
image_is b (Gives t) x r = eqb t r

unfoldable pub free_meets : (ℕ → ℕ → Bool) → (ℕ → Image) → Bundle → Crossed → ℕ → ℕ → Bool
unfolding image_is each rights
free_meets free image b crossed x r = image_is b (image x) x r && each (λ y. not (free r y)) (rights crossed)

unfoldable pub variable_meets : (ℕ → ℕ → Bool) → (ℕ → Image) → Bundle → Crossed → ℕ → ℕ → Bool
unfolding bound_meets free_meets has lefts
variable_meets free image b crossed x r = cond (has x (lefts crossed)) (bound_meets b crossed x r) (free_meets free image b crossed x r)

-- ---- what must hold of two records themselves, where left is no variable

unfoldable pub application_meets : Bundle → TermRecord → ℕ → Bool
application_meets b s r = eqb (term_of b r).kind 2 && eqb s.a (term_of b r).a

-- two variables of one sort; in files that pass check 7 every binder has variables of the file
unfoldable pub sorts_meet : Bundle → ℕ → ℕ → Bool
sorts_meet b x y =
    (numbers (length b.variables) x && numbers (length b.variables) y) && eqb (sort_of_variable b x) (sort_of_variable b y)

-- the same of two lists of variables, by number, order and sorts
unfoldable pub all_sorts_meet : Bundle → List ℕ → List ℕ → Bool
unfolding sorts_meet
all_sorts_meet b [] [] = true
all_sorts_meet b [] (y ∷ ys) = false
all_sorts_meet b (x ∷ xs) [] = false
all_sorts_meet b (x ∷ xs) (y ∷ ys) = sorts_meet b x y && all_sorts_meet b xs ys

-- Two binders meet only with the same kind and sorts.
unfoldable pub binder_meets : Bundle → TermRecord → ℕ → Bool
unfolding sorts_meet
binder_meets b s r = eqb (term_of b r).kind s.kind && sorts_meet b s.a (term_of b r).a

-- A let has as many bound terms as variables; in files that pass check 8 every let has.
unfoldable pub let_meets : Bundle → TermRecord → ℕ → Bool
unfolding all_sorts_meet items
let_meets b s r =
    (eqb (term_of b r).kind 5 && all_sorts_meet b (items b s.a) (items b (term_of b r).a))
    && eqb (length (items b s.b)) (length (items b s.a))

-- what two binders cross: the variables of each
abbrev pub binder_crossed : Bundle → TermRecord → ℕ → Crossed → Crossed
binder_crossed b s r crossed = (s.a, (term_of b r).a) ∷ crossed

abbrev pub let_crossed : Bundle → TermRecord → ℕ → Crossed → Crossed
let_crossed b s r = cross_all (items b s.a) (items b (term_of b r).a)

-- ---- the walk

-- the number of pairs visited, and whether the walk ended with no difference
pub record PairWalk : Type 0 where
  pub pairs : ℕ
  pub same : Bool

abbrev pub no_pair : PairWalk
no_pair = record { pairs = 0; same = true }

abbrev pub one_pair : Bool → PairWalk
one_pair p = record { pairs = 1; same = p }

-- a pair, and what follows it where it does not differ
unfoldable pub pair_then : Bool → PairWalk → PairWalk
pair_then true w = record { pairs = suc w.pairs; same = w.same }
pair_then false w = one_pair false

-- a walk, and another where it found no difference
unfoldable pub and_then : PairWalk → PairWalk → PairWalk
and_then v w = cond v.same (record { pairs = v.pairs + w.pairs; same = w.same }) v

-- the terms of two lists in pairs, in order; f walks from a term on the left
unfoldable pub lists_walk : (ℕ → Crossed → ℕ → PairWalk) → Crossed → List ℕ → List ℕ → PairWalk
unfolding and_then
lists_walk f crossed [] [] = no_pair
lists_walk f crossed [] (r ∷ rs) = record { pairs = 0; same = false }
lists_walk f crossed (l ∷ ls) [] = record { pairs = 0; same = false }
lists_walk f crossed (l ∷ ls) (r ∷ rs) = and_then (f l crossed r) (lists_walk f crossed ls rs)

-- the walk from a record on the left, where f walks from lower terms. A let's bound terms stand outside its variables, and come before its body.
unfoldable pub pair_walk_as : (ℕ → ℕ → Bool) → (ℕ → Image) → Bundle → Kind → (ℕ → Crossed → ℕ → PairWalk) → TermRecord → Crossed → ℕ → PairWalk
unfolding variable_meets application_meets binder_meets let_meets pair_then lists_walk cross_all
pair_walk_as free image b variable f s crossed r = one_pair (variable_meets free image b crossed s.a r)
pair_walk_as free image b application f s crossed r = pair_then (application_meets b s r) (lists_walk f crossed (items b s.b) (items b (term_of b r).b))
pair_walk_as free image b (binder q) f s crossed r = pair_then (binder_meets b s r) (f s.b (binder_crossed b s r crossed) (term_of b r).b)
pair_walk_as free image b letting f s crossed r =
    pair_then (let_meets b s r)
    (and_then (lists_walk f crossed (items b s.b) (items b (term_of b r).b)) (f s.c (let_crossed b s r crossed) (term_of b r).c))
pair_walk_as free image b other f s crossed r = one_pair false

unfoldable pub pair_walk_of : (ℕ → ℕ → Bool) → (ℕ → Image) → Bundle → (ℕ → Crossed → ℕ → PairWalk) → TermRecord → Crossed → ℕ → PairWalk
unfolding pair_walk_as kind_of
pair_walk_of free image b f s = pair_walk_as free image b (kind_of s.kind) f s

-- the walk from a number that is no lower term's
abbrev pub no_pair_walk : Crossed → ℕ → PairWalk
no_pair_walk crossed r = one_pair false

-- THE WALK from the terms l and r, where the binders `crossed` are crossed
unfoldable pub pair_walk_by : (ℕ → ℕ → Bool) → (ℕ → Image) → Bundle → ℕ → Crossed → ℕ → PairWalk
unfolding pair_walk_of table
pair_walk_by free image b l = table (pair_walk_of free image b) no_pair_walk b.terms l

-- at the bundle's own free variables, and its images in context c
abbrev pub pair_walk : Bundle → ℕ → ℕ → Crossed → ℕ → PairWalk
pair_walk b c = pair_walk_by (free_at b) (image b c) b

-- the walk of a REFL step
abbrev pub refl_walk_by : (ℕ → ℕ → Bool) → (ℕ → ℕ → Image) → Bundle → Step → PairWalk
refl_walk_by free image b s = pair_walk_by free (image s.context) b s.left [] s.right

abbrev pub refl_walk : Bundle → Step → PairWalk
refl_walk b = refl_walk_by (free_at b) (image b) b

-- ---- the walk with pairs left

abbrev pub ended : Bool → ℕ → Limited
ended true n = Same n
ended false n = Different n

-- the pair, where one is left, and what follows it
unfoldable pub pair_within : Bool → (ℕ → Limited) → ℕ → Limited
pair_within p g zero = Spent
pair_within true g (suc n) = g n
pair_within false g (suc n) = Different n

abbrev pub one_pair_within : Bool → ℕ → Limited
one_pair_within p zero = Spent
one_pair_within p (suc n) = ended p n

unfoldable pub go_on : Limited → (ℕ → Limited) → Limited
go_on (Same n) g = g n
go_on (Different n) g = Different n
go_on Spent g = Spent

unfoldable pub lists_within : (ℕ → Crossed → ℕ → ℕ → Limited) → Crossed → List ℕ → List ℕ → ℕ → Limited
unfolding go_on
lists_within f crossed [] [] n = Same n
lists_within f crossed [] (r ∷ rs) n = Different n
lists_within f crossed (l ∷ ls) [] n = Different n
lists_within f crossed (l ∷ ls) (r ∷ rs) n = go_on (f l crossed r n) (lists_within f crossed ls rs)

unfoldable pub within_as : (ℕ → ℕ → Bool) → (ℕ → Image) → Bundle → Kind → (ℕ → Crossed → ℕ → ℕ → Limited) → TermRecord → Crossed → ℕ → ℕ → Limited
unfolding variable_meets application_meets binder_meets let_meets pair_within lists_within cross_all
within_as free image b variable f s crossed r n = one_pair_within (variable_meets free image b crossed s.a r) n
within_as free image b application f s crossed r n =
    pair_within (application_meets b s r) (lists_within f crossed (items b s.b) (items b (term_of b r).b)) n
within_as free image b (binder q) f s crossed r n = pair_within (binder_meets b s r) (f s.b (binder_crossed b s r crossed) (term_of b r).b) n
within_as free image b letting f s crossed r n =
    pair_within (let_meets b s r)
    (λ m. go_on (lists_within f crossed (items b s.b) (items b (term_of b r).b) m) (f s.c (let_crossed b s r crossed) (term_of b r).c)) n
within_as free image b other f s crossed r n = one_pair_within false n

unfoldable pub within_of : (ℕ → ℕ → Bool) → (ℕ → Image) → Bundle → (ℕ → Crossed → ℕ → ℕ → Limited) → TermRecord → Crossed → ℕ → ℕ → Limited
unfolding within_as kind_of
within_of free image b f s = within_as free image b (kind_of s.kind) f s

abbrev pub none_within : Crossed → ℕ → ℕ → Limited
none_within crossed r n = one_pair_within false n

-- the same walk, which may visit n pairs
unfoldable pub within_by : (ℕ → ℕ → Bool) → (ℕ → Image) → Bundle → ℕ → Crossed → ℕ → ℕ → Limited
unfolding within_of table
within_by free image b l = table (within_of free image b) none_within b.terms l

-- at most 4,096 pairs
abbrev pub pair_limit : ℕ
pair_limit = 4096

-- what a walk is where it may visit n pairs
unfoldable pub limit : ℕ → PairWalk → Limited
limit n w = cond (leb w.pairs n) (ended w.same (n - w.pairs)) Spent

-- ---- what a walk can cost (Req 13)

-- Each application has at most two arguments and each let one variable.
pub record Binary (b : Bundle) : Type 0 where
  pub arguments : (i : ℕ) → Number (length b.terms) i → (term_of b i).kind ≡ 2 → length (items b (term_of b i).b) ≤ 2
  pub variables : (i : ℕ) → Number (length b.terms) i → (term_of b i).kind ≡ 5 → length (items b (term_of b i).a) ≡ 1

-- Term 1 is a variable, and each later one, up to term n, an application to the one before it twice.
pub record Doubled (b : Bundle) (n : ℕ) : Type 0 where
  pub first : (term_of b 1).kind ≡ 1
  pub later : (k : ℕ) → 1 ≤ k → k < n → ((term_of b (suc k)).kind ≡ 2) × (items b (term_of b (suc k)).b ≡ k ∷ k ∷ [])
