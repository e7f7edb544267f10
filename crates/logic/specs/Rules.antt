-- The seven rules as tests on record numbers, and checks 12, 22, 21, 13 and 14 of a step. A test whose name ends in `By` is over a reading, of which it
-- takes what it needs; under the plain name stands the same test at the bundle's own reading.
use Rattle.std.specs.Prelude.{ℕ, zero, suc, ◌+◌, ◌-◌, Bool, true, false, cond, not, ◌&&◌, ◌||◌, List, [], ◌∷◌, ◌++◌, length, eqb, leb}
use Rattle.bundle.specs.Bundle.{Bundle, Step, term_of, context_of, step_of}
use Rattle.bundle.specs.Links.{items}
use Rattle.bundle.specs.Lists.{numbers, each, same_list, first_of, second_of, single, last_of}
use Rattle.logic.specs.Tests.{Fault}
use Rattle.logic.specs.declared.Walk.{Walk}
use Rattle.logic.specs.declared.Image.{Image}
use Rattle.logic.specs.declared.Image.TheVariants.{Own, Gives}
use Rattle.logic.specs.Tests.{passed, up_to, Test, test, first_failing, first_fault}
use Rattle.logic.specs.Symbols.{not_symbol}
use Rattle.logic.specs.Terms.{Binder, forAll, exists, choice, application, binder, number_of, is_binder}
use Rattle.logic.specs.Free.{free_at}
use Rattle.logic.specs.Checks.{starts_list}
use Rattle.logic.specs.Contexts.{image, is_variable, settled, in_scope}
use Rattle.logic.specs.Readings.{Reading, reading_of}
use Rattle.logic.specs.ReflWalk.{pair_walk_by, refl_walk_by, pair_limit}

-- Rules: 1 REFL, 2 CONG, 3 TRANS, 4 BIND, 5 LET, 6 SKO for exists, 7 SKO for for-all.
pub data Rule : Type 0 where
  REFL CONG TRANS BIND LET SKO_EXISTS SKO_FOR_ALL noRule : Rule

-- a rule's number; no rule has 0
abbrev pub rule_number : Rule → ℕ
rule_number REFL = 1
rule_number CONG = 2
rule_number TRANS = 3
rule_number BIND = 4
rule_number LET = 5
rule_number SKO_EXISTS = 6
rule_number SKO_FOR_ALL = 7
rule_number noRule = 0

unfoldable pub rule_of : ℕ → Rule
rule_of k =
    cond (eqb k 1) REFL
    (cond (eqb k 2) CONG
    (cond (eqb k 3) TRANS
    (cond (eqb k 4) BIND
    (cond (eqb k 5) LET
    (cond (eqb k 6) SKO_EXISTS
    (cond (eqb k 7) SKO_FOR_ALL noRule))))))

-- a step carries l to r in context c
abbrev pub carries : Step → ℕ → ℕ → ℕ → Bool
carries s c l r = eqb s.context c && eqb s.left l && eqb s.right r

-- what is left of the premises once each of two lists' pairs has had its own: nothing, or one for a let's body
unfoldable pub left_over : Bool → List ℕ → Bool
left_over false [] = true
left_over false (p ∷ ps) = false
left_over true [] = false
left_over true (p ∷ []) = true
left_over true (p ∷ q ∷ ps) = false

-- how many links are read to see that: one, where there is a premise for the body
unfoldable pub left_over_links : Bool → List ℕ → ℕ
left_over_links false ps = 0
left_over_links true [] = 0
left_over_links true (p ∷ ps) = 1

-- three links are read, one of each list; where they pass, the walk goes on
abbrev pub three_then : Bool → Walk → Walk
three_then good rest = record { passes = good && rest.passes; links = 3 + cond good rest.links 0 }

-- In context c, one premise for each pair of two lists, in order; and one more where `body` says so. The walk takes each of the three lists once, an
-- item of each at a time, and ends at the first premise that does not carry its pair, or where a list ends. It counts the links that it reads.
unfoldable pub walk_by : (ℕ → Step) → Bool → ℕ → List ℕ → List ℕ → List ℕ → Walk
unfolding left_over left_over_links
walk_by step body c [] [] ps = record { passes = left_over body ps; links = left_over_links body ps }
walk_by step body c [] (r ∷ rs) ps = record { passes = false; links = 0 }
walk_by step body c (l ∷ ls) [] ps = record { passes = false; links = 0 }
walk_by step body c (l ∷ ls) (r ∷ rs) [] = record { passes = false; links = 0 }
walk_by step body c (l ∷ ls) (r ∷ rs) (p ∷ ps) = three_then (carries (step p) c l r) (walk_by step body c ls rs ps)

-- ---- REFL: right is the capture-avoiding replacement of left, up to the names of binders inside left (Req 04). Document 01's two forms are tried
-- before and take no pairs: left and right are the same term and it is settled; or left is a variable and right its image.

-- right is the image that the term left, a variable, has
unfoldable pub is_image : Image → ℕ → ℕ → Bool
is_image Own l r = eqb l r
is_image (Gives t) l r = eqb t r

unfoldable pub refl_holds_by : (ℕ → ℕ → Bool) → (ℕ → ℕ → Image) → Bundle → Step → Bool
unfolding is_image
refl_holds_by settled image b s =
    (eqb s.left s.right && settled s.context s.left)
    || (eqb (term_of b s.left).kind 1 && is_image (image s.context (term_of b s.left).a) s.left s.right)

unfoldable pub refl_holds : Bundle → Step → Bool
unfolding refl_holds_by settled is_image image
refl_holds b = refl_holds_by (settled b) (image b) b

-- the rest is walked: a walk that fails is refused 13
unfoldable pub refl_matches_by : Reading → Bundle → Step → Bool
unfolding refl_holds_by pair_walk_by
refl_matches_by g b s = refl_holds_by g.settled g.image b s || (refl_walk_by g.free g.image b s).same

unfoldable pub refl_matches : Bundle → Step → Bool
unfolding refl_matches_by refl_holds
refl_matches b = refl_matches_by (reading_of b) b

-- 21 exactly where the definition would visit more than 4,096 pairs
unfoldable pub refl_suffices_by : Reading → Bundle → Step → Bool
unfolding refl_holds_by pair_walk_by
refl_suffices_by g b s = refl_holds_by g.settled g.image b s || leb (refl_walk_by g.free g.image b s).pairs pair_limit

unfoldable pub refl_suffices : Bundle → Step → Bool
unfolding refl_suffices_by refl_holds
refl_suffices b = refl_suffices_by (reading_of b) b

-- ---- CONG: same symbol, premises in the step's context, one for each argument in order.

-- both sides are applications, of one symbol
abbrev pub head_tests : Bundle → Step → List Bool
head_tests b s =
    eqb (term_of b s.left).kind 2
    ∷ eqb (term_of b s.right).kind 2
    ∷ eqb (term_of b s.left).a (term_of b s.right).a
    ∷ []

-- the walk over the arguments of both sides and the premises
abbrev pub arguments_walk : (ℕ → Step) → Bundle → Step → Walk
arguments_walk step b s =
    walk_by step false s.context (items b (term_of b s.left).b) (items b (term_of b s.right).b) (items b s.premises)

unfoldable pub cong_tests_by : (ℕ → Step) → Bundle → Step → List Bool
unfolding walk_by items
cong_tests_by step b s = head_tests b s ++ ((arguments_walk step b s).passes ∷ [])

unfoldable pub cong_tests : Bundle → Step → List Bool
unfolding cong_tests_by walk_by items
cong_tests b = cong_tests_by (step_of b) b

-- THE WALK OF THE TEST: whether it passes, and how many links it reads: none where the sides differ without them
unfoldable pub cong_walk_by : (ℕ → Step) → Bundle → Step → Walk
unfolding cong_tests_by walk_by items passed
cong_walk_by step b s =
    record { passes = passed (cong_tests_by step b s); links = cond (passed (head_tests b s)) (arguments_walk step b s).links 0 }

unfoldable pub cong_walk : Bundle → Step → Walk
unfolding cong_walk_by
cong_walk b = cong_walk_by (step_of b) b

-- the lengths of its three lists together; a link that two of them share is one of each
abbrev pub three_lengths : Bundle → Step → ℕ
three_lengths b s = length (items b (term_of b s.left).b) + length (items b (term_of b s.right).b) + length (items b s.premises)

-- ---- TRANS: left to middle, middle to right, same context; the middle is settled.

-- the right side of the first premise
abbrev pub middle_by : (ℕ → Step) → Bundle → Step → ℕ
middle_by step b s = (step (first_of (items b s.premises))).right

abbrev pub middle : Bundle → Step → ℕ
middle b = middle_by (step_of b) b

unfoldable pub trans_tests_by : (ℕ → Step) → Bundle → Step → List Bool
unfolding items
trans_tests_by step b s =
    carries (step (first_of (items b s.premises))) s.context s.left (middle_by step b s)
    ∷ carries (step (second_of (items b s.premises))) s.context (middle_by step b s) s.right
    ∷ []

unfoldable pub trans_tests : Bundle → Step → List Bool
unfolding trans_tests_by items
trans_tests b = trans_tests_by (step_of b) b

unfoldable pub trans_side_by : (ℕ → ℕ → Bool) → (ℕ → Step) → Bundle → Step → Bool
unfolding items
trans_side_by settled step b s = settled s.context (middle_by step b s)

unfoldable pub trans_side : Bundle → Step → Bool
unfolding trans_side_by settled items
trans_side b = trans_side_by (settled b) (step_of b) b

-- ---- BIND, from Qx.φ to Qy.ψ, same binder: the premise is φ to ψ in a context that replaces x alone by y, whose parent fixes y, whose
-- parent is the step's context.

-- the premise, its context, and that one's parent
abbrev pub premise_by : (ℕ → Step) → Bundle → Step → Step
premise_by step b s = step (first_of (items b s.premises))

abbrev pub inner_by : (ℕ → Step) → Bundle → Step → ℕ
inner_by step b s = (premise_by step b s).context

abbrev pub outer_by : (ℕ → Step) → Bundle → Step → ℕ
outer_by step b s = (context_of b (inner_by step b s)).parent

abbrev pub premise : Bundle → Step → Step
premise b = premise_by (step_of b) b

abbrev pub inner : Bundle → Step → ℕ
inner b = inner_by (step_of b) b

abbrev pub outer : Bundle → Step → ℕ
outer b = outer_by (step_of b) b

unfoldable pub bind_terms_by : (ℕ → Step) → Bundle → Step → List Bool
unfolding items
bind_terms_by step b s =
    is_binder (term_of b s.left).kind
    ∷ eqb (term_of b s.right).kind (term_of b s.left).kind
    ∷ eqb (premise_by step b s).left (term_of b s.left).b
    ∷ eqb (premise_by step b s).right (term_of b s.right).b
    ∷ []

unfoldable pub bind_terms : Bundle → Step → List Bool
unfolding bind_terms_by items
bind_terms b = bind_terms_by (step_of b) b

unfoldable pub bind_contexts_by : (ℕ → Step) → Bundle → Step → List Bool
unfolding items single
bind_contexts_by step b s =
    eqb (context_of b (inner_by step b s)).kind 2
    ∷ single (items b (context_of b (inner_by step b s)).a)
    ∷ eqb (first_of (items b (context_of b (inner_by step b s)).a)) (term_of b s.left).a
    ∷ single (items b (context_of b (inner_by step b s)).b)
    ∷ is_variable b (first_of (items b (context_of b (inner_by step b s)).b)) (term_of b s.right).a
    ∷ eqb (context_of b (outer_by step b s)).kind 1
    ∷ eqb (context_of b (outer_by step b s)).a (term_of b s.right).a
    ∷ eqb (context_of b (outer_by step b s)).parent s.context
    ∷ []

unfoldable pub bind_contexts : Bundle → Step → List Bool
unfolding bind_contexts_by items single
bind_contexts b = bind_contexts_by (step_of b) b

-- y is free in the image of x
unfoldable pub free_in_image_by : (ℕ → ℕ → Bool) → Image → ℕ → ℕ → Bool
free_in_image_by free Own x y = eqb y x
free_in_image_by free (Gives t) x y = free t y

unfoldable pub free_in_image : Bundle → Image → ℕ → ℕ → Bool
unfolding free_in_image_by free_at
free_in_image b = free_in_image_by (free_at b)

-- Sides: y is not free in Qx.φ, and y is not free in the image, in the step's context, of any free variable of Qx.φ.
unfoldable pub bind_sides_by : (ℕ → ℕ → Bool) → (ℕ → ℕ → Image) → Bundle → Step → Bool
unfolding free_in_image_by up_to
bind_sides_by free image b s =
    not (free s.left (term_of b s.right).a)
    && up_to (length b.variables) (λ z. not (free s.left z) || not (free_in_image_by free (image s.context z) z (term_of b s.right).a))

unfoldable pub bind_sides : Bundle → Step → Bool
unfolding bind_sides_by free_at free_in_image image up_to
bind_sides b = bind_sides_by (free_at b) (image b) b

-- ---- LET: premises carry each bound term to some s in the step's context; the last carries the body to the right side in a context that
-- replaces the let's variables by those s, in order, with the step's context as parent.

-- the last premise, and its context
abbrev pub body_step_by : (ℕ → Step) → Bundle → Step → Step
body_step_by step b s = step (last_of (items b s.premises))

abbrev pub body_step : Bundle → Step → Step
body_step b = body_step_by (step_of b) b

-- the walk over the bound terms, those that the context of the last premise puts in, and the premises: the same as CONG's, with one premise more
abbrev pub bound_walk : (ℕ → Step) → Bundle → Step → Walk
bound_walk step b s =
    walk_by step true s.context (items b (term_of b s.left).b) (items b (context_of b (body_step_by step b s).context).b) (items b s.premises)

-- the rest: left is a let, the last premise carries its body to the right side, in a context that replaces the let's variables
abbrev pub body_tests : (ℕ → Step) → Bundle → Step → List Bool
body_tests step b s =
    eqb (term_of b s.left).kind 5
    ∷ eqb (body_step_by step b s).left (term_of b s.left).c
    ∷ eqb (body_step_by step b s).right s.right
    ∷ eqb (context_of b (body_step_by step b s).context).kind 2
    ∷ eqb (context_of b (body_step_by step b s).context).parent s.context
    ∷ same_list (items b (context_of b (body_step_by step b s).context).a) (items b (term_of b s.left).a)
    ∷ []

unfoldable pub let_tests_by : (ℕ → Step) → Bundle → Step → List Bool
unfolding last_of items same_list walk_by
let_tests_by step b s = body_tests step b s ++ ((bound_walk step b s).passes ∷ [])

unfoldable pub let_tests : Bundle → Step → List Bool
unfolding let_tests_by last_of items same_list walk_by
let_tests b = let_tests_by (step_of b) b

-- ---- SKO, from ∃x.φ or ∀x.φ: the premise carries φ to the right side in a context that replaces x alone, by the choice of x in φ for an exists, by
-- the choice of x in not(φ) for a for-all; its parent is the step's context.

-- term t is the choice of x in the term u
unfoldable pub is_choice : Bundle → ℕ → ℕ → ℕ → Bool
unfolding passed
is_choice b t x u = passed (eqb (term_of b t).kind (number_of (binder choice)) ∷ eqb (term_of b t).a x ∷ eqb (term_of b t).b u ∷ [])

-- term t is "not" over the term u
unfoldable pub is_negation : Bundle → ℕ → ℕ → Bool
unfolding passed single items
is_negation b t u =
    passed (
    eqb (term_of b t).kind (number_of application)
    ∷ eqb (term_of b t).a not_symbol
    ∷ single (items b (term_of b t).b)
    ∷ eqb (first_of (items b (term_of b t).b)) u
    ∷ []
    )

-- term t is the choice that takes the place of x where a quantifier q binds x in the term u. (No rule takes a choice away.)
unfoldable pub is_witness : Binder → Bundle → ℕ → ℕ → ℕ → Bool
unfolding is_choice is_negation
is_witness forAll b t x u = is_choice b t x (term_of b t).b && is_negation b (term_of b t).b u
is_witness exists b t x u = is_choice b t x u
is_witness choice b t x u = false

-- the term that the context of the premise puts in
abbrev pub put_in_by : (ℕ → Step) → Bundle → Step → ℕ
put_in_by step b s = first_of (items b (context_of b (inner_by step b s)).b)

unfoldable pub sko_tests_by : Binder → (ℕ → Step) → Bundle → Step → List Bool
unfolding items single is_witness
sko_tests_by q step b s =
    eqb (term_of b s.left).kind (number_of (binder q))
    ∷ eqb (premise_by step b s).left (term_of b s.left).b
    ∷ eqb (premise_by step b s).right s.right
    ∷ eqb (context_of b (inner_by step b s)).kind 2
    ∷ single (items b (context_of b (inner_by step b s)).a)
    ∷ eqb (first_of (items b (context_of b (inner_by step b s)).a)) (term_of b s.left).a
    ∷ single (items b (context_of b (inner_by step b s)).b)
    ∷ is_witness q b (put_in_by step b s) (term_of b s.left).a (term_of b s.left).b
    ∷ eqb (context_of b (inner_by step b s)).parent s.context
    ∷ []

unfoldable pub sko_tests : Binder → Bundle → Step → List Bool
unfolding sko_tests_by items single is_witness
sko_tests q b = sko_tests_by q (step_of b) b

-- ---- the checks of a step

-- 12: a step's rule or reference, or premise count of REFL, TRANS, BIND, SKO
unfoldable pub count_fits : Rule → ℕ → Bool
count_fits REFL n = eqb n 0
count_fits CONG n = true
count_fits TRANS n = eqb n 2
count_fits BIND n = eqb n 1
count_fits LET n = true
count_fits SKO_EXISTS n = eqb n 1
count_fits SKO_FOR_ALL n = eqb n 1
count_fits noRule n = false

-- the tests of a step s, where `earlier` says whether its premises are earlier steps
abbrev pub refers_where : Bool → Bundle → Step → List Bool
refers_where earlier b s =
    leb s.context (length b.contexts)
    ∷ numbers (length b.terms) s.left
    ∷ numbers (length b.terms) s.right
    ∷ starts_list b s.premises
    ∷ earlier
    ∷ count_fits (rule_of s.rule) (length (items b s.premises))
    ∷ []

-- and where there are n earlier steps
unfoldable pub refers_by : Bundle → ℕ → Step → Bool
unfolding count_fits rule_of each items passed
refers_by b n s = passed (refers_where (each (numbers n) (items b s.premises)) b s)

unfoldable pub step_refers : Bundle → ℕ → Bool
unfolding refers_by
step_refers b k = refers_by b (k - 1) (step_of b k)

-- 22, stray: a free variable of its left or right is mentioned by no entry of its context
unfoldable pub scoped_by : (ℕ → ℕ → Bool) → Step → Bool
scoped_by scope s = scope s.context s.left && scope s.context s.right

unfoldable pub scoped_as : Bundle → Step → Bool
unfolding scoped_by in_scope
scoped_as b = scoped_by (in_scope b)

unfoldable pub scoped : Bundle → ℕ → Bool
unfolding scoped_as
scoped b k = scoped_as b (step_of b k)

-- 21, spent: a REFL is walked over more pairs than there may be
unfoldable pub suffices_by : Reading → Bundle → Rule → Step → Bool
unfolding refl_suffices_by
suffices_by g b REFL s = refl_suffices_by g b s
suffices_by g b CONG s = true
suffices_by g b TRANS s = true
suffices_by g b BIND s = true
suffices_by g b LET s = true
suffices_by g b SKO_EXISTS s = true
suffices_by g b SKO_FOR_ALL s = true
suffices_by g b noRule s = true

unfoldable pub suffices_as : Bundle → Rule → Step → Bool
unfolding suffices_by refl_suffices
suffices_as b = suffices_by (reading_of b) b

unfoldable pub suffices : Bundle → ℕ → Bool
unfolding suffices_as rule_of
suffices b k = suffices_as b (rule_of (step_of b k).rule) (step_of b k)

-- 13: any other mismatch with its rule
unfoldable pub matches_by : Reading → Bundle → Rule → Step → Bool
unfolding refl_matches_by cong_tests_by trans_tests_by bind_terms_by bind_contexts_by let_tests_by sko_tests_by passed
matches_by g b REFL s = refl_matches_by g b s
matches_by g b CONG s = passed (cong_tests_by g.step b s)
matches_by g b TRANS s = passed (trans_tests_by g.step b s)
matches_by g b BIND s = passed (bind_terms_by g.step b s) && passed (bind_contexts_by g.step b s)
matches_by g b LET s = passed (let_tests_by g.step b s)
matches_by g b SKO_EXISTS s = passed (sko_tests_by exists g.step b s)
matches_by g b SKO_FOR_ALL s = passed (sko_tests_by forAll g.step b s)
matches_by g b noRule s = false

unfoldable pub matches_as : Bundle → Rule → Step → Bool
unfolding matches_by is_binder refl_matches cong_tests trans_tests bind_terms bind_contexts let_tests sko_tests passed
matches_as b = matches_by (reading_of b) b

unfoldable pub matches : Bundle → ℕ → Bool
unfolding matches_as rule_of
matches b k = matches_as b (rule_of (step_of b k).rule) (step_of b k)

-- 14: TRANS's middle not settled, or a BIND side fails
unfoldable pub sides_by : Reading → Bundle → Rule → Step → Bool
unfolding trans_side_by bind_sides_by
sides_by g b REFL s = true
sides_by g b CONG s = true
sides_by g b TRANS s = trans_side_by g.settled g.step b s
sides_by g b BIND s = bind_sides_by g.free g.image b s
sides_by g b LET s = true
sides_by g b SKO_EXISTS s = true
sides_by g b SKO_FOR_ALL s = true
sides_by g b noRule s = true

unfoldable pub sides_as : Bundle → Rule → Step → Bool
unfolding sides_by trans_side bind_sides
sides_as b = sides_by (reading_of b) b

unfoldable pub sides : Bundle → ℕ → Bool
unfolding sides_as rule_of
sides b k = sides_as b (rule_of (step_of b k).rule) (step_of b k)

-- the tests of a step s after n others, in their order
abbrev pub rule_tests_by : Reading → Bundle → Step → List Test
rule_tests_by g b s =
    test 21 (suffices_by g b (rule_of s.rule) s) ∷ test 13 (matches_by g b (rule_of s.rule) s) ∷ test 14 (sides_by g b (rule_of s.rule) s) ∷ []

abbrev pub scoped_tests_by : Reading → Bundle → Step → List Test
scoped_tests_by g b s = test 22 (scoped_by g.in_scope s) ∷ rule_tests_by g b s

abbrev pub step_tests_by : Reading → Bundle → ℕ → Step → List Test
step_tests_by g b n s = test 12 (refers_by b n s) ∷ scoped_tests_by g b s

unfoldable pub step_fault_by : Reading → Bundle → ℕ → Step → ℕ
unfolding first_failing refers_by
step_fault_by g b n s = first_failing (step_tests_by g b n s)

-- the same of step k
abbrev pub step_tests : Bundle → ℕ → List Test
step_tests b k = test 12 (step_refers b k) ∷ test 22 (scoped b k) ∷ test 21 (suffices b k) ∷ test 13 (matches b k) ∷ test 14 (sides b k) ∷ []

unfoldable pub step_fault : Bundle → ℕ → ℕ
unfolding step_fault_by first_failing step_refers scoped suffices matches sides
step_fault b k = first_failing (step_tests b k)

-- what is wrong with a step that comes after all those of a bundle
unfoldable pub next_fault : Bundle → Step → ℕ
unfolding step_fault_by
next_fault b s = step_fault_by (reading_of b) b (length b.steps) s

unfoldable pub steps_fault : Bundle → Fault
unfolding first_fault step_fault
steps_fault b = first_fault (step_fault b) (length b.steps)

-- ---- the pairs that the answer gives

-- a REFL that neither of document 01's two forms takes: it is walked
unfoldable pub walked_by : Reading → Bundle → Step → Bool
unfolding refl_holds_by
walked_by g b s = eqb s.rule 1 && not (refl_holds_by g.settled g.image b s)

-- the number of pairs that a step's walk visits, 0 where it is not walked
unfoldable pub pairs_by : Reading → Bundle → Step → ℕ
unfolding walked_by pair_walk_by
pairs_by g b s = cond (walked_by g b s) (refl_walk_by g.free g.image b s).pairs 0

-- step k is walked, over so many pairs
unfoldable pub walked : Bundle → ℕ → Bool
unfolding walked_by
walked b k = walked_by (reading_of b) b (step_of b k)

unfoldable pub walked_pairs : Bundle → ℕ → ℕ
unfolding pairs_by walked
walked_pairs b k = pairs_by (reading_of b) b (step_of b k)

-- the number of pairs of the last REFL walked of the steps 1 to k, 0 if none was
unfoldable pub last_pairs : Bundle → ℕ → ℕ
unfolding walked walked_pairs
last_pairs b zero = 0
last_pairs b (suc k) = cond (walked b (suc k)) (walked_pairs b (suc k)) (last_pairs b k)
