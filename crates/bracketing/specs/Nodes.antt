-- Sorts judged on lexemes: the sort of the formula at the front, the test of the node at the front, and every node's test, one after another.
-- Each is what Local (crate reading) has of a formula, read off its spelling; of lexemes that spell no formula it says something or other.
use Rattle.std.specs.Prelude.{ℕ, zero, suc, ◌≡◌, Bool, true, false, cond, ◌&&◌, ◌||◌, List, [], ◌∷◌, eqb, ltb}
use Rattle.bundle.specs.Bundle.{Bundle, sort_of_variable}
use Rattle.bundle.specs.Lists.{each, different}
use Rattle.logic.specs.Symbols.{truth_sort, item_sort, signature_of, result_sort}
use Rattle.grammar.specs.Bytes.{Connective, conjunction, disjunction, implication, equality, Word, constant, negation, connective, quantifier, letting}
use Rattle.grammar.specs.Bytes.{sort, name}
use Rattle.grammar.specs.Grammar.{Lexeme, opens, closes, word, stray, Formula, spell}
use Rattle.grammar.specs.Names.{names, all_known}
use Rattle.reading.specs.Called.{variable_called, symbol_called, known_in}
use Rattle.reading.specs.Typing.{sort_number}
use Rattle.reading.specs.Local.{alone_sort, alone_fine, accepts, head_sort, fine}
use Rattle.lexing.specs.Lexes.{rest_of}
use Rattle.bracketing.specs.Brackets.{front_of, is_opening, open_after, if_none, after_formula, parts_from, skip, parts}

-- ---- words

-- the name that a word is, no bytes for any other word: these name nothing
unfoldable pub name_of : Word → List ℕ
name_of (constant v) = []
name_of negation = []
name_of (connective c) = []
name_of (quantifier q) = []
name_of letting = []
name_of (sort s) = []
name_of (name w) = w

unfoldable pub name_in : Lexeme → List ℕ
unfolding name_of
name_in opens = []
name_in closes = []
name_in (word w) = name_of w
name_in stray = []

unfoldable pub is_let : Word → Bool
is_let (constant v) = false
is_let negation = false
is_let (connective c) = false
is_let (quantifier q) = false
is_let letting = true
is_let (sort s) = false
is_let (name w) = false

-- the sort that a sort's word says
unfoldable pub sort_said : Word → ℕ
unfolding sort_number
sort_said (constant v) = truth_sort
sort_said negation = truth_sort
sort_said (connective c) = truth_sort
sort_said (quantifier q) = truth_sort
sort_said letting = truth_sort
sort_said (sort s) = sort_number s
sort_said (name w) = truth_sort

unfoldable pub sort_in : Lexeme → ℕ
unfolding sort_said
sort_in opens = truth_sort
sort_in closes = truth_sort
sort_in (word w) = sort_said w
sort_in stray = truth_sort

-- ---- the sort of the formula at the front

-- of a word alone; true and false are truths
unfoldable pub word_sort : Bundle → Word → ℕ
unfolding alone_sort variable_called symbol_called name_of
word_sort b w = alone_sort b (variable_called b (name_of w)) (symbol_called b (name_of w))

-- of a bracket with this head, a let apart: all but a declared symbol make truths
unfoldable pub result_of : Bundle → Word → ℕ
unfolding signature_of result_sort symbol_called name_of
result_of b w = result_sort b (signature_of b (symbol_called b (name_of w)))

unfoldable mutual
  unfolding open_after if_none is_let word_sort result_of

  pub sort_from : Bundle → List Lexeme → ℕ
  sort_from b [] = truth_sort
  sort_from b (opens ∷ ls) = sort_inside b ls
  sort_from b (closes ∷ ls) = truth_sort
  sort_from b (word w ∷ ls) = word_sort b w
  sort_from b (stray ∷ ls) = truth_sort

  -- of the bracket whose head is at the front
  pub sort_inside : Bundle → List Lexeme → ℕ
  sort_inside b [] = truth_sort
  sort_inside b (opens ∷ ls) = truth_sort
  sort_inside b (closes ∷ ls) = truth_sort
  sort_inside b (word w ∷ ls) = cond (is_let w) (sort_past b 0 ls) (result_of b w)
  sort_inside b (stray ∷ ls) = truth_sort

  -- of the formula after the list of bindings at the front, in which n brackets are open: a let's body
  pub sort_past : Bundle → ℕ → List Lexeme → ℕ
  sort_past b n [] = truth_sort
  sort_past b n (l ∷ ls) = if_none (open_after l n) (sort_from b ls) (sort_past b (open_after l n) ls)

-- ---- the test of a node, by its head and what follows the head

-- and, or and => join truths; = joins truths where the first is one, and else items
unfoldable pub joined_sort : Connective → ℕ → ℕ
joined_sort conjunction s = truth_sort
joined_sort disjunction s = truth_sort
joined_sort implication s = truth_sort
joined_sort equality s = cond (eqb s truth_sort) truth_sort item_sort

unfoldable pub joins : Connective → ℕ → ℕ → Bool
unfolding joined_sort
joins c s t = eqb (joined_sort c s) s && eqb (joined_sort c s) t

-- A declared symbol takes these sorts. 0 is no symbol: a variable's name, at the front of a binding, is no node.
unfoldable pub takes : Bundle → ℕ → List ℕ → Bool
unfolding accepts
takes b zero ss = true
takes b (suc f) ss = accepts b (suc f) ss

-- the variable after a bracket
unfoldable pub variable_in : Bundle → List Lexeme → ℕ
unfolding variable_called name_in front_of rest_of
variable_in b ls = variable_called b (name_in (front_of (rest_of ls)))

-- a quantifier's variable with its declared sort: '(', the variable, the sort
unfoldable pub as_declared : Bundle → List Lexeme → Bool
unfolding variable_in sort_in front_of rest_of
as_declared b ls = eqb (sort_of_variable b (variable_in b ls)) (sort_in (front_of (rest_of (rest_of ls))))

unfoldable pub every : List Bool → Bool
every [] = true
every (p ∷ ps) = p && every ps

-- a let's variable, 0 where its formula is not of its sort: '(', the variable, the formula
unfoldable pub bound_from : Bundle → List Lexeme → ℕ
unfolding variable_in sort_from rest_of
bound_from b ls = cond (eqb (sort_of_variable b (variable_in b ls)) (sort_from b (rest_of (rest_of ls)))) (variable_in b ls) 0

-- no 0, and none twice
unfoldable pub distinct : List ℕ → Bool
unfolding each different
distinct xs = each (ltb 0) xs && different xs

unfoldable pub head_fine : Bundle → Word → List Lexeme → Bool
unfolding sort_from joins takes as_declared every bound_from distinct symbol_called rest_of skip parts
head_fine b (constant v) ls = true
head_fine b negation ls = eqb truth_sort (sort_from b ls)
head_fine b (connective c) ls = joins c (sort_from b ls) (sort_from b (after_formula ls))
head_fine b (quantifier q) ls = every (parts_from (as_declared b) (rest_of ls)) && eqb (sort_from b (after_formula ls)) truth_sort
head_fine b letting ls = distinct (parts_from (bound_from b) (rest_of ls))
head_fine b (sort s) ls = true
head_fine b (name w) ls = takes b (symbol_called b w) (parts_from (sort_from b) ls)

-- of the bracket whose head is at the front; a bracket that starts a list has no head
unfoldable pub inside_fine : Bundle → List Lexeme → Bool
unfolding head_fine
inside_fine b [] = true
inside_fine b (opens ∷ ls) = true
inside_fine b (closes ∷ ls) = true
inside_fine b (word w ∷ ls) = head_fine b w ls
inside_fine b (stray ∷ ls) = true

-- a word alone; a word that is no name passes
unfoldable pub word_fine : Bundle → Word → Bool
unfolding alone_fine variable_called symbol_called name_of
word_fine b w = alone_fine b (variable_called b (name_of w)) (symbol_called b (name_of w))

-- the node at the front; `head` says that a bracket stands just before it, so that a word there is a head
unfoldable pub node_fine : Bundle → Bool → List Lexeme → Bool
unfolding inside_fine word_fine
node_fine b head [] = true
node_fine b head (opens ∷ ls) = inside_fine b ls
node_fine b head (closes ∷ ls) = true
node_fine b head (word w ∷ ls) = head || word_fine b w
node_fine b head (stray ∷ ls) = true

-- every node
unfoldable pub fine_from : Bundle → Bool → List Lexeme → Bool
unfolding node_fine is_opening
fine_from b head [] = true
fine_from b head (l ∷ ls) = node_fine b head (l ∷ ls) && fine_from b (is_opening l) ls

-- ---- the statement

-- what is read off the spelling is what Local says of the formula
pub record ReadOff (b : Bundle) (φ : Formula) (rest : List Lexeme) : Type 0 where
  pub sort : sort_from b (spell φ rest) ≡ head_sort b φ
  pub after : after_formula (spell φ rest) ≡ rest
  pub nodes : fine_from b false (spell φ rest) ≡ (fine b φ && fine_from b false rest)

-- THE THEOREM: so for every formula whose names are known
abbrev pub BracketByBracket : Type 0
BracketByBracket = (b : Bundle) (φ : Formula) (rest : List Lexeme) → all_known (known_in b) (names φ []) ≡ true → ReadOff b φ rest
