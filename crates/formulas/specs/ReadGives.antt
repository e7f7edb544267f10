-- What the functions that read a formula ask and give: the records of its term, or that it does not fit.
use Rattle.std.specs.Prelude.{IfSome, ℕ, suc, ◌+◌, ◌≤◌, ◌<◌, ◌≡◌, Bool, true, false, cond, Option, Some, None, List, [], ◌∷◌, map, length}
use Rattle.bundle.specs.Bundle.{Bundle}
use Rattle.bundle.specs.File.{bundle_of, own_counts}
use Rattle.bundle.specs.Limits.{limits, Within}
use Rattle.logic.specs.Symbols.{truth_sort}
use Rattle.logic.specs.Terms.{Binder, Term, Terms, let_in, none, more}
use Rattle.scratch.specs.Stack.{halves}
use Rattle.placing.specs.Outcomes.{TooMuch, StackKept}
use Rattle.grammar.specs.Grammar as grammar
use Rattle.grammar.specs.Grammar.{Formula, SortedVariable, Lexeme, closes, spell, spell_variables}
use Rattle.reading.specs.Called.{variable_called}
use Rattle.reading.specs.Typing.{nested}
use Rattle.reading.specs.Local.{head_sort, plain}
use Rattle.reading.specs.Records.{file, file_all, depth, depth_all}
use Rattle.reading.specs.Answers.{ReadAs, FitsLimits}
use Rattle.reading.specs.Demands.{DeclarationsFormed}
use Rattle.lexing.specs.Lexes.{lexemes_of, Tail}
use Rattle.heads.specs.Places.{Part, spell_parts}
use Rattle.endings.specs.declared.ReadTerm.{ReadTerm}
use Rattle.endings.specs.declared.ReadParts.{ReadParts}
use Rattle.endings.specs.ReadOutcomes.{TermFits}
use Rattle.formulas.specs.Pending.{count, pending, pending_all}

-- ---- parts, beside the declarations D

-- their terms
unfoldable pub terms_of : Bundle → List Part → Terms
unfolding plain
terms_of D [] = none
terms_of D (p ∷ ps) = more (plain D p.formula) (terms_of D ps)

-- their variables; 0 for an argument's
abbrev pub variable_of : Bundle → Bool → Part → ℕ
variable_of D bound p = cond bound (variable_called D p.called) 0

-- the sort of the first: s where it is known already; 0 where there is none
unfoldable pub first_sort : Bundle → Option ℕ → List Part → ℕ
unfolding head_sort
first_sort D (Some s) ps = s
first_sort D None [] = 0
first_sort D None (p ∷ ps) = head_sort D p.formula

-- the sort of a formula under variables of a quantifier
unfoldable pub sort_under : Bundle → List SortedVariable → Formula → ℕ
unfolding head_sort
sort_under D [] φ = head_sort D φ
sort_under D (x ∷ xs) φ = truth_sort

-- ---- what does not fit

-- After b, with h pairs waiting and n levels left, a term is too large: a section would pass its limit, more would wait than there may be links, or it
-- is nested too deep.
pub data TooLarge (τ : Term) (b : Bundle) (h n : ℕ) : Type 0 where
  records : TooMuch (file τ b).bundle → TooLarge τ b h n
  waiting : limits.links < h + pending τ → TooLarge τ b h n
  deep : n < depth τ → TooLarge τ b h n

pub data AllTooLarge (ts : Terms) (b : Bundle) (h n : ℕ) : Type 0 where
  records : TooMuch (file_all ts b).bundle → AllTooLarge ts b h n
  waiting : limits.links < h + (count ts + pending_all ts) → AllTooLarge ts b h n
  deep : n < depth_all ts → AllTooLarge ts b h n

-- ---- what is answered

-- x, and the bundle b' after the call, are the records of τ after b, its sort s, and the lexemes ls that follow
pub record ReadDone (τ : Term) (s : ℕ) (ls : List Lexeme) (b b' : Bundle) (x : ReadTerm) : Type 0 where
  pub term : x.term ≡ (file τ b).term
  pub sort : x.sort ≡ s
  pub bundle : b' ≡ (file τ b).bundle
  pub after : lexemes_of x.rest.now ≡ ls

-- r is that, or τ is too large
pub data ReadOutcome (τ : Term) (s : ℕ) (ls : List Lexeme) (b : Bundle) (h n : ℕ) (b' : Bundle) (r : Option ReadTerm) : Type 0 where
  done : (x : ReadTerm) → r ≡ Some x → ReadDone τ s ls b b' x → ReadOutcome τ s ls b h n b' r
  full : TooLarge τ b h n → r ≡ None → ReadOutcome τ s ls b h n b' r

-- the same of m terms, whose pairs stand on the stack st from height h on: the terms, and the numbers vs
pub record PartsDone (ts : Terms) (vs : List ℕ) (m s : ℕ) (ls : List Lexeme) (b : Bundle) (h : ℕ) (b' : Bundle) (st : List ℕ) (x : ReadParts) : Type 0 where
  pub height : x.height ≡ h + m
  pub sort : x.sort ≡ s
  pub bundle : b' ≡ (file_all ts b).bundle
  pub terms : halves true st h x.height ≡ (file_all ts b).terms
  pub variables : halves false st h x.height ≡ vs
  pub after : lexemes_of x.rest.now ≡ ls

pub data PartsOutcome (ts : Terms) (vs : List ℕ) (m s : ℕ) (ls : List Lexeme) (b : Bundle) (h n : ℕ) (b' : Bundle) (st : List ℕ) (r : Option ReadParts)
    : Type 0
  where
    done : (x : ReadParts) → r ≡ Some x → PartsDone ts vs m s ls b h b' st x → PartsOutcome ts vs m s ls b h n b' st r
    full : AllTooLarge ts b h n → r ≡ None → PartsOutcome ts vs m s ls b h n b' st r

-- ---- what a call asks, and what it leaves, whatever the text is: the text from some byte on

pub record Asks (st : List ℕ) (h : ℕ) : Type 0 where
  pub places : limits.links ≤ length st
  pub height : h ≤ limits.links

pub record Leaves (text st : List ℕ) (h : ℕ) (st' : List ℕ) (r : Option ReadTerm) : Type 0 where
  pub kept : StackKept st st' h
  pub word : TermFits r
  pub tail : IfSome r (λ t. Tail text t.rest.now)
  pub fewer : IfSome r (λ t. length t.rest.now < length text)

pub record LeavesParts (text st : List ℕ) (h : ℕ) (st' : List ℕ) (r : Option ReadParts) : Type 0 where
  pub kept : StackKept st st' h
  pub height : IfSome r (λ p. (h ≤ p.height) × (p.height ≤ limits.links))
  pub tail : IfSome r (λ p. Tail text p.rest.now)
  pub fewer : IfSome r (λ p. length p.rest.now ≤ length text)

-- ---- and what it gives, where the text spells this: D has the declarations, b is the bundle before, b' the one after

-- a formula
abbrev pub Reads : (D : Bundle) (text : List ℕ) (b : Bundle) (h n : ℕ) (b' : Bundle) (r : Option ReadTerm) → Type 0
Reads D text b h n b' r =
    (φ : Formula) (rest : List Lexeme) → lexemes_of text ≡ spell φ rest → ReadOutcome (plain D φ) (head_sort D φ) rest b h n b' r

-- the variables of a quantifier q, its body and its closing bracket
abbrev pub ReadsQuantified : (D : Bundle) (text : List ℕ) (b : Bundle) (h n : ℕ) (q : Binder) (b' : Bundle) (r : Option ReadTerm) → Type 0
ReadsQuantified D text b h n q b' r =
    (xs : List SortedVariable) (φ : Formula) (rest : List Lexeme) → lexemes_of text ≡ spell_variables xs (spell φ (closes ∷ rest))
    → ReadOutcome (nested D q xs (plain D φ)) (sort_under D xs φ) rest b h n b' r

-- the pairs of a let, its body and its closing bracket; the let is one level more
abbrev pub ReadsLet : (D : Bundle) (text : List ℕ) (b : Bundle) (h n : ℕ) (b' : Bundle) (r : Option ReadTerm) → Type 0
ReadsLet D text b h n b' r =
    (ps : List Part) (φ : Formula) (rest : List Lexeme) → lexemes_of text ≡ spell_parts true ps (spell φ (closes ∷ rest))
    → ReadOutcome (let_in (map (variable_of D true) ps) (terms_of D ps) (plain D φ)) (head_sort D φ) rest b h (suc n) b' r

-- parts, where the sort of the first is known or not
abbrev pub ReadsParts : (D : Bundle) (text : List ℕ) (b : Bundle) (h n : ℕ) (bound : Bool) (first : Option ℕ) (b' : Bundle) (st' : List ℕ)
    (r : Option ReadParts) → Type 0
ReadsParts D text b h n bound first b' st' r =
    (ps : List Part) (rest : List Lexeme) → lexemes_of text ≡ spell_parts bound ps rest
    → PartsOutcome (terms_of D ps) (map (variable_of D bound) ps) (length ps) (first_sort D first ps) rest b h n b' st' r

-- ---- a whole text

-- r, and the bundle b' after the call, are the records of the term of φ after b; or that term is too large
pub data TextOutcome (D : Bundle) (φ : Formula) (b b' : Bundle) (r : Option ReadTerm) : Type 0 where
  done : Within (own_counts (file (plain D φ) b).bundle) → (x : ReadTerm) → r ≡ Some x → ReadDone (plain D φ) (head_sort D φ) [] b b' x → TextOutcome D φ b b' r
  full : TooLarge (plain D φ) b 0 limits.terms → r ≡ None → TextOutcome D φ b b' r

abbrev pub ReadsText : (D : Bundle) (text : List ℕ) (b b' : Bundle) (r : Option ReadTerm) → Type 0
ReadsText D text b b' r = ((φ : Formula) → grammar.Reads text φ → TextOutcome D φ b b' r) × TermFits r

-- What is too large for the declarations alone does not fit: so the answer is 16 exactly where the text's job is not within the limits.
abbrev pub TooLargeNeverFits : Type 0
TooLargeNeverFits =
    (f text : List ℕ) (φ : Formula)
    → DeclarationsFormed f → ReadAs (bundle_of f) text φ → TooLarge (plain (bundle_of f) φ) (bundle_of f) 0 limits.terms → FitsLimits (bundle_of f) φ → ⊥
