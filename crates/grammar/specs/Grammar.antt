-- THE GRAMMAR of Req 01: formulas as they are written, how they are spelled, and which texts are in the grammar. Names are free.
use Rattle.std.specs.Prelude.{ℕ, suc, ◌<◌, ◌≡◌, Bool, List, [], ◌∷◌, ◌++◌, length, take}
use Rattle.logic.specs.Terms.{Binder}
use Rattle.grammar.specs.Bytes.{Class, space, lineEnd, semicolon, opening, closing, digit, symbol, other, SortWord, Connective, Word, constant}
use Rattle.grammar.specs.Bytes.{negation, connective, quantifier, letting, sort, name, class_of, word_of}

-- ---- formulas

-- a variable of a quantifier, with its sort
pub data SortedVariable : Type 0 where
  declares : List ℕ → SortWord → SortedVariable

mutual
  pub data Formula : Type 0 where
    -- v1 or f33
    called : List ℕ → Formula
    -- true or false
    truth : Bool → Formula
    -- '(', then this
    bracketed : Bracketed → Formula

  -- what stands between brackets
  pub data Bracketed : Type 0 where
    -- not φ
    denies : Formula → Bracketed
    -- and φ ψ; so or, => and =
    connects : Connective → Formula → Formula → Bracketed
    -- f33 φ ..: one argument or more
    applies : List ℕ → Formula → Formulas → Bracketed
    -- forall ((v1 Bool) ..) φ: one variable or more; so exists. No text spells a choice: proofs/Quantifiers.
    quantifies : Binder → SortedVariable → List SortedVariable → Formula → Bracketed
    -- let ((v1 φ) ..) ψ: one variable or more
    lets : List ℕ → Formula → Bindings → Formula → Bracketed

  pub data Formulas : Type 0 where
    no_formula : Formulas
    and_formula : Formula → Formulas → Formulas

  pub data Bindings : Type 0 where
    no_binding : Bindings
    and_binding : List ℕ → Formula → Bindings → Bindings

-- ---- how they are spelled

-- '(', ')', a word, and a byte that starts nothing
pub data Lexeme : Type 0 where
  opens : Lexeme
  closes : Lexeme
  word : Word → Lexeme
  stray : Lexeme

-- Each of these has the spelling, and then `rest`.
unfoldable pub spell_variable : SortedVariable → List Lexeme → List Lexeme
spell_variable (declares x s) rest = opens ∷ word (name x) ∷ word (sort s) ∷ closes ∷ rest

-- variables up to the closing bracket
unfoldable pub spell_variables : List SortedVariable → List Lexeme → List Lexeme
unfolding spell_variable
spell_variables [] rest = closes ∷ rest
spell_variables (x ∷ xs) rest = spell_variable x (spell_variables xs rest)

unfoldable mutual
  unfolding spell_variable spell_variables

  pub spell : Formula → List Lexeme → List Lexeme
  spell (called w) rest = word (name w) ∷ rest
  spell (truth v) rest = word (constant v) ∷ rest
  spell (bracketed b) rest = opens ∷ spell_bracketed b rest

  -- all after the opening bracket
  pub spell_bracketed : Bracketed → List Lexeme → List Lexeme
  spell_bracketed (denies φ) rest = word negation ∷ spell φ (closes ∷ rest)
  spell_bracketed (connects c φ ψ) rest = word (connective c) ∷ spell φ (spell ψ (closes ∷ rest))
  spell_bracketed (applies f φ φs) rest = word (name f) ∷ spell φ (spell_formulas φs rest)
  spell_bracketed (quantifies q x xs φ) rest = word (quantifier q) ∷ opens ∷ spell_variable x (spell_variables xs (spell φ (closes ∷ rest)))
  spell_bracketed (lets x φ xs ψ) rest = word letting ∷ opens ∷ opens ∷ word (name x) ∷ spell φ (closes ∷ spell_bindings xs (spell ψ (closes ∷ rest)))

  -- formulas up to the closing bracket
  pub spell_formulas : Formulas → List Lexeme → List Lexeme
  spell_formulas no_formula rest = closes ∷ rest
  spell_formulas (and_formula φ φs) rest = spell φ (spell_formulas φs rest)

  -- bindings up to the closing bracket
  pub spell_bindings : Bindings → List Lexeme → List Lexeme
  spell_bindings no_binding rest = closes ∷ rest
  spell_bindings (and_binding x φ xs) rest = opens ∷ word (name x) ∷ spell φ (closes ∷ spell_bindings xs rest)

unfoldable pub spelling : Formula → List Lexeme
unfolding spell
spelling φ = spell φ []

-- ---- bytes into lexemes

-- where the bytes so far end: between lexemes, in a comment, or in a run of symbol characters
pub data Mode : Type 0 where
  between comment : Mode
  within : List ℕ → Mode

-- what a byte ends there
unfoldable pub bracket : Class → List Lexeme
bracket space = []
bracket lineEnd = []
bracket semicolon = []
bracket opening = opens ∷ []
bracket closing = closes ∷ []
bracket digit = stray ∷ []
bracket symbol = []
bracket other = stray ∷ []

unfoldable pub ends : Mode → Class → List Lexeme
unfolding bracket word_of
ends between k = bracket k
ends comment k = []
ends (within w) space = word (word_of w) ∷ bracket space
ends (within w) lineEnd = word (word_of w) ∷ bracket lineEnd
ends (within w) semicolon = word (word_of w) ∷ bracket semicolon
ends (within w) opening = word (word_of w) ∷ bracket opening
ends (within w) closing = word (word_of w) ∷ bracket closing
ends (within w) digit = []
ends (within w) symbol = []
ends (within w) other = word (word_of w) ∷ bracket other

-- where the bytes end with it
unfoldable pub outside : ℕ → Class → Mode
outside c space = between
outside c lineEnd = between
outside c semicolon = comment
outside c opening = between
outside c closing = between
outside c digit = between
outside c symbol = within (c ∷ [])
outside c other = between

unfoldable pub onwards : Mode → ℕ → Class → Mode
unfolding outside
onwards between c k = outside c k
onwards comment c space = comment
onwards comment c lineEnd = between
onwards comment c semicolon = comment
onwards comment c opening = comment
onwards comment c closing = comment
onwards comment c digit = comment
onwards comment c symbol = comment
onwards comment c other = comment
onwards (within w) c space = outside c space
onwards (within w) c lineEnd = outside c lineEnd
onwards (within w) c semicolon = outside c semicolon
onwards (within w) c opening = outside c opening
onwards (within w) c closing = outside c closing
onwards (within w) c digit = within (w ++ (c ∷ []))
onwards (within w) c symbol = within (w ++ (c ∷ []))
onwards (within w) c other = outside c other

-- the text's end ends a run and a comment
unfoldable pub last : Mode → List Lexeme
unfolding word_of
last between = []
last comment = []
last (within w) = word (word_of w) ∷ []

unfoldable pub lexemes_from : Mode → List ℕ → List Lexeme
unfolding ends onwards last class_of
lexemes_from m [] = last m
lexemes_from m (c ∷ cs) = ends m (class_of c) ++ lexemes_from (onwards m c (class_of c)) cs

unfoldable pub lexemes : List ℕ → List Lexeme
unfolding lexemes_from
lexemes text = lexemes_from between text

-- ---- texts in the grammar

-- the text is a spelling of φ, with white space and comments
abbrev pub Reads : List ℕ → Formula → Type 0
Reads text φ = lexemes text ≡ spelling φ

abbrev pub InGrammar : List ℕ → Type 0
InGrammar text = (φ : Formula) × Reads text φ

-- some text in the grammar starts so
abbrev pub Continues : List ℕ → Type 0
Continues prefix = (suffix : List ℕ) × InGrammar (prefix ++ suffix)

-- the byte where no text in the grammar can continue, or the text's length if it stops too soon
pub data Unread (text : List ℕ) : ℕ → Type 0 where
  breaks : {n : ℕ} → n < length text → Continues (take n text) → ¬ (Continues (take (suc n) text)) → Unread text n
  stops : Continues text → ¬ (InGrammar text) → Unread text (length text)
