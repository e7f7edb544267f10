-- The theorems of this crate, as types. proofs/ has each under the same name.
use Rattle.std.specs.Prelude.{ℕ, ◌≡◌, List, ◌↔◌, ◌⊎◌, Bool, true, length, take, drop, ◌≤◌, ◌<◌, ◌++◌, []}
use Rattle.std.proofs.Math.Option.{some}
use Rattle.grammar.specs.Grammar.{Formula, spelling, Reads, InGrammar, Unread}
use Rattle.grammar.specs.Names.{Name, names, called_of, met, Every, StandsIn, first_unknown, all_known, resolved, unread_at}
use Rattle.grammar.specs.Names.{Located, In, past_of, EndsRun, unknown_at, resolve}
use Rattle.grammar.specs.Parser.{read, unread, parse, judged}

-- Different formulas are spelled differently; so a text has one reading.
abbrev pub SpellingInjective : Type 0
SpellingInjective = (φ ψ : Formula) → spelling φ ≡ spelling ψ → φ ≡ ψ

abbrev pub OneReading : Type 0
OneReading = (text : List ℕ) (φ ψ : Formula) → Reads text φ → Reads text ψ → φ ≡ ψ

-- The parser reads φ if and only if the text is in the grammar, with the reading φ.
abbrev pub ReadExactly : Type 0
ReadExactly = (text : List ℕ) (φ : Formula) → (parse text ≡ read φ) ↔ Reads text φ

-- It says "unread" with a byte if and only if that is the byte where no text in the grammar can continue, or the text's length where the text stops too soon.
abbrev pub UnreadExactly : Type 0
UnreadExactly = (text : List ℕ) (n : ℕ) → (parse text ≡ unread n) ↔ Unread text n

-- ---- names

-- In a text that is read, the names met are those of its formula.
abbrev pub NamesMet : Type 0
NamesMet = (text : List ℕ) (φ : Formula) → Reads text φ → called_of (met text) ≡ names φ []

-- In any text they stand whole from their first bytes on, before the byte where the text is unread;
abbrev pub NamesStand : Type 0
NamesStand = (text : List ℕ) → Every (StandsIn text) (met text)

abbrev pub NamesBefore : Type 0
NamesBefore = (text : List ℕ) (n : ℕ) → Unread text n → Every (λ l. l.first < n) (met text)

-- and they, with the kinds due, are the first names of some formula that the text, up to there, can still become.
abbrev pub NamesDue : Type 0
NamesDue = (text : List ℕ) (n : ℕ) → Unread text n →
    (suffix : List ℕ) × (φ : Formula) × (later : List Name) × Reads (take n text ++ suffix) φ × (names φ [] ≡ called_of (met text) ++ later)

-- None is left out: of a name that ends before byte n, or at it where no run goes on there, the first n bytes decide whether it is met. So of every
-- formula that the text can still become up to the byte where it is unread, the names up to there are met in the text.
abbrev pub NamesAll : Type 0
NamesAll = (text suffix : List ℕ) (n : ℕ) (l : Located) → n ≤ length text → In l (met (take n text ++ suffix))
    → (past_of l < n) ⊎ ((past_of l ≡ n) × EndsRun (drop n text)) → In l (met text)

-- The answer with 19 and 20: a formula exactly where the text is read and its names are known; 19 exactly where it is unread and no name before
-- is unknown; 20 exactly at the first unknown name.
abbrev pub ResolvedExactly : Type 0
ResolvedExactly =
    (known : Name → Bool) (text : List ℕ) (φ : Formula) → (resolve known text ≡ resolved φ) ↔ (Reads text φ × (all_known known (names φ []) ≡ true))

abbrev pub UnreadFirst : Type 0
UnreadFirst =
    (known : Name → Bool) (text : List ℕ) (n : ℕ) → (resolve known text ≡ unread_at n) ↔ (Unread text n × (all_known known (called_of (met text)) ≡ true))

abbrev pub UnknownFirst : Type 0
UnknownFirst = (known : Name → Bool) (text : List ℕ) (n : ℕ) → (resolve known text ≡ unknown_at n) ↔ (first_unknown known (met text) ≡ some n)

-- ---- the parser that keeps no formula

-- Its outcome is "read" if and only if the text is in the grammar, and "unread" with a byte if and only if that is the byte.
abbrev pub JudgedExactly : Type 0
JudgedExactly = (text : List ℕ) → ((judged text ≡ read tt) ↔ InGrammar text) × ((n : ℕ) → (judged text ≡ unread n) ↔ Unread text n)
