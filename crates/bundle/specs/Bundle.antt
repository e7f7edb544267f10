-- The bundle (document 01's word): six sections as lists of records of numbers, and the two claim words. Nothing here is checked: a number
-- that is no record's reads a record of zeros.
use Rattle.std.specs.Prelude.{ℕ, zero, suc, List, [], ◌∷◌, get_or}

-- the element of number n, counted from 1; d for 0 and for a number past the end
abbrev pub at {ℓ} : {A : Type ℓ} → A → List A → ℕ → A
at d xs zero = d
at d xs (suc i) = get_or xs i d

-- Link: value, next.
pub record Link : Type 0 where
  pub value : ℕ
  pub next : ℕ

-- Symbol: result sort, list of argument sorts.
pub record Symbol : Type 0 where
  pub result : ℕ
  pub sorts : ℕ

-- Term: kind, then three fields. Kind 1 variable (number a), 2 application (symbol a, list b of arguments), 3 for-all and 4 exists
-- (variable a, body b), 5 let (list a of variables, list b of bound terms, body c), 6 choice (variable a, body b).
pub record TermRecord : Type 0 where
  pub kind : ℕ
  pub a : ℕ
  pub b : ℕ
  pub c : ℕ

-- Context: kind, two fields, parent. Kind 1 fixes (variable a), 2 replaces (list a of variables, list b of terms).
pub record Context : Type 0 where
  pub kind : ℕ
  pub a : ℕ
  pub b : ℕ
  pub parent : ℕ

-- Step: rule, context, left, right, list of premises. Rule 1 REFL, 2 CONG, 3 TRANS, 4 BIND, 5 LET, 6 SKO for exists, 7 SKO for for-all.
pub record Step : Type 0 where
  pub rule : ℕ
  pub context : ℕ
  pub left : ℕ
  pub right : ℕ
  pub premises : ℕ

-- A variable's record is its sort. `left` and `right` are the claim.
pub record Bundle : Type 0 where
  pub version : ℕ
  pub symbols : List Symbol
  pub variables : List ℕ
  pub terms : List TermRecord
  pub links : List Link
  pub contexts : List Context
  pub steps : List Step
  pub left : ℕ
  pub right : ℕ

-- the records of zeros
abbrev pub no_symbol : Symbol
no_symbol = record { result = 0; sorts = 0 }

abbrev pub no_link : Link
no_link = record { value = 0; next = 0 }

abbrev pub no_term : TermRecord
no_term = record { kind = 0; a = 0; b = 0; c = 0 }

abbrev pub no_context : Context
no_context = record { kind = 0; a = 0; b = 0; parent = 0 }

abbrev pub no_step : Step
no_step = record { rule = 0; context = 0; left = 0; right = 0; premises = 0 }

-- the record of a number
abbrev pub symbol_of : Bundle → ℕ → Symbol
symbol_of b i = at no_symbol b.symbols i

abbrev pub sort_of_variable : Bundle → ℕ → ℕ
sort_of_variable b i = at 0 b.variables i

abbrev pub term_of : Bundle → ℕ → TermRecord
term_of b i = at no_term b.terms i

abbrev pub link_of : Bundle → ℕ → Link
link_of b i = at no_link b.links i

abbrev pub context_of : Bundle → ℕ → Context
context_of b i = at no_context b.contexts i

abbrev pub step_of : Bundle → ℕ → Step
step_of b i = at no_step b.steps i

-- Field k of a record, counted from 0. At a numeral k it computes to the field: `term_field r 0` is `r.kind`.
abbrev pub symbol_field : Symbol → ℕ → ℕ
symbol_field r k = get_or (r.result ∷ r.sorts ∷ []) k 0

abbrev pub link_field : Link → ℕ → ℕ
link_field r k = get_or (r.value ∷ r.next ∷ []) k 0

abbrev pub term_field : TermRecord → ℕ → ℕ
term_field r k = get_or (r.kind ∷ r.a ∷ r.b ∷ r.c ∷ []) k 0

abbrev pub context_field : Context → ℕ → ℕ
context_field r k = get_or (r.kind ∷ r.a ∷ r.b ∷ r.parent ∷ []) k 0

abbrev pub step_field : Step → ℕ → ℕ
step_field r k = get_or (r.rule ∷ r.context ∷ r.left ∷ r.right ∷ r.premises ∷ []) k 0
