-- THE THEOREMS: the parser reads exactly the texts in the grammar, and its byte of "unread" is the one that Req 01 names.
--     one_reading, read_exactly, unread_exactly
use Prim.Native.Nat.{ℕ, suc, ◌+◌, ◌≤◌, ◌<◌}
use native.Mathlib.Omega.{arith}
use native.Mathlib.Decide.{dec_lt}
use mathlib.Core.Path.{◌≡◌, refl, sym, ap, ◌∙◌}
use mathlib.Core.Bool.{Bool, true, false, cond, true≢false}
use mathlib.Core.List.{List, [], ◌∷◌, ◌++◌, append_assoc, append-nil}
use mathlib.Core.Option.{Option, none, some, none-ne-some, some-injective}
use lib.ListN.{length, take, drop, take-append-drop}
use lib.Seq.{take-take}
use Rattle.grammar.specs.Bytes.{class_of}
use Rattle.grammar.specs.Grammar.{Formula, Mode, ends, onwards, lexemes, Reads, InGrammar, Continues, Unread}
use Rattle.grammar.specs.Grammar.{breaks, stops}
use Rattle.grammar.specs.Parser.{Stack, and_then, feed, run, viable, State, enter, step, steps, finish, Outcome, read, unread, on_read}
use Rattle.grammar.specs.Parser.{on_step, parse_from, start, parse}
use Rattle.grammar.specs.Statements.{OneReading, ReadExactly, UnreadExactly}
use Rattle.grammar.proofs.Machine.{reads_spelling, spelling_injective, spelled}
use Rattle.grammar.proofs.Bytewise.{steps_append, agrees}
use Rattle.grammar.proofs.Completions.{goes_on_lem}

pub one_reading : OneReading
one_reading text φ ψ r s = spelling_injective φ ψ (sym r ∙ s)

-- ---- viable states

module _ {A : Type 0} where
  abbrev pub Viable : State A → Type 0
  Viable st = viable st.mode st.stack.due ≡ true

  enters : (m : Mode) (s : Stack A) (st : State A) → enter m s ≡ some st → Viable st
  unfolding enter
  enters m s st e = go (viable m s.due) refl e
    where
      go : (b : Bool) → viable m s.due ≡ b → cond b (some (record { mode = m; stack = s })) none ≡ some st → Viable st
      go true h e = rw (sym (some-injective (record { mode = m; stack = s }) st e)) h
      go false h e = absurd (none-ne-some st e)

  pub stays : (st : State A) (c : ℕ) (st' : State A) → step st c ≡ some st' → Viable st'
  unfolding step and_then
  stays st c st' e = go (feed (ends st.mode (class_of c)) st.stack) e
    where
      go : (o : Option (Stack A)) → and_then o (enter (onwards st.mode c (class_of c))) ≡ some st' → Viable st'
      go none e = absurd (none-ne-some st' e)
      go (some s) e = enters (onwards st.mode c (class_of c)) s st' e

  stays_all : (cs : List ℕ) (st st' : State A) → Viable st → steps cs st ≡ some st' → Viable st'
  unfolding steps and_then
  stays_all [] st st' v e = rw (sym (some-injective st st' e)) v
  stays_all (c ∷ cs) st st' v e = go (step st c) refl (λ st'' v''. stays_all cs st'' st' v'') e
    where
      go : (o : Option (State A)) → step st c ≡ o → ((st'' : State A) → Viable st'' → steps cs st'' ≡ some st' → Viable st')
          → and_then o (steps cs) ≡ some st' → Viable st'
      go none h rec e = absurd (none-ne-some st' e)
      go (some st'') h rec e = rec st'' (stays st c st'' h) e

-- ---- what the bytes so far say

accepts : (text : List ℕ) (φ : Formula) → Reads text φ → and_then (steps text start) finish ≡ some φ
unfolding lexemes start
accepts text φ r = agrees text start ∙ ap (λ ls. run ls start.stack) r ∙ reads_spelling φ

pub accepted : (text : List ℕ) (φ : Formula) → and_then (steps text start) finish ≡ some φ → Reads text φ
unfolding lexemes start
accepted text φ e = spelled (lexemes text) φ (sym (agrees text start) ∙ e)

dead : (p : List ℕ) → steps p start ≡ none → ¬ (Continues p)
unfolding and_then
dead p e c =
    let h : and_then (and_then (steps p start) (steps c.0)) finish ≡ some c.1.0 =
    rw (steps_append p c.0 start) at (accepts (p ++ c.0) c.1.0 c.1.1) in
    none-ne-some c.1.0 (rw e at h)

alive : (p : List ℕ) (st : State Formula) → steps p start ≡ some st → Continues p
unfolding and_then start viable
alive p st e =
    let g = goes_on_lem st.mode st.stack.due st.stack.back (stays_all p start st refl e) in
    let h : and_then (and_then (steps p start) (steps g.0)) finish ≡ some g.1 = rw e (agrees g.0 st ∙ g.2) in
    (g.0, (g.1, accepted (p ++ g.0) g.1 (rw (steps_append p g.0 start) h)))

-- ---- the parser

is_read : {A : Type 0} → Outcome A → Bool
is_read (read a) = true
is_read (unread n) = false

pub apart : {A : Type 0} (a : A) (n : ℕ) → ◌≡◌ {A = Outcome A} (read a) (unread n) → ⊥
unfolding is_read
apart a n e = true≢false (ap is_read e)

-- the parser on cs from st, at byte n, stops at byte m
data Stopped {A : Type 0} (n : ℕ) (cs : List ℕ) (st : State A) (m : ℕ) : Type 0 where
  at_byte : (i : ℕ) (st' : State A) → m ≡ n + i → i < length cs → steps (take i cs) st ≡ some st' → steps (take (suc i) cs) st ≡ none → Stopped n cs st m
  at_end_lem : (st' : State A) → m ≡ n + length cs → steps cs st ≡ some st' → finish st' ≡ none → Stopped n cs st m

module _ {A : Type 0} where
  further : (c : ℕ) (cs : List ℕ) (n m : ℕ) (st st' : State A) → step st c ≡ some st' → Stopped (suc n) cs st' m → Stopped n (c ∷ cs) st m
  unfolding steps and_then
  further c cs n m st st' h (at_byte i s e l y z) = at_byte (suc i) s (omega arith) (omega arith) (rw h y) (rw h z)
  further c cs n m st st' h (at_end_lem s e y z) = at_end_lem s (omega arith) (rw h y) z

  stopped : (cs : List ℕ) (n m : ℕ) (st : State A) → parse_from n cs st ≡ unread m → Stopped n cs st m
  unfolding parse_from on_read on_step steps and_then
  stopped [] n m st e = go (finish st) refl e
    where
      go : (o : Option A) → finish st ≡ o → on_read n o ≡ unread m → Stopped n [] st m
      go none h e = let q : n ≡ m = cc in at_end_lem st (omega arith) refl h
      go (some a) h e = absurd (apart a m e)
  stopped (c ∷ cs) n m st e = go (step st c) refl (stopped cs (suc n) m) e
    where
      go : (o : Option (State A)) → step st c ≡ o → ((st' : State A) → parse_from (suc n) cs st' ≡ unread m → Stopped (suc n) cs st' m)
          → on_step n o (parse_from (suc n) cs) ≡ unread m → Stopped n (c ∷ cs) st m
      go none h rec e = let q : n ≡ m = cc in at_byte 0 st (omega arith) (omega arith) refl (rw h)
      go (some st') h rec e = further c cs n m st st' h (rec st' e)

  read_parsed : (cs : List ℕ) (n : ℕ) (st : State A) (a : A) → parse_from n cs st ≡ read a → and_then (steps cs st) finish ≡ some a
  unfolding parse_from on_read on_step steps and_then
  read_parsed [] n st a e = go (finish st) e
    where
      go : (o : Option A) → on_read n o ≡ read a → o ≡ some a
      go none e = absurd (apart a n (sym e))
      go (some b) e = cc
  read_parsed (c ∷ cs) n st a e = go (step st c) (λ st'. read_parsed cs (suc n) st' a) e
    where
      go : (o : Option (State A)) → ((st' : State A) → parse_from (suc n) cs st' ≡ read a → and_then (steps cs st') finish ≡ some a)
          → on_step n o (parse_from (suc n) cs) ≡ read a → and_then (and_then o (steps cs)) finish ≡ some a
      go none rec e = absurd (apart a n (sym e))
      go (some st') rec e = rec st' e

  parsed_read : (cs : List ℕ) (n : ℕ) (st : State A) (a : A) → and_then (steps cs st) finish ≡ some a → parse_from n cs st ≡ read a
  unfolding parse_from on_read on_step steps and_then
  parsed_read [] n st a e = rw e
  parsed_read (c ∷ cs) n st a e = go (step st c) (λ st'. parsed_read cs (suc n) st' a) e
    where
      go : (o : Option (State A)) → ((st' : State A) → and_then (steps cs st') finish ≡ some a → parse_from (suc n) cs st' ≡ read a)
          → and_then (and_then o (steps cs)) finish ≡ some a → on_step n o (parse_from (suc n) cs) ≡ read a
      go none rec e = absurd (none-ne-some a e)
      go (some st') rec e = rec st' e

-- ---- the texts that are read

pub read_exactly : ReadExactly
unfolding parse
read_exactly text φ = (λ e. accepted text φ (read_parsed text 0 start φ e), λ r. parsed_read text 0 start φ (accepts text φ r))

-- ---- the byte of "unread"

shorter : (p q : List ℕ) → Continues (p ++ q) → Continues p
shorter p q c = (q ++ c.0, (c.1.0, rw append_assoc at c.1.1))

-- what goes on, goes on from each shorter start
take_shorter : (i : ℕ) (text : List ℕ) → Continues text → Continues (take i text)
take_shorter i text c = shorter (take i text) (drop i text) (rw (take-append-drop i text) c)

take_lower : (i j : ℕ) (text : List ℕ) → i ≤ j → Continues (take j text) → Continues (take i text)
take_lower i j text h c = rw (take-take i j text h) at (take_shorter i (take j text) c)

same_break : (text : List ℕ) (n m : ℕ) → Continues (take n text) → ¬ (Continues (take (suc n) text)) → Continues (take m text)
    → ¬ (Continues (take (suc m) text)) → n ≡ m
same_break text n m y z y' z' = go (dec_lt n m) (dec_lt m n)
  where
    go : Dec (n < m) → Dec (m < n) → n ≡ m
    go (yes h) d = absurd (z (take_lower (suc n) m text h y'))
    go (no h) (yes h') = absurd (z' (take_lower (suc m) n text h' y))
    go (no h) (no h') = omega arith

unread_one : (text : List ℕ) (n m : ℕ) → Unread text n → Unread text m → n ≡ m
unread_one text n m (breaks l y z) (breaks l' y' z') = same_break text n m y z y' z'
unread_one text n m (breaks l y z) (stops y' z') = absurd (z (take_shorter (suc n) text y'))
unread_one text n m (stops y z) (breaks l' y' z') = absurd (z' (take_shorter (suc m) text y))
unread_one text n m (stops y z) (stops y' z') = refl

unread_parsed : (text : List ℕ) (m : ℕ) → Stopped 0 text start m → Unread text m
unfolding and_then
unread_parsed text m (at_byte i st e l y z) =
    let q : m ≡ i = omega arith in
    rw q (breaks l (alive (take i text) st y) (dead (take (suc i) text) z))
unread_parsed text m (at_end_lem st e y z) =
    let q : m ≡ length text = omega arith in
    rw q (stops (alive text st y) (λ g. none-ne-some g.0 (sym z ∙ (rw y at (accepts text g.0 g.1)))))

-- a text that is read has no byte where it is unread
pub not_both : (text : List ℕ) (n : ℕ) → InGrammar text → Unread text n → ⊥
not_both text n g (breaks l y z) = z (take_shorter (suc n) text ([], (g.0, rw append-nil g.1)))
not_both text n g (stops y z) = z g

pub unread_exactly : UnreadExactly
unfolding parse
unread_exactly text n = (there, λ u. go (parse text) refl u)
  where
    there : parse text ≡ unread n → Unread text n
    there e = unread_parsed text n (stopped text 0 n start e)

    go : (o : Outcome Formula) → parse text ≡ o → Unread text n → parse text ≡ unread n
    go (read φ) e u = absurd (not_both text n (φ, (read_exactly text φ).0 e) u)
    go (unread m) e u = e ∙ ap unread (unread_one text m n (unread_parsed text m (stopped text 0 m start e)) u)
