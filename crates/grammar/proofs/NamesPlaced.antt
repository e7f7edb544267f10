-- Where the names that are met stand.
--     names_stand     whole, from their first bytes on
--     names_before    before the byte where the text is unread
--     names_all       none of them is left out
--     names_due       as the first names of a formula that the text can still become
use Prim.Native.Nat.{ℕ, suc, ◌+◌, ◌-◌, ◌≤◌, ◌<◌}
use native.Mathlib.Omega.{arith}
use mathlib.Core.Path.{◌≡◌, refl, sym, ap, ◌∙◌, subst}
use mathlib.Core.Bool.{Bool, true, false, cond, false≢true}
use mathlib.Core.List.{List, [], ◌∷◌, ◌++◌, append_assoc, append-nil}
use mathlib.Core.Logic.{◌⊎◌, inl, inr}
use mathlib.Core.Option.{Option, none, some, none-ne-some, some-injective}
use lib.ListN.{length, take, drop, length-append, take-append-drop}
use lib.Seq.{length-take-le}
use Rattle.grammar.specs.Bytes.{Class, space, lineEnd, semicolon, opening, closing, digit, symbol, other, Word, constant, negation, connective}
use Rattle.grammar.specs.Bytes.{quantifier, letting, sort, name, twelve, class_of, word_of}
use Rattle.grammar.specs.Grammar.{word, bracket, Mode, between, comment, within, outside, onwards, ends, lexemes_from}
use Rattle.grammar.specs.Parser.{Due, formula, formulas, inside, opener, closer, sorted, sorteds, bound, bounds, variable, sortName, Fill}
use Rattle.grammar.specs.Parser.{Stack, Move, advance, on_formula, on_formulas, on_inside, on_variable, push, takes, may_grow, and_then, feed, run}
use Rattle.grammar.specs.Parser.{viable, State, enter, step, steps, finish, unread, on_read, on_step, parse_from, start, parse}
use Rattle.grammar.specs.Names.{Place, Name, name_at, word_at, met_at, Located, locate, called_of, ends_at, ended_by, while_steps, met_from, met}
use Rattle.grammar.specs.Names.{Every, In, past_of, in_run, EndsRun, StandsIn}
use Rattle.grammar.specs.Statements.{NamesStand, NamesBefore, NamesAll, NamesDue}
use Rattle.grammar.proofs.Exact.{unread_exactly, accepted, apart, Viable, stays}
use Rattle.grammar.proofs.Bytewise.{agrees}
use Rattle.grammar.proofs.Completions.{goes_on_lem, supplied}
use Rattle.grammar.proofs.NamesMet.{called_append, names_met}
use Rattle.grammar.proofs.Words.{among}

-- ---- what the bytes so far say of a run

-- the run so far is the last of the bytes p
abbrev Held : List ℕ → Mode → Type 0
Held p between = Unit {0}
Held p comment = Unit {0}
Held p (within w) = (q : List ℕ) × (p ≡ q ++ w) × (0 < length w)

held_outside : (p : List ℕ) (c : ℕ) (k : Class) → Held (p ++ (c ∷ [])) (outside c k)
unfolding outside
held_outside p c space = tt
held_outside p c lineEnd = tt
held_outside p c semicolon = tt
held_outside p c opening = tt
held_outside p c closing = tt
held_outside p c digit = tt
held_outside p c symbol = (p, refl, omega arith)
held_outside p c other = tt

held_longer : (p : List ℕ) (c : ℕ) (w : List ℕ) → Held p (within w) → Held (p ++ (c ∷ [])) (within (w ++ (c ∷ [])))
held_longer p c w h = (h.0, ap (◌++ (c ∷ [])) h.1 ∙ append_assoc h.0 w (c ∷ []), omega (arith, length-append w (c ∷ [])))

held_on : (p : List ℕ) (m : Mode) (c : ℕ) (k : Class) → Held p m → Held (p ++ (c ∷ [])) (onwards m c k)
unfolding onwards
held_on p between c k h = held_outside p c k
held_on p comment c space h = tt
held_on p comment c lineEnd h = tt
held_on p comment c semicolon h = tt
held_on p comment c opening h = tt
held_on p comment c closing h = tt
held_on p comment c digit h = tt
held_on p comment c symbol h = tt
held_on p comment c other h = tt
held_on p (within w) c space h = held_outside p c space
held_on p (within w) c lineEnd h = held_outside p c lineEnd
held_on p (within w) c semicolon h = held_outside p c semicolon
held_on p (within w) c opening h = held_outside p c opening
held_on p (within w) c closing h = held_outside p c closing
held_on p (within w) c digit h = held_longer p c w h
held_on p (within w) c symbol h = held_longer p c w h
held_on p (within w) c other h = held_outside p c other

module _ {A : Type 0} where
  -- a step goes to the mode that the byte leads to
  entered : (m : Mode) (s : Stack A) (st : State A) → enter m s ≡ some st → st.mode ≡ m
  unfolding enter
  entered m s st e = go (viable m s.due) e
    where
      go : (b : Bool) → cond b (some (record { mode = m; stack = s })) none ≡ some st → st.mode ≡ m
      go true e = ap (λ s. s.mode) (sym (some-injective (record { mode = m; stack = s }) st e))
      go false e = absurd (none-ne-some st e)

  stepped : (st : State A) (c : ℕ) (st' : State A) → step st c ≡ some st' → st'.mode ≡ onwards st.mode c (class_of c)
  unfolding step and_then
  stepped st c st' e = go (feed (ends st.mode (class_of c)) st.stack) e
    where
      go : (o : Option (Stack A)) → and_then o (enter (onwards st.mode c (class_of c))) ≡ some st' → st'.mode ≡ onwards st.mode c (class_of c)
      go none e = absurd (none-ne-some st' e)
      go (some s) e = entered (onwards st.mode c (class_of c)) s st' e

-- ---- lists of located names

every_append : (P : Located → Type 0) (xs ys : List Located) → Every P xs → Every P ys → Every P (xs ++ ys)
every_append P [] ys h k = k
every_append P (x ∷ xs) ys h k = (h.0, every_append P xs ys h.1 k)

-- the name that a word is met as is spelled as the run
name_spelled : (P : Located → Type 0) (n : ℕ) (d : Due) (w : List ℕ)
    → ((p : Place) → P (record { first = n; called = record { place = p; spelled = w } })) → Every P (locate n (name_at d w))
unfolding name_at locate
name_spelled P n formula w h = (h _, tt)
name_spelled P n formulas w h = (h _, tt)
name_spelled P n inside w h = (h _, tt)
name_spelled P n opener w h = tt
name_spelled P n closer w h = tt
name_spelled P n sorted w h = tt
name_spelled P n sorteds w h = tt
name_spelled P n bound w h = tt
name_spelled P n bounds w h = tt
name_spelled P n variable w h = (h _, tt)
name_spelled P n sortName w h = tt

word_spelled : (P : Located → Type 0) (n : ℕ) (σ : List Due) (w : List ℕ)
    → ((p : Place) → P (record { first = n; called = record { place = p; spelled = w } })) → Every P (locate n (met_at σ (word_of w)))
unfolding met_at locate word_of twelve word_at
word_spelled P n [] w h = tt
word_spelled P n (d ∷ σ) w h =
    among (λ v. Every P (locate n (word_at d v))) w (name_spelled P n d w h) twelve
    (λ e. tt, (λ e. tt, (λ e. tt, (λ e. tt, (λ e. tt, (λ e. tt, (λ e. tt, (λ e. tt, (λ e. tt, (λ e. tt, (λ e. tt, (λ e. tt, tt))))))))))))

ended_every : (P : Located → Type 0) (k : Class) (n : ℕ) (m : Mode) (σ : List Due) → (in_run k ≡ false → Every P (ends_at n m σ)) → Every P (ended_by k n m σ)
unfolding ended_by in_run
ended_every P space n m σ h = h refl
ended_every P lineEnd n m σ h = h refl
ended_every P semicolon n m σ h = h refl
ended_every P opening n m σ h = h refl
ended_every P closing n m σ h = h refl
ended_every P digit n m σ h = tt
ended_every P symbol n m σ h = tt
ended_every P other n m σ h = h refl

-- ---- they stand in the text

ends_stand : (p after : List ℕ) (m : Mode) (σ : List Due) → Held p m → EndsRun after → Every (StandsIn (p ++ after)) (ends_at (length p) m σ)
unfolding ends_at
ends_stand p after between σ h e = tt
ends_stand p after comment σ h e = tt
ends_stand p after (within w) σ h e =
    word_spelled (StandsIn (p ++ after)) (length p - length w) σ w
    (λ pl. record {
      before = h.0;
      after = after;
      parts = ap (◌++ after) h.1 ∙ append_assoc h.0 w after;
      place = omega (arith, length-append h.0 w, ap length h.1);
      whole = e;
    })

module _ {A : Type 0} where
  stand : (cs p : List ℕ) (st : State A) → Held p st.mode → Every (StandsIn (p ++ cs)) (met_from (length p) cs st)
  unfolding met_from while_steps
  stand [] p st h = ends_stand p [] st.mode st.stack.due h tt
  stand (c ∷ cs) p st h =
      every_append (StandsIn (p ++ (c ∷ cs))) (ended_by (class_of c) (length p) st.mode st.stack.due)
      (while_steps (step st c) (met_from (suc (length p)) cs))
      (ended_every (StandsIn (p ++ (c ∷ cs))) (class_of c) (length p) st.mode st.stack.due (λ e. ends_stand p (c ∷ cs) st.mode st.stack.due h e))
      (go (step st c) refl (stand cs (p ++ (c ∷ []))))
    where
      go : (o : Option (State A)) → step st c ≡ o
          → ((st' : State A) → Held (p ++ (c ∷ [])) st'.mode → Every (StandsIn (p ++ (c ∷ []) ++ cs)) (met_from (length (p ++ (c ∷ []))) cs st'))
          → Every (StandsIn (p ++ (c ∷ cs))) (while_steps o (met_from (suc (length p)) cs))
      go none e f = tt
      go (some st') e f =
          let n : length (p ++ (c ∷ [])) ≡ suc (length p) = omega (arith, length-append p (c ∷ [])) in
          let l : p ++ (c ∷ []) ++ cs ≡ p ++ (c ∷ cs) = append_assoc p (c ∷ []) cs in
          rw (n, l) at (f st' (rw (stepped st c st' e) (held_on p st.mode c (class_of c) h)))

pub names_stand : NamesStand
unfolding met start
names_stand text = stand text [] start tt

-- ---- before the byte where the text is unread

ends_before : (p : List ℕ) (m : Mode) (σ : List Due) (u : ℕ) → Held p m → length p ≤ u → Every (λ l. l.first < u) (ends_at (length p) m σ)
unfolding ends_at
ends_before p between σ u h e = tt
ends_before p comment σ u h e = tt
ends_before p (within w) σ u h e =
    word_spelled (λ l. l.first < u) (length p - length w) σ w (λ pl. omega (arith, length-append h.0 w, ap length h.1, h.2))

module _ {A : Type 0} where
  at_least : (cs : List ℕ) (n m : ℕ) (st : State A) → parse_from n cs st ≡ unread m → n ≤ m
  unfolding parse_from on_read on_step
  at_least [] n m st e = go (finish st) e
    where
      go : (o : Option A) → on_read n o ≡ unread m → n ≤ m
      go none e = let q : n ≡ m = cc in omega arith
      go (some a) e = absurd (apart a m e)
  at_least (c ∷ cs) n m st e = go (step st c) (at_least cs (suc n) m) e
    where
      go : (o : Option (State A)) → ((st' : State A) → parse_from (suc n) cs st' ≡ unread m → suc n ≤ m) → on_step n o (parse_from (suc n) cs) ≡ unread m → n ≤ m
      go none f e = let q : n ≡ m = cc in omega arith
      go (some st') f e = let h = f st' e in omega arith

  befores : (cs p : List ℕ) (st : State A) (u : ℕ) → Held p st.mode → parse_from (length p) cs st ≡ unread u
      → Every (λ l. l.first < u) (met_from (length p) cs st)
  unfolding met_from while_steps parse_from on_step
  befores [] p st u h e = ends_before p st.mode st.stack.due u h (at_least [] (length p) u st e)
  befores (c ∷ cs) p st u h e =
      every_append (λ l. l.first < u) (ended_by (class_of c) (length p) st.mode st.stack.due) (while_steps (step st c) (met_from (suc (length p)) cs))
      (ended_every (λ l. l.first < u) (class_of c) (length p) st.mode st.stack.due
      (λ q. ends_before p st.mode st.stack.due u h (at_least (c ∷ cs) (length p) u st e)))
      (go (step st c) refl (λ st'. befores cs (p ++ (c ∷ [])) st' u) e)
    where
      go : (o : Option (State A)) → step st c ≡ o
          → ((st' : State A) → Held (p ++ (c ∷ [])) st'.mode → parse_from (length (p ++ (c ∷ []))) cs st' ≡ unread u
          → Every (λ l. l.first < u) (met_from (length (p ++ (c ∷ []))) cs st'))
          → on_step (length p) o (parse_from (suc (length p)) cs) ≡ unread u → Every (λ l. l.first < u) (while_steps o (met_from (suc (length p)) cs))
      go none q f e = tt
      go (some st') q f e =
          let n : length (p ++ (c ∷ [])) ≡ suc (length p) = omega (arith, length-append p (c ∷ [])) in
          rw n at (f st' (rw (stepped st c st' q) (held_on p st.mode c (class_of c) h)) (rw n e))

pub names_before : NamesBefore
unfolding met start parse
names_before text n u = befores text [] start n tt ((unread_exactly text n).1 u)

-- ---- none is left out

in_append : (l : Located) (xs ys : List Located) → In l (xs ++ ys) → In l xs ⊎ In l ys
in_append l [] ys h = inr h
in_append l (x ∷ xs) ys (inl e) = inl (inl e)
in_append l (x ∷ xs) ys (inr h) = go (in_append l xs ys h)
  where
    go : In l xs ⊎ In l ys → In l (x ∷ xs) ⊎ In l ys
    go (inl a) = inl (inr a)
    go (inr b) = inr b

in_left : (l : Located) (xs ys : List Located) → In l xs → In l (xs ++ ys)
in_left l [] ys x' = elim x' [ ]
in_left l (x ∷ xs) ys (inl e) = inl e
in_left l (x ∷ xs) ys (inr h) = inr (in_left l xs ys h)

in_right : (l : Located) (xs ys : List Located) → In l ys → In l (xs ++ ys)
in_right l [] ys h = h
in_right l (x ∷ xs) ys h = inr (in_right l xs ys h)

every_in : (P : Located → Type 0) (ls : List Located) (l : Located) → Every P ls → In l ls → P l
every_in P [] l h x'' = elim x'' [ ]
every_in P (m ∷ ms) l h (inl e) = subst P (sym e) h.0
every_in P (m ∷ ms) l h (inr i) = every_in P ms l h.1 i

-- a name that ends here ends no sooner
ends_late : (p : List ℕ) (m : Mode) (σ : List Due) (u : ℕ) → Held p m → u ≤ length p → Every (λ l. u ≤ past_of l) (ends_at (length p) m σ)
unfolding ends_at
ends_late p between σ u h e = tt
ends_late p comment σ u h e = tt
ends_late p (within w) σ u h e = word_spelled (λ l. u ≤ past_of l) (length p - length w) σ w (λ pl. omega arith)

-- what a byte ends is what ends before it, where it ends a run
by_ends : (k : Class) (n : ℕ) (m : Mode) (σ : List Due) (l : Located) → In l (ended_by k n m σ) → In l (ends_at n m σ)
unfolding ended_by
by_ends space n m σ l h = h
by_ends lineEnd n m σ l h = h
by_ends semicolon n m σ l h = h
by_ends opening n m σ l h = h
by_ends closing n m σ l h = h
by_ends digit n m σ l h = absurd h
by_ends symbol n m σ l h = absurd h
by_ends other n m σ l h = h

ends_by : (k : Class) (n : ℕ) (m : Mode) (σ : List Due) (l : Located) → in_run k ≡ false → In l (ends_at n m σ) → In l (ended_by k n m σ)
unfolding ended_by in_run
ends_by space n m σ l e h = h
ends_by lineEnd n m σ l e h = h
ends_by semicolon n m σ l e h = h
ends_by opening n m σ l e h = h
ends_by closing n m σ l e h = h
ends_by digit n m σ l e h = absurd (false≢true (sym e))
ends_by symbol n m σ l e h = absurd (false≢true (sym e))
ends_by other n m σ l e h = h

module _ {A : Type 0} where
  lates : (cs p : List ℕ) (st : State A) (u : ℕ) → Held p st.mode → u ≤ length p → Every (λ l. u ≤ past_of l) (met_from (length p) cs st)
  unfolding met_from while_steps
  lates [] p st u h e = ends_late p st.mode st.stack.due u h e
  lates (c ∷ cs) p st u h e =
      every_append (λ l. u ≤ past_of l) (ended_by (class_of c) (length p) st.mode st.stack.due) (while_steps (step st c) (met_from (suc (length p)) cs))
      (ended_every (λ l. u ≤ past_of l) (class_of c) (length p) st.mode st.stack.due (λ q. ends_late p st.mode st.stack.due u h e))
      (go (step st c) refl (λ st'. lates cs (p ++ (c ∷ [])) st' u))
    where
      go : (o : Option (State A)) → step st c ≡ o
          → ((st' : State A) → Held (p ++ (c ∷ [])) st'.mode → u ≤ length (p ++ (c ∷ [])) → Every (λ l. u ≤ past_of l) (met_from (length (p ++ (c ∷ []))) cs st'))
          → Every (λ l. u ≤ past_of l) (while_steps o (met_from (suc (length p)) cs))
      go none q f = tt
      go (some st') q f =
          let n : length (p ++ (c ∷ [])) ≡ suc (length p) = omega (arith, length-append p (c ∷ [])) in
          rw n at (f st' (rw (stepped st c st' q) (held_on p st.mode c (class_of c) h)) (omega (arith, n)))

  -- a name that ends here, whatever bytes come, ended here
  here : (cs p : List ℕ) (st : State A) (l : Located) → Held p st.mode → In l (met_from (length p) cs st) → past_of l ≤ length p
      → In l (ends_at (length p) st.mode st.stack.due)
  unfolding met_from while_steps
  here [] p st l h i e = i
  here (c ∷ cs) p st l h i e =
      go (in_append l (ended_by (class_of c) (length p) st.mode st.stack.due) (while_steps (step st c) (met_from (suc (length p)) cs)) i)
    where
      later : (o : Option (State A)) → step st c ≡ o → In l (while_steps o (met_from (suc (length p)) cs)) → ⊥
      later none q b = b
      later (some st') q b =
          let n : length (p ++ (c ∷ [])) ≡ suc (length p) = omega (arith, length-append p (c ∷ [])) in
          let held : Held (p ++ (c ∷ [])) st'.mode = rw (stepped st c st' q) (held_on p st.mode c (class_of c) h) in
          let past : Every (λ l. suc (length p) ≤ past_of l) (met_from (suc (length p)) cs st') =
          rw n at (lates cs (p ++ (c ∷ [])) st' (suc (length p)) held (omega (arith, n))) in
          omega (arith, every_in (λ l. suc (length p) ≤ past_of l) (met_from (suc (length p)) cs st') l past b, e)

      go : In l (ended_by (class_of c) (length p) st.mode st.stack.due) ⊎ In l (while_steps (step st c) (met_from (suc (length p)) cs))
          → In l (ends_at (length p) st.mode st.stack.due)
      go (inl a) = by_ends (class_of c) (length p) st.mode st.stack.due l a
      go (inr b) = absurd (later (step st c) refl b)

  -- and so it is met before other bytes that go on no run
  there : (cs p : List ℕ) (st : State A) (l : Located) → EndsRun cs → In l (ends_at (length p) st.mode st.stack.due) → In l (met_from (length p) cs st)
  unfolding met_from
  there [] p st l e i = i
  there (c ∷ cs) p st l e i =
      in_left l (ended_by (class_of c) (length p) st.mode st.stack.due) (while_steps (step st c) (met_from (suc (length p)) cs))
      (ends_by (class_of c) (length p) st.mode st.stack.due l e i)

  -- the bytes ds, and then s or t
  kept : (ds s t p : List ℕ) (st : State A) (l : Located) → Held p st.mode → In l (met_from (length p) (ds ++ s) st)
      → (past_of l < length p + length ds) ⊎ ((past_of l ≡ length p + length ds) × EndsRun t) → In l (met_from (length p) (ds ++ t) st)
  unfolding met_from while_steps
  kept [] s t p st l h i (inl e) = absurd (omega (
    arith,
    every_in (λ l. length p ≤ past_of l) (met_from (length p) s st) l (lates s p st (length p) h
        (omega arith)) i,
    e,
  ))
  kept [] s t p st l h i (inr e) = there t p st l e.1 (here s p st l h i (omega (arith, e.0)))
  kept (c ∷ ds) s t p st l h i e =
      go (in_append l (ended_by (class_of c) (length p) st.mode st.stack.due) (while_steps (step st c) (met_from (suc (length p)) (ds ++ s))) i)
      (λ st' held j. kept ds s t (p ++ (c ∷ [])) st' l held j (moved e))
    where
      n : length (p ++ (c ∷ [])) ≡ suc (length p)
      n = omega (arith, length-append p (c ∷ []))

      moved : (past_of l < length p + length (c ∷ ds)) ⊎ ((past_of l ≡ length p + length (c ∷ ds)) × EndsRun t)
          → (past_of l < length (p ++ (c ∷ [])) + length ds) ⊎ ((past_of l ≡ length (p ++ (c ∷ [])) + length ds) × EndsRun t)
      moved (inl a) = inl (omega (arith, n, a))
      moved (inr a) = inr (omega (arith, n, a.0), a.1)

      later : (o : Option (State A)) → step st c ≡ o → ((st' : State A) → Held (p ++ (c ∷ [])) st'.mode
          → In l (met_from (length (p ++ (c ∷ []))) (ds ++ s) st') → In l (met_from (length (p ++ (c ∷ []))) (ds ++ t) st'))
          → In l (while_steps o (met_from (suc (length p)) (ds ++ s))) → In l (while_steps o (met_from (suc (length p)) (ds ++ t)))
      later none q f b = b
      later (some st') q f b =
          rw n at (f st' (rw (stepped st c st' q) (held_on p st.mode c (class_of c) h)) (rw n b))

      go : In l (ended_by (class_of c) (length p) st.mode st.stack.due) ⊎ In l (while_steps (step st c) (met_from (suc (length p)) (ds ++ s)))
          → ((st' : State A) → Held (p ++ (c ∷ [])) st'.mode → In l (met_from (length (p ++ (c ∷ []))) (ds ++ s) st')
          → In l (met_from (length (p ++ (c ∷ []))) (ds ++ t) st')) → In l (met_from (length p) (c ∷ ds ++ t) st)
      go (inl a) f = in_left l (ended_by (class_of c) (length p) st.mode st.stack.due) (while_steps (step st c) (met_from (suc (length p)) (ds ++ t))) a
      go (inr b) f = in_right l (ended_by (class_of c) (length p) st.mode st.stack.due) (while_steps (step st c) (met_from (suc (length p)) (ds ++ t)))
          (later (step st c) refl f b)

pub names_all : NamesAll
unfolding met start
names_all text suffix n l le i past =
    let m : length (take n text) ≡ n = length-take-le n text le in
    subst (λ (t : List ℕ). In l (met t)) (take-append-drop n text)
    (kept (take n text) suffix (drop n text) [] start l tt i (go past))
  where
    go : (past_of l < n) ⊎ ((past_of l ≡ n) × EndsRun (drop n text)) → (past_of l < 0 + length (take n text)) ⊎ ((past_of l ≡ 0 + length (take n text)) × EndsRun
        (drop n text))
    go (inl a) = inl (omega (arith, a, length-take-le n text le))
    go (inr a) = inr (omega (arith, a.0, length-take-le n text le), a.1)

-- ---- as the first names of a formula

named_move : (d : Due) (v : List ℕ) → (name_at d v ≡ []) ⊎ ((m : Move d) × (advance d (word (name v)) ≡ some m))
unfolding name_at advance on_formula on_formulas on_inside on_variable
named_move formula v = inr (_, refl)
named_move formulas v = inr (_, refl)
named_move inside v = inr (_, refl)
named_move opener v = inl refl
named_move closer v = inl refl
named_move sorted v = inl refl
named_move sorteds v = inl refl
named_move bound v = inl refl
named_move bounds v = inl refl
named_move variable v = inr (_, refl)
named_move sortName v = inl refl

word_move : (d : Due) (v : Word) → (word_at d v ≡ []) ⊎ ((m : Move d) × (advance d (word v) ≡ some m))
unfolding word_at
word_move d (constant b) = inl refl
word_move d negation = inl refl
word_move d (connective c) = inl refl
word_move d (quantifier q) = inl refl
word_move d letting = inl refl
word_move d (sort s) = inl refl
word_move d (name w) = named_move d w

module _ {A : Type 0} where
  -- the text goes on from here so that the name that ends here is met first
  abbrev Duly : ℕ → List Located → List ℕ → State A → Type 0
  Duly n ls cs st =
      (suffix : List ℕ) × (a : A) × (later : List Name)
      × (and_then (steps (cs ++ suffix) st) finish ≡ some a)
      × (called_of (met_from n (cs ++ suffix) st) ≡ called_of ls ++ later)

  anyhow : (n : ℕ) (ls : List Located) (st : State A) → Viable st → ls ≡ [] → Duly n ls [] st
  unfolding called_of
  anyhow n ls st v e =
      let g = goes_on_lem st.mode st.stack.due st.stack.back v in
      (g.0, g.1, called_of (met_from n g.0 st), agrees g.0 st ∙ g.2, rw e)

  word_duly : (n : ℕ) (w : List ℕ) (d : Due) (σ : List Due) (k : Fill (d ∷ σ) → A) (m : Move d) → advance d (word (word_of w)) ≡ some m
      → Duly n (ends_at n (within w) (d ∷ σ)) [] (record { mode = within w; stack = record { due = d ∷ σ; back = k } })
  unfolding lexemes_from class_of ends bracket onwards outside run feed takes and_then met_from ended_by
  word_duly n w d σ k m e =
      let s : Stack A = push d σ k m in
      let st : State A = record { mode = within w; stack = record { due = d ∷ σ; back = k } } in
      let r = supplied s.due s.back in (
        32 ∷ r.0,
        r.1,
        called_of (while_steps (step st 32) (met_from (suc n) r.0)),
        agrees (32 ∷ r.0) st ∙ rw e r.2,
        called_append (ends_at n (within w) (d ∷ σ)) (while_steps (step st 32) (met_from (suc n) r.0)),
      )

  within_duly : (n : ℕ) (w : List ℕ) (σ : List Due) (k : Fill σ → A) → viable (within w) σ ≡ true
      → Duly n (ends_at n (within w) σ) [] (record { mode = within w; stack = record { due = σ; back = k } })
  unfolding viable may_grow ends_at met_at locate
  within_duly n w [] k v = absurd (false≢true v)
  within_duly n w (d ∷ σ) k v = go (word_move d (word_of w))
    where
      st : State A
      st = record { mode = within w; stack = record { due = d ∷ σ; back = k } }

      go : (word_at d (word_of w) ≡ []) ⊎ ((m : Move d) × (advance d (word (word_of w)) ≡ some m)) → Duly n (ends_at n (within w) (d ∷ σ)) [] st
      go (inl e) = anyhow n (ends_at n (within w) (d ∷ σ)) st v (ap (locate (n - length w)) e)
      go (inr m) = word_duly n w d σ k m.0 m.1

  here_duly : (n : ℕ) (m : Mode) (σ : List Due) (k : Fill σ → A) → viable m σ ≡ true
      → Duly n (ends_at n m σ) [] (record { mode = m; stack = record { due = σ; back = k } })
  unfolding ends_at
  here_duly n between σ k v = anyhow n [] (record { mode = between; stack = record { due = σ; back = k } }) v refl
  here_duly n comment σ k v = anyhow n [] (record { mode = comment; stack = record { due = σ; back = k } }) v refl
  here_duly n (within w) σ k v = within_duly n w σ k v

  -- what byte k ends is met first, or nothing is
  ended_duly : (k : Class) (n : ℕ) (st : State A) → Viable st → Duly n (ends_at n st.mode st.stack.due) [] st
      → Duly n (ended_by k n st.mode st.stack.due) [] st
  unfolding ended_by
  ended_duly space n st v h = h
  ended_duly lineEnd n st v h = h
  ended_duly semicolon n st v h = h
  ended_duly opening n st v h = h
  ended_duly closing n st v h = h
  ended_duly digit n st v h = anyhow n [] st v refl
  ended_duly symbol n st v h = anyhow n [] st v refl
  ended_duly other n st v h = h

  further_duly : (c : ℕ) (cs xs : List ℕ) (n : ℕ) (st st' : State A) → step st c ≡ some st' → Duly (suc n) (met_from (suc n) cs st') xs st'
      → Duly n (met_from n (c ∷ cs) st) (c ∷ xs) st
  unfolding steps and_then met_from while_steps
  further_duly c cs xs n st st' h r =
      let b = ended_by (class_of c) n st.mode st.stack.due in (
        r.0,
        r.1,
        r.2,
        rw h r.3,
        called_append b (while_steps (step st c) (met_from (suc n) (xs ++ r.0)))
            ∙ ap (called_of b ++◌) (ap (λ o. called_of (while_steps o (met_from (suc n) (xs ++ r.0)))) h ∙ r.4)
            ∙ sym (append_assoc (called_of b) (called_of (met_from (suc n) cs st')) r.2)
            ∙ ap (◌++ r.2) (sym (called_append b (while_steps (step st c) (met_from (suc n) cs))
            ∙ ap (λ o. called_of b ++ called_of (while_steps o (met_from (suc n) cs))) h)),
      )

  duly : (cs : List ℕ) (n m : ℕ) (st : State A) → Viable st → parse_from n cs st ≡ unread m → (i : ℕ) × (m ≡ n + i) × Duly n (met_from n cs st) (take i cs) st
  unfolding parse_from on_read on_step met_from while_steps
  duly [] n m st v e = go (finish st) e
    where
      go : (o : Option A) → on_read n o ≡ unread m → (i : ℕ) × (m ≡ n + i) × Duly n (met_from n [] st) (take i []) st
      go none e = let q : n ≡ m = cc in (0, omega arith, here_duly n st.mode st.stack.due st.stack.back v)
      go (some a) e = absurd (apart a m e)
  duly (c ∷ cs) n m st v e = go (step st c) refl (λ st'. duly cs (suc n) m st') e
    where
      nothing : step st c ≡ none → met_from n (c ∷ cs) st ≡ ended_by (class_of c) n st.mode st.stack.due
      nothing h = rw h (append-nil (ended_by (class_of c) n st.mode st.stack.due))

      go : (o : Option (State A)) → step st c ≡ o
          → ((st' : State A) → Viable st' → parse_from (suc n) cs st' ≡ unread m
          → (i : ℕ) × (m ≡ suc n + i) × Duly (suc n) (met_from (suc n) cs st') (take i cs) st')
          → on_step n o (parse_from (suc n) cs) ≡ unread m → (i : ℕ) × (m ≡ n + i) × Duly n (met_from n (c ∷ cs) st) (take i (c ∷ cs)) st
      go none h f e =
          let q : n ≡ m = cc in
          (0, omega arith, rw (nothing h) (ended_duly (class_of c) n st v (here_duly n st.mode st.stack.due st.stack.back v)))
      go (some st') h f e =
          let r = f st' (stays st c st' h) e in
          let q : m ≡ suc n + r.0 = r.1 in
          (suc r.0, omega arith, further_duly c cs (take r.0 cs) n st st' h r.2)

pub names_due : NamesDue
unfolding met start parse viable
names_due text n u =
    let r = duly text 0 n start refl ((unread_exactly text n).1 u) in
    let q : r.0 ≡ n = omega (arith, r.1) in
    let d : Duly 0 (met text) (take n text) start = rw q at r.2 in
    let reads = accepted (take n text ++ d.0) d.1 d.3 in
    (d.0, d.1, d.2, reads, sym (names_met (take n text ++ d.0) d.1 reads) ∙ d.4)
