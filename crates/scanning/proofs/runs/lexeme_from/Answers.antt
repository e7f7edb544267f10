-- `runs::lexeme_from` meets its contract. The invariant: so far there are blanks alone.
use native.Mathlib.Omega.{arith}
use mathlib.Core.Path.{◌≡◌, refl, ap}
use mathlib.Core.Bool.{Bool, true, false, not, ◌&&◌, ◌||◌}
use lib.ListN.{length}
use lib.Dec.{eqb}
use Rattle.lexing.specs.Codes.{class_code}
use Rattle.lexing.specs.Words.{class_in}
use Rattle.lexing.specs.declared.runs.Class.{Class}
use Rattle.spots.proofs.RunLaws.{skipping_start, skipping_end, skipping_found, skipping_on}
use Rattle.scanning.proofs.runs.lexeme_from.Goals.{in-LineEnd, in-Semicolon, in_default}
use Rattle.scanning.proofs.runs.lexeme_from.Goals as goal

-- whether a comment goes on behind a byte
abbrev goes_on : Bool → Class → Bool
goes_on m k = (m && not (eqb (class_code (class_in k)) 1)) || eqb (class_code (class_in k)) 2

at_line_end : (m : Bool) → false ≡ goes_on m Class.LineEnd
unfolding class_code
at_line_end true = refl
at_line_end false = refl

at_semicolon : (m : Bool) → true ≡ goes_on m Class.Semicolon
unfolding class_code
at_semicolon true = refl
at_semicolon false = refl

elsewhere : (m : Bool) (k : Class) → (k ≡ Class.LineEnd → ⊥) → (k ≡ Class.Semicolon → ⊥) → m ≡ goes_on m k
unfolding class_code
elsewhere m k a b = go k a b
  where
    same : (m : Bool) → m ≡ ((m && true) || false)
    same true = refl
    same false = refl

    go : (k : Class) → (k ≡ Class.LineEnd → ⊥) → (k ≡ Class.Semicolon → ⊥) → m ≡ goes_on m k
    go Class.Space a b = same m
    go Class.LineEnd a b = absurd (a refl)
    go Class.Semicolon a b = absurd (b refl)
    go Class.Opening a b = same m
    go Class.Closing a b = same m
    go Class.Digit a b = same m
    go Class.Symbol a b = same m
    go Class.Other a b = same m

pub loop-j-init : goal.loop-j-init
loop-j-init c = skipping_start _ _ c.requires

pub returns-then-not-comment-is_blank : goal.returns-then-not-comment-is_blank
returns-then-not-comment-is_blank c =
    skipping_found _ _ c.loop-j.j _ c.loop-j.invariant (omega arith) _ (ap class_code c.class_of-class.ensures)
    (rw c.is_blank.ensures at c.if-not-comment-is_blank.true)

pub loop-j-preserved : goal.loop-j-preserved
loop-j-preserved c =
    let on =
    skipping_on _ _ c.loop-j.j _ c.loop-j.invariant (omega arith) _ (ap class_code c.class_of-class.ensures)
    (rw c.is_blank.ensures at c.if-not-comment-is_blank.false) in
    let k = c.class_of-class.result in
    let m = c.loop-j.comment in
    let is : c.match-class.comment ≡ goes_on m k =
    elim c.match-class.branch [
      | in-LineEnd w ↦ rw (w.comment-is, w.in-LineEnd.is) (at_line_end m)
      | in-Semicolon w ↦ rw (w.comment-is, w.in-Semicolon.is) (at_semicolon m)
      | in_default w ↦ rw w.comment-is (elsewhere m k w.in_default.not-LineEnd w.in_default.not-Semicolon)
    ] in
    rw is on

pub returns : goal.returns
returns c =
    let past : c.loop-j.j ≡ length c.args.text.now = omega arith in
    rw past at (skipping_end _ _ c.loop-j.j _ c.loop-j.invariant (omega arith))
