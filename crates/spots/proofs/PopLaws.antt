-- Laws of a closing bracket, as `levels::pop` returns.
use Prim.Native.Nat.{ℕ, suc, ◌-◌, ◌≤◌, ◌<◌}
use native.Mathlib.Omega.{arith}
use mathlib.Core.Path.{◌≡◌, sym, ◌∙◌}
use mathlib.Core.Bool.{Bool}
use mathlib.Core.List.{List, ◌∷◌}
use lib.ListN.{length, get_or}
use Rattle.grammar.specs.Names.{Name}
use Rattle.spots.specs.Spots.{cell}
use Rattle.spots.specs.Traces.{stand, origin, Sound}
use Rattle.spots.specs.Levels.{Stands, place}
use Rattle.spots.specs.Guesses.{LevelsFound}
use Rattle.spots.specs.Turns.{Popped}
use Rattle.spots.specs.declared.Place.{Place}
use Rattle.spots.proofs.TableFacts.{closes_to, closes_plain}
use Rattle.spots.proofs.TraceLaws.{sound_origin, sound_reached}
use Rattle.spots.proofs.Windows.{window_pop, window_below, window_found}

pub stands_sound : (known : Name → Bool) (text a : List ℕ) (p : Place) (i : ℕ) (held : List ℕ) → Stands known text a p i held
    → Sound text (stand i p.spot held)
stands_sound known text a p i held s = sound_reached known text (stand i p.spot held) (origin text) (sound_origin text) s.trace

module _ (text a : List ℕ) (p : Place) (i back : ℕ) (low : p.spot < 20) (is : back ≡ cell p.spot 1) (ok : back < 99) where
  some_back : cell p.spot 1 ≡ 99 → ⊥
  some_back e = omega (arith, is, ok)

  -- the spot held, where the table has it
  in_table : back < 20 → (known : Name → Bool) (u : ℕ) (held : List ℕ) → Stands known text a p i (u ∷ held) → back ≡ u
  in_table l known u held s =
      let n = (stands_sound known text a p i (u ∷ held) s).nested in
      is ∙ sym (closes_to p.spot low some_back (omega (arith, is)) u n.0)

  pub popped_below : p.height ≡ 0 → back < 20 → Popped text a a p i (place back 0 (p.base - 1))
  popped_below z l known letters u held s = (in_table l known u held s, window_below a p.height p.base u held s.window z)

  pub popped_known : (p.height ≡ 0 → ⊥) → back < 20 → Popped text a a p i (place back (p.height - 1) p.base)
  popped_known z l known letters u held s = (in_table l known u held s, (window_pop a p.height p.base u held s.window z).1)

  pub popped_held : (p.height ≡ 0 → ⊥) → (v : ℕ) → v ≡ get_or a (p.height - 1) 0 → Popped text a a p i (place v (p.height - 1) p.base)
  popped_held z v e known letters u held s = let w = window_pop a p.height p.base u held s.window z in (e ∙ w.0, w.1)

  pub popped_found : p.height ≡ 0 → 20 ≤ back → (b : List ℕ) → 32768 ≤ length b → (m : ℕ) → m ≡ p.base - 32768 → LevelsFound text b m p.base i
      → (v : ℕ) → v ≡ get_or b (p.base - m - 1) 0 → Popped text a b p i (place v (p.base - m - 1) m)
  popped_found z l b f m e found v q known letters u held s =
      let n = (stands_sound known text a p i (u ∷ held) s).nested in
      let d : suc (length held) ≡ p.base = omega (arith, s.window.depth, z) in
      let w = window_found b m p.base p.spot (u ∷ held) n (closes_plain p.spot low some_back (omega (arith, is, l))) d (omega (arith, e))
      (omega (arith, e, f))
      (λ j x y. found known letters p.spot (u ∷ held) s.trace d j x y) in
      let t = window_pop b (p.base - m) m u held w (λ o. off e d o) in
      (q ∙ t.0, t.1)
    where
      off : {c : ℕ} → m ≡ p.base - 32768 → suc c ≡ p.base → p.base - m ≡ 0 → ⊥
      off x y o = omega arith
