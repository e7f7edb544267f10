-- `Uniting::unite_known` meets its contract: the union of a known list.
use mathlib.Core.Path.{refl, sym, ◌∙◌}
use mathlib.Core.Bool.{false≢true}
use Rattle.unions.proofs.Unions.{known_put}
use Rattle.unions.proofs.Uniting.unite_known.Goals as goal

pub returns : goal.returns
returns c =
    let a = c.args in
    let u = c.self.inside in
    let asked = rw (← c.self.view_is) at c.requires in
    rw (← c.self.view_is) (
      λ e. known_put a.area.now c.unite_kept.new.area u.lists.now u.marks.now u.n u.t a.at a.i u.bundle.now asked.0.room asked.1 c.self.invariant
          (sym (c.is_known.ensures u.marks.now refl) ∙ c.if-not-is_known.false) c.unite_kept.ensures,
      λ e. absurd (false≢true (sym e)),
    )
