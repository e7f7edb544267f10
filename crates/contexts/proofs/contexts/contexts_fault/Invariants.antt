-- The invariant: the first bad context of all is the first from context i on, and those below it are known.
use mathlib.Core.Path.{◌≡◌}
use lib.ListN.{length}
use Rattle.logic.specs.Contexts.{context_fault, contexts_fault}
use Rattle.logic.proofs.Firsts.{rest_fault}
use Rattle.images.specs.ContextRows.{Images, Scopes}
use Rattle.contexts.proofs.contexts.contexts_fault.Given as goal

abbrev pub invariant-loop-i : goal.invariant-loop-i
invariant-loop-i l =
    let b = l.sorted in
    record {
      rest : contexts_fault b ≡ rest_fault (context_fault b) (length b.contexts) l.i;
      bundle : l.rows.bundle ≡ b;
      n : l.rows.n ≡ l.sets.n;
      images_long : length l.rows.images ≡ length l.initial.rows.images;
      scopes_long : length l.rows.scopes ≡ length l.initial.rows.scopes;
      images : Images b l.rows.images l.i;
      scopes : Scopes b l.rows.scopes l.sets.n l.i;
    }
