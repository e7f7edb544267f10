-- `name_pair` meets its contract.
use mathlib.Core.Path.{sym, ◌∙◌}
use Rattle.std.proofs.lemmas.Option.{IfSome_then}
use Rattle.pass_terms.proofs.ends.name_pair.Goals as goal

pub returns : goal.returns
returns c =
    IfSome_then c.close.result c.close.ensures (λ u z.
    record {
      bound = c.in_ok-pair.pair;
      top = record { below = c.pop.new.self; stacked = c.in_ok-pair.ensures };
      sort = sym c.variable_sort.ensures ∙ c.if-variable_sort-half.false ∙ c.half.ensures.0;
      laid = record {
        pair = c.pack.result;
        upper = c.pack.ensures.0 ∙ c.half-2.ensures.0;
        lower = c.pack.ensures.1;
        stacked = c.in_ok-push.ensures;
      };
      closed = z;
    })
