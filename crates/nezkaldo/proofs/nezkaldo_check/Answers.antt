-- `nezkaldo::nezkaldo_check` meets its contract: number and record of a refusal are small, so they fit one word.
use native.Mathlib.Omega.{arith}
use mathlib.Core.Path.{sym, ap, ◌∙◌}
use Rattle.judgement.specs.Answer.{answer_in}
use Rattle.judgement.proofs.Sizes.{refused_small}
use Rattle.nezkaldo.specs.Packed.{packed}
use Rattle.nezkaldo.proofs.nezkaldo_check.Goals as goal

pub pack-requires : goal.pack-requires
pack-requires c =
    let s = refused_small _ _ _ _ (sym c.check.ensures.value ∙ ap answer_in c.in-Err.is) in
    omega (arith, c.number.ensures, s.0, s.1)

pub returns-in-Ok : goal.returns-in-Ok
unfolding packed
returns-in-Ok c =
    let k = c.check in
    record {
      value = sym (ap packed (sym k.ensures.value ∙ ap answer_in c.in-Ok.is));
      free_after = k.ensures.free_after;
    }

pub returns-in-Err : goal.returns-in-Err
unfolding packed
returns-in-Err c =
    let k = c.check in
    record {
      value = rw c.number.ensures at c.pack.ensures ∙ sym (ap packed (sym k.ensures.value ∙ ap answer_in c.in-Err.is));
      free_after = k.ensures.free_after;
    }
