-- `words::numeral` meets its contract. The invariant: the digits up to j have the value.
use borrow.Author.Tests.{eqb-false, ltb-false}
use Rattle.std.proofs.lemmas.Bool.{or_parts}
use Rattle.pass_tokens.proofs.DigitLaws.{digits_on}
use Rattle.pass_tokens.proofs.words.numeral.Goals as goal

pub loop-j-preserved : goal.loop-j-preserved
loop-j-preserved c =
    let d = or_parts _ _ c.if-c.false in
    let v = or_parts _ _ c.if-value-high.false in
    record {
      digits =
          digits_on c.args.text.now c.args.from c.args.high c.loop-j.value c.loop-j.j c.loop-j.invariant.digits c.loop-j-test.true c.from-c.result
          c.from-c.ensures (ltb-false _ _ d.0) (ltb-false _ _ d.1) (ltb-false _ _ v.0) (eqb-false _ _ v.1);
      end = c.loop-j.invariant.end;
    }
