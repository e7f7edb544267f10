-- The examples are right, by computation.
use mathlib.Core.Path.{refl}
use Rattle.grammar.specs.Bytes.{bytes}
use Rattle.grammar.specs.Grammar.{lexemes}
use Rattle.grammar.specs.Parser.{judged}
use Rattle.grammar.specs.Examples.{of_class, spelled_rows, judged_rows, ExamplesRight}

pub examples_right : ExamplesRight
unfolding bytes of_class spelled_rows judged_rows lexemes judged
examples_right = record {
  classes = record { spaces = refl; ends = refl; semicolons = refl; openings = refl; closings = refl; digits = refl; symbols = refl };
  spelled = (refl, (refl, (refl, (refl, (refl, (refl, (refl, (refl, tt))))))));
  judged = (refl, (refl, (refl, (refl, (refl, (refl, (refl, (refl, (refl, (refl, (refl, (refl, (refl, (refl, tt))))))))))))));
}
