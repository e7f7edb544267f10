-- The examples are right, by computation.
use mathlib.Core.Path.{refl}
use Rattle.expansion.specs.File.{file_of}
use Rattle.grammar.specs.Bytes.{bytes}
use Rattle.reading.specs.Reader.{read_text}
use Rattle.reading.specs.Reading.{reading}
use Rattle.reading.specs.Examples.{read_rows, unread_rows, more_unread_rows, unknown_rows, missorted_rows, crowded_rows, refused_calls, ExamplesRight}

pub examples_right : ExamplesRight
unfolding read_rows unread_rows more_unread_rows unknown_rows missorted_rows crowded_rows refused_calls bytes file_of read_text reading
examples_right = record {
  read = (refl, (refl, (refl, (refl, (refl, (refl, (refl, (refl, (refl, (refl, (refl, (refl, (refl, tt)))))))))))));
  unread = (refl, (refl, (refl, (refl, (refl, (refl, (refl, (refl, (refl, (refl, (refl, (refl, tt))))))))))));
  more_unread = (refl, (refl, (refl, (refl, (refl, (refl, (refl, (refl, (refl, (refl, (refl, (refl, (refl, (refl, tt))))))))))))));
  unknown = (refl, (refl, (refl, (refl, (refl, (refl, (refl, (refl, (refl, (refl, (refl, (refl, (refl, (refl, (refl, (refl, tt))))))))))))))));
  missorted = (refl, (refl, (refl, (refl, (refl, (refl, (refl, (refl, (refl, (refl, tt))))))))));
  crowded = (refl, (refl, (refl, (refl, (refl, tt)))));
  written = refl;
  refused = (refl, (refl, (refl, (refl, (refl, (refl, (refl, (refl, (refl, (refl, (refl, (refl, (refl, (refl, (refl, (refl, tt))))))))))))))));
}
