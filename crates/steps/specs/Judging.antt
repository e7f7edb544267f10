-- What steps are judged by.
use Rattle.std.specs.Prelude.{ℕ, List}
use Rattle.logic.specs.Readings.{Reading}
use Rattle.images.specs.LentReading.{Known, reading_in}

-- what is known of a file, and a bed of steps that come after those of the file, five words each
pub record Judging : Type 0 where
  pub known : Known
  pub bed : List ℕ

abbrev pub reading : Judging → Reading
reading j = reading_in j.known j.bed
