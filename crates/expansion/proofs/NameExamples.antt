-- Worked examples of Req 06 and Req 07, computed from the bytes.
--     names_right   THE THEOREM
use mathlib.Core.Path.{refl}
use Rattle.bundle.specs.Words.{encode}
use Rattle.bundle.specs.File.{bundle_of}
use Rattle.logic.specs.Terms.{tree}
use Rattle.expansion.specs.Names.{keeps}
use Rattle.expansion.specs.Visit.{expanded}
use Rattle.expansion.specs.File.{file_words}
use Rattle.expansion.specs.NameExamples.{NamesRight}

pub names_right : NamesRight
unfolding expanded file_words bundle_of encode keeps tree
names_right = record {
  once_itself = (refl, (tt, (tt, tt)));
  once_kept = refl;
  once_renamed = refl;
  unused_kept = refl;
  unused_renamed = refl;
  twice_kept = refl;
  twice_renamed = refl;
  unreached_kept = refl;
  unreached_renamed = refl;
  unreached_let_kept = refl;
  unreached_let_renamed = refl;
  shared_kept = refl;
  shared_renamed = refl;
  choice_below_let_kept = refl;
  choice_below_let_renamed = refl;
  choice_once_kept = refl;
  choice_once_renamed = refl;
}
