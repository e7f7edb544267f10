-- `digest` meets its contract: the definition, on the words.
use Rattle.duplicates.specs.Digests.{term_digest}
use Rattle.duplicates.proofs.digest.Goals as goal

pub returns : goal.returns
unfolding term_digest
returns c =
    rw (
      ← c.empty.ensures,
      ← c.mixed-d.ensures,
      ← c.second_is_list.ensures,
      ← c.first_is_list.ensures,
      ← c.mixed_field-d1.ensures,
      ← c.mixed_field-d2.ensures,
      ← c.mixed.ensures,
    )
