-- Answers as one number, for other languages.
use Rattle.std.specs.Prelude.{ℕ, ◌+◌, ◌*◌}
use Rattle.judgement.specs.Answer.{Answer, Accepted, Refused}
use Rattle.expansion.specs.Answer.{Answer as Reply, Written, Refused as Denied}

-- the number of pairs of the last REFL walked where the file is accepted, else number · 2^32 + record
unfoldable pub packed : Answer → ℕ
packed (Accepted a) = a.pairs
packed (Refused number i) = 4294967296 * number + i

-- the file's length where it is written, else number · 2^32 + record
unfoldable pub packed_reply : Reply → ℕ
packed_reply (Written n) = n
packed_reply (Denied number i) = 4294967296 * number + i
