-- The words of a file: little-endian, 32 bits each.
use Rattle.std.specs.Prelude.{ℕ, ◌+◌, ◌*◌, ◌/◌, ◌%◌, List, [], ◌∷◌, get_or}

-- the largest number that a word holds
abbrev pub largest_word : ℕ
largest_word = 4294967295

-- four bytes as one word, little-endian
abbrev pub joined_of : ℕ → ℕ → ℕ → ℕ → ℕ
joined_of a b c d = a + 256 * b + 65536 * c + 16777216 * d

-- word k of a file of bytes, counted from 0
unfoldable pub word_at : List ℕ → ℕ → ℕ
word_at f k = joined_of (get_or f (4 * k) 0) (get_or f (4 * k + 1) 0) (get_or f (4 * k + 2) 0) (get_or f (4 * k + 3) 0)

-- the bytes of words, little-endian
unfoldable pub encode : List ℕ → List ℕ
encode [] = []
encode (w ∷ ws) = w % 256 ∷ w / 256 % 256 ∷ w / 65536 % 256 ∷ w / 16777216 % 256 ∷ encode ws
