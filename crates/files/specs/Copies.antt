-- Words of a file, one after another, and their copy.
use Rattle.std.specs.Prelude.{ℕ, zero, suc, ◌+◌, List, [], ◌∷◌, ◌++◌, take, drop}
use Rattle.bundle.specs.Words.{word_at}

-- the n words of a file from word k on
unfoldable pub words_from : List ℕ → ℕ → ℕ → List ℕ
unfolding word_at
words_from f k zero = []
words_from f k (suc n) = word_at f k ∷ words_from f (suc k) n

-- the words w with n words of the file f, from word k on, copied to place `to`
abbrev pub copied : List ℕ → ℕ → List ℕ → ℕ → ℕ → List ℕ
copied w to f k n = take to w ++ (words_from f k n ++ drop (to + n) w)
