-- Words of a file copied to a place of the scratch: the words before it, the n words of the file from word k on, the words after them.
--     copied_none, copied_more          a copy of none, and of one word more
--     get_d_copied, get_d_copied_below    a word that was copied, and one before those
use mathlib.Core.Path.{◌≡◌, refl, sym, ap, ◌∙◌}
use mathlib.Core.List.{List, [], ◌∷◌, ◌++◌, append_assoc}
use Prim.Native.Nat.{ℕ, zero, suc, ◌+◌, ◌<◌, ◌≤◌}
use native.Mathlib.Nat.{add-zero, add-suc, not-suc-le-zero, le_of_suc-le-suc}
use native.Mathlib.Numerals.{add-one}
use native.Mathlib.Omega.{arith}
use lib.ListN.{length, get_or, set, take, drop, length-append, take-append-drop, get_or-append}
use lib.Seq.{length-take-le, drop-cons, set_at, get_or-append-add, get_or-take}
use Rattle.bundle.specs.Words.{word_at}
use Rattle.files.specs.Copies.{words_from, copied}

length_words_from : (f : List ℕ) (k n : ℕ) → length (words_from f k n) ≡ n
unfolding words_from
length_words_from f k zero = refl
length_words_from f k (suc n) = ap suc (length_words_from f (suc k) n)

get_d_words_from : (f : List ℕ) (k n j : ℕ) → j < n → get_or (words_from f k n) j 0 ≡ word_at f (k + j)
unfolding words_from
get_d_words_from f k zero j l = absurd (not-suc-le-zero l)
get_d_words_from f k (suc n) zero l = rw add-zero
get_d_words_from f k (suc n) (suc j) l =
    let e : suc k + j ≡ k + suc j = omega arith in
    get_d_words_from f (suc k) n j (le_of_suc-le-suc l) ∙ rw e

-- one word more, at the end
words_from_more : (f : List ℕ) (k n : ℕ) → words_from f k (suc n) ≡ words_from f k n ++ (word_at f (k + n) ∷ [])
unfolding words_from
words_from_more f k zero = rw add-zero
words_from_more f k (suc n) =
    let e : suc k + n ≡ k + suc n = omega arith in
    ap (λ (l : List ℕ). word_at f k ∷ l) (words_from_more f (suc k) n ∙ rw e)

pub copied_none : (w : List ℕ) (to : ℕ) (f : List ℕ) (k : ℕ) → w ≡ copied w to f k 0
unfolding words_from
copied_none w to f k = sym (rw add-zero (take-append-drop to w))

-- past a first list of length n
seam : (xs ys : List ℕ) (n j : ℕ) → length xs ≡ n → get_or (xs ++ ys) (n + j) 0 ≡ get_or ys j 0
seam xs ys n j e = rw (← e) (get_or-append-add xs ys j 0)

module _ (w : List ℕ) (to : ℕ) (f : List ℕ) (k n : ℕ) where
  -- what stands before the words that are not copied yet
  head_length : to ≤ length w → length (take to w ++ words_from f k n) ≡ to + n
  head_length h = rw (length-append, length-take-le to w h, length_words_from)

  pub copied_more : to + n < length w → set (copied w to f k n) (to + n) (word_at f (k + n)) ≡ copied w to f k (n + 1)
  copied_more room =
      let h : to ≤ length w = omega arith in
      rw (← append_assoc, drop-cons w (to + n) 0, add-one n, words_from_more)
      (set_at (take to w ++ words_from f k n) (get_or w (to + n) 0) (drop (suc (to + n)) w) (word_at f (k + n)) (to + n) (head_length h)
      ∙ simp (append_assoc, add-suc))

  pub get_d_copied : (j : ℕ) → to ≤ length w → j < n → get_or (copied w to f k n) (to + j) 0 ≡ word_at f (k + j)
  get_d_copied j h l =
      let in_words : j < length (words_from f k n) = omega (arith, length_words_from f k n) in
      seam (take to w) (words_from f k n ++ drop (to + n) w) to j (length-take-le to w h)
      ∙ get_or-append (words_from f k n) (drop (to + n) w) 0 j in_words
      ∙ get_d_words_from f k n j l

  pub get_d_copied_below : (j : ℕ) → to ≤ length w → j < to → get_or (copied w to f k n) j 0 ≡ get_or w j 0
  get_d_copied_below j h l =
      let in_take : j < length (take to w) = omega (arith, length-take-le to w h) in
      get_or-append (take to w) (words_from f k n ++ drop (to + n) w) 0 j in_take
      ∙ get_or-take to w j 0 l
