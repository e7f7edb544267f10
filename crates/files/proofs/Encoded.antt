-- Words stored as bytes, one list of words after another.
--     stored_none, stored_on     no word stored, and words after words
--     four_bytes, word_stored    the bytes of a word, and a word stored by them
use mathlib.Core.Path.{◌≡◌, refl, ◌∙◌}
use mathlib.Core.List.{List, [], ◌∷◌, ◌++◌, append_assoc, append-nil}
use Prim.Native.Nat.{ℕ, ◌+◌, ◌-◌, ◌*◌, ◌≤◌}
use native.Mathlib.Omega.{arith}
use lib.ListN.{length}
use borrow.Author.Rules.{rules}
use borrow.Rule.Slice.PartMut.{put_mid}
use Rattle.std.specs.Int.{to_le_bytes, w32}
use Rattle.std.proofs.lemmas.Slice.{take-put_mid, overwrites}
use Rattle.bundle.specs.Words.{encode}
use Rattle.files.specs.Stores.{WordsStored}

encode_append : (xs ys : List ℕ) → encode (xs ++ ys) ≡ encode xs ++ encode ys
unfolding encode
encode_append [] ys = refl
encode_append (x ∷ xs) ys = rw (encode_append xs ys)

pub stored_none : (o : List ℕ) (p : ℕ) → WordsStored o p p [] o
unfolding encode
stored_none o p = record { long = refl; bytes = rw append-nil }

pub stored_on : {o o' o'' : List ℕ} {p q r : ℕ} {xs ys : List ℕ} → WordsStored o p q xs o' → WordsStored o' q r ys o'' → WordsStored o p r (xs ++ ys) o''
stored_on {xs = xs} {ys = ys} v w = record {
  long = w.long ∙ v.long;
  bytes = w.bytes ∙ rw (v.bytes, encode_append xs ys, append_assoc);
}

-- four bytes, the lowest first
pub four_bytes : (x : ℕ) → to_le_bytes w32 x ≡ encode (x ∷ [])
unfolding encode
four_bytes x = refl

-- they are written over those of word p
pub word_stored : (o ys : List ℕ) (p x : ℕ) → 4 * (p + 1) ≤ length o → ys ≡ encode (x ∷ [])
    → WordsStored o p (p + 1) (x ∷ []) (put_mid (4 * p) (4 * p + 4 - 4 * p) o ys)
unfolding encode
word_stored o ys p x h e =
    let four : length ys ≡ 4 = rw e in
    let long : length (put_mid (4 * p) (4 * p + 4 - 4 * p) o ys) ≡ length o = search (rules, overwrites) in
    record { long = long; bytes = take-put_mid (4 * p) (4 * p + 4 - 4 * p) o ys (4 * (p + 1)) (omega arith) (omega arith) ∙ rw e }
