-- Numbers filed by digests, so that one is looked for among those of its digest alone. Which digest is taken is of no account to what is found, only
-- to how long it takes.
use Rattle.std.specs.Prelude.{ℕ, ◌+◌, ◌*◌, ◌%◌, ◌≤◌, ◌<◌, ◌≡◌}

-- there are so many digests
abbrev pub digests : ℕ
digests = 2048

-- A digest d and one number more. With a factor that is near their number divided by the golden ratio, the digests of neighbours lie far apart.
unfoldable pub mix : ℕ → ℕ → ℕ
mix d x = (d * 1267 + x % digests) % digests

-- j is on the chain that starts at h: it is h, or on the chain of what follows h. 0 ends a chain.
pub data Reach (next : ℕ → ℕ) : ℕ → ℕ → Type 0 where
  here : {h j : ℕ} → h ≡ j → Reach next h j
  later : {h j : ℕ} → (h ≡ 0 → ⊥) → Reach next (next h) j → Reach next h j

-- `head d` is the newest number with digest d, `next j` the one before j among those with its digest, 0 for none. The numbers 1 to n are filed:
-- each is on the chain that starts at the head of its digest. Chains fall.
pub record Filed (digest head next : ℕ → ℕ) (n : ℕ) : Type 0 where
  pub low : (d : ℕ) → d < digests → head d ≤ n
  pub falls : (j : ℕ) → 1 ≤ j → next j < j
  pub reached : (j : ℕ) → 1 ≤ j → j ≤ n → Reach next (head (digest j)) j
