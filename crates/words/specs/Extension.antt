-- Sign extension of the last k bits of a word.
--
-- | word       | what it is                                                                              |
-- |------------|-----------------------------------------------------------------------------------------|
-- | `extended` | the word whose signed value is that of the last k bits                                  |
-- | `Extends`  | the value is kept, the last k bits stay, and the others are copies of the first of them |
use Rattle.std.specs.Prelude.{◌≡◌, ℕ, ◌-◌, ◌%◌, ◌^◌, ◌<◌}
use Rattle.words.specs.Bits.{bit}
use Rattle.words.specs.Wholes.{low, signed}

unfoldable pub extended : ℕ → ℕ → ℕ
extended k v = low 32 (signed k (v % 2 ^ k))

pub record Extends (k v r : ℕ) : Type 0 where
  pub value : r ≡ extended k v
  pub exact : signed 32 r ≡ signed k (v % 2 ^ k)
  pub last : r % 2 ^ k ≡ v % 2 ^ k
  pub copies : (i : ℕ) → i < 32 - k → bit 32 i r ≡ bit k 0 (v % 2 ^ k)
