-- The bits of a number, the first one the most significant.
--
-- | word       | what it is                                                              |
-- |------------|-------------------------------------------------------------------------|
-- | `bit`      | bit i of a number of k bits                                             |
-- | `Combined` | each bit of a word is a function of the same bit of two others          |
-- | `Flipped`  | each bit of a word is 1 where that of another is 0, and 0 where it is 1 |
-- | `with_bit` | a number of k bits with bit i made b                                    |
-- | `Replaced` | bit i is b and all other bits are as they were                          |
use Rattle.std.specs.Prelude.{◌≡◌, ℕ, ◌+◌, ◌-◌, ◌*◌, ◌/◌, ◌%◌, ◌^◌, ◌<◌, ◌≢◌}

unfoldable pub bit : ℕ → ℕ → ℕ → ℕ
bit k i v = v / 2 ^ (k - 1 - i) % 2

abbrev pub Combined : (ℕ → ℕ → ℕ) → ℕ → ℕ → ℕ → Type 0
Combined f a b r = (i : ℕ) → i < 32 → bit 32 i r ≡ f (bit 32 i a) (bit 32 i b)

abbrev pub Flipped : ℕ → ℕ → Type 0
Flipped a r = (i : ℕ) → i < 32 → bit 32 i r ≡ 1 - bit 32 i a

unfoldable pub with_bit : ℕ → ℕ → ℕ → ℕ → ℕ
with_bit k i b v = v - bit k i v * 2 ^ (k - 1 - i) + b * 2 ^ (k - 1 - i)

pub record Replaced (k i b v r : ℕ) : Type 0 where
  pub here : bit k i r ≡ b
  pub others : (j : ℕ) → j < k → (j ≢ i) → bit k j r ≡ bit k j v
