-- Shifts as multiplication and division by a power of two.
--
-- | word      | what it is                                                                                                  |
-- |-----------|-------------------------------------------------------------------------------------------------------------|
-- | `left`    | a number of k bits shifted left: bits that leave at the front are lost                                      |
-- | `right`   | a number shifted right                                                                                      |
-- | `down`    | a whole number divided by 2^c and rounded down                                                              |
-- | `Floored` | q is n divided by m and rounded down                                                                        |
-- | `circled` | a word shifted left by the low five bits of a count, where bits that leave at the front come in at the back |
use Rattle.std.specs.Prelude.{◌≡◌, ℕ, ◌+◌, ◌-◌, ◌*◌, ◌/◌, ◌%◌, ◌^◌, ◌<◌, ℤ, pos, ◌+ℤ◌, ◌*ℤ◌}
use Rattle.std.specs.Int.Signed.{shr_z}

abbrev pub left : ℕ → ℕ → ℕ → ℕ
left k v c = (v * 2 ^ c) % 2 ^ k

abbrev pub right : ℕ → ℕ → ℕ
right v c = v / 2 ^ c

abbrev pub down : ℤ → ℕ → ℤ
down z c = shr_z z (2 ^ c)

pub record Floored (n : ℤ) (m : ℕ) (q : ℤ) : Type 0 where
  pub rest : ℕ
  pub smaller : rest < m
  pub whole : n ≡ q *ℤ pos m +ℤ pos rest

unfoldable pub circled : ℕ → ℕ → ℕ
circled v count = left 32 v (count % 32) + right v (32 - count % 32)
