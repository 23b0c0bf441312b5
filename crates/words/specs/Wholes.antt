-- Words and whole numbers: a number of k bits read as signed, and a whole number cut to k bits.
--
-- | word     | what it is                                                      |
-- |----------|-----------------------------------------------------------------|
-- | `signed` | the two's complement value of a number of k bits                |
-- | `low`    | the number of k bits that a whole number is modulo 2^k          |
-- | `Within` | a whole number is at least -2^(k-1) and below 2^(k-1)           |
-- | `Modulo` | a number below m differs from a whole number by a multiple of m |
use Rattle.std.specs.Prelude.{◌≡◌, ℕ, ◌-◌, ◌%◌, ◌^◌, ◌<◌, if◌then◌else◌, ℤ, pos, negsuc, ◌+ℤ◌, ◌-ℤ◌, ◌*ℤ◌, neg_ℤ, ◌≤ℤ◌, ◌<ℤ◌, nat_lt}

unfoldable pub signed : ℕ → ℕ → ℤ
signed k v = if nat_lt v (2 ^ (k - 1)) then pos v else pos v -ℤ pos (2 ^ k)

unfoldable pub low : ℕ → ℤ → ℕ
low k (pos n) = n % 2 ^ k
low k (negsuc n) = 2 ^ k - 1 - n % 2 ^ k

pub record Within (k : ℕ) (z : ℤ) : Type 0 where
  pub least : neg_ℤ (pos (2 ^ (k - 1))) ≤ℤ z
  pub most : z <ℤ pos (2 ^ (k - 1))

pub record Modulo (m : ℕ) (z : ℤ) (r : ℕ) : Type 0 where
  pub below : r < m
  pub times : ℤ
  pub same : z ≡ times *ℤ pos m +ℤ pos r
