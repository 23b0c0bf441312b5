-- Division toward zero and its remainder.
--
-- | word           | what it is                                                                    |
-- |----------------|-------------------------------------------------------------------------------|
-- | `SignOf`       | a whole number is zero or has the sign of another                             |
-- | `Divides`      | n is d times q and r over, where r is smaller than d in size and has n's sign |
-- | `Truncates`    | the library's `int_div` and `int_rem` divide so, and no other two numbers do  |
-- | `quotient_of`  | what a division of words gives: nothing for a zero divisor                    |
-- | `remainder_of` | the same for the remainder                                                    |
-- | `Divided`      | the laws of a division by another number than zero                            |
-- | `Quotient`     | the laws of a division's answer                                               |
-- | `Left`         | the laws of a remainder of such a division                                    |
-- | `Remainder`    | the laws of a remainder's answer                                              |
use Rattle.std.specs.Prelude.{◌≡◌, ℕ, ◌<◌, false, if◌then◌else◌, ℤ, pos, negsuc, ◌+ℤ◌, ◌*ℤ◌, ◌≤ℤ◌, Some, None, Option, ◌==◌, int_div, int_rem, unsigned_abs}
use Rattle.words.specs.Kept.{Told, kept}
use Rattle.words.specs.Wholes.{low, signed}
use Rattle.words.specs.declared.arithmetic.Kept.{Kept}

abbrev pub SignOf : ℤ → ℤ → Type 0
SignOf (pos n) r = pos 0 ≤ℤ r
SignOf (negsuc n) r = r ≤ℤ pos 0

pub record Divides (n d q r : ℤ) : Type 0 where
  pub whole : n ≡ d *ℤ q +ℤ r
  pub smaller : unsigned_abs r < unsigned_abs d
  pub sign : SignOf n r

pub record Truncates (n d : ℤ) : Type 0 where
  pub divides : Divides n d (int_div n d) (int_rem n d)
  pub only : (q r : ℤ) → Divides n d q r → (q ≡ int_div n d) × (r ≡ int_rem n d)

abbrev pub quotient_of : ℕ → ℕ → Option Kept
quotient_of a b = if b == 0 then None else Some (kept (int_div (signed 32 a) (signed 32 b)))

abbrev pub remainder_of : ℕ → ℕ → Option ℕ
remainder_of a b = if b == 0 then None else Some (low 32 (int_rem (signed 32 a) (signed 32 b)))

-- where no overflow is told, the dividend is the divisor times the quotient plus the remainder
pub record Divided (a b : ℕ) (k : Kept) : Type 0 where
  pub truncates : Truncates (signed 32 a) (signed 32 b)
  pub told : Told (int_div (signed 32 a) (signed 32 b)) k
  pub restores : (r : ℕ) → remainder_of a b ≡ Some r → k.overflow ≡ false → signed 32 a ≡ signed 32 b *ℤ signed 32 k.word +ℤ signed 32 r

abbrev pub Quotient : ℕ → ℕ → Option Kept → Type 0
Quotient a b None = b ≡ 0
Quotient a b (Some k) = Divided a b k

-- the remainder is a signed word: there is nothing to overflow
pub record Left (a b r : ℕ) : Type 0 where
  pub exact : signed 32 r ≡ int_rem (signed 32 a) (signed 32 b)
  pub smaller : unsigned_abs (signed 32 r) < unsigned_abs (signed 32 b)
  pub sign : SignOf (signed 32 a) (signed 32 r)

abbrev pub Remainder : ℕ → ℕ → Option ℕ → Type 0
Remainder a b None = b ≡ 0
Remainder a b (Some r) = Left a b r
