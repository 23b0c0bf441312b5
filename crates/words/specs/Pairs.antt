-- Register pairs as numbers of 64 bits.
--
-- | word        | what it is                                                   |
-- |-------------|--------------------------------------------------------------|
-- | `number_of` | the number that a pair is                                    |
-- | `pair_of`   | the pair that a number below 2^64 is                         |
-- | `Holds`     | a pair is the one of a number, and its number is that number |
use Rattle.std.specs.Prelude.{◌≡◌, ℕ, ◌+◌, ◌*◌, ◌/◌, ◌%◌, ◌^◌}
use Rattle.words.specs.declared.pairs.Pair.{Pair}

unfoldable pub number_of : Pair → ℕ
number_of p = p.high * 2 ^ 32 + p.low

unfoldable pub pair_of : ℕ → Pair
pair_of n = record { high = n / 2 ^ 32; low = n % 2 ^ 32 }

pub record Holds (n : ℕ) (p : Pair) : Type 0 where
  pub value : p ≡ pair_of n
  pub number : number_of p ≡ n
