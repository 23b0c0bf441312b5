-- Addresses: sums modulo 2^32, and new program counters.
--
-- | word         | what it is                                                 |
-- |--------------|------------------------------------------------------------|
-- | `total`      | a sum modulo 2^32                                          |
-- | `address_of` | the sum of a base, an index and a displacement modulo 2^32 |
-- | `evened`     | a word with its last bit made 0                            |
use Rattle.std.specs.Prelude.{ℕ, ◌+◌, ◌-◌, ◌%◌, ◌^◌}

abbrev pub total : ℕ → ℕ → ℕ
total a b = (a + b) % 2 ^ 32

abbrev pub address_of : ℕ → ℕ → ℕ → ℕ
address_of base index displacement = (base + index + displacement) % 2 ^ 32

abbrev pub evened : ℕ → ℕ
evened a = a - a % 2
