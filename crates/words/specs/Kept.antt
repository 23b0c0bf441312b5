-- What an arithmetic instruction keeps of its exact result.
--
-- | word      | what it is                                                                       |
-- |-----------|----------------------------------------------------------------------------------|
-- | `outside` | whether a whole number lies outside the signed words, -2^31 to 2^31 - 1          |
-- | `kept`    | the low 32 bits of an exact result, and whether it lies outside                  |
-- | `Told`    | overflow is told exactly where the word, read as signed, is not the exact result |
-- | `Keeps`   | an answer is what is kept of an exact result, and tells its overflow             |
use Rattle.std.specs.Prelude.{◌≡◌, ◌-◌, ◌^◌, Bool, true, false, ◌||◌, ℤ, pos, neg_ℤ, ◌≢◌, int_lt}
use Rattle.words.specs.Wholes.{low, signed}
use Rattle.words.specs.declared.arithmetic.Kept.{Kept}

unfoldable pub outside : ℤ → Bool
outside e = int_lt e (neg_ℤ (pos (2 ^ 31))) || int_lt (pos (2 ^ 31 - 1)) e

unfoldable pub kept : ℤ → Kept
kept e = record { word = low 32 e; overflow = outside e }

abbrev pub Told : ℤ → Kept → Type 0
Told e r = (r.overflow ≡ false → signed 32 r.word ≡ e) × (r.overflow ≡ true → signed 32 r.word ≢ e)

pub record Keeps (e : ℤ) (r : Kept) : Type 0 where
  pub value : r ≡ kept e
  pub told : Told e r
