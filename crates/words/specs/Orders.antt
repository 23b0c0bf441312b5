-- Comparisons that answer -1, 0 or 1 as a word.
--
-- | word         | what it is                                                       |
-- |--------------|------------------------------------------------------------------|
-- | `compared`   | -1, 0 or 1 as a whole number is below, equal to or above another |
-- | `lcomp`      | two words compared without a sign                                |
-- | `dcomp`      | two pairs compared as signed numbers of 64 bits                  |
-- | `minus`      | the word of -1                                                   |
-- | `Word`       | a number is a word                                               |
-- | `Halves`     | both numbers of a pair are words                                 |
-- | `TotalOrder` | a comparison by words is a total order                           |
use Rattle.std.specs.Prelude.{◌≡◌, ℕ, ◌-◌, ◌^◌, ◌<◌, if◌then◌else◌, ◌⊎◌, ℤ, pos, negsuc, int_lt}
use Rattle.words.specs.Pairs.{number_of}
use Rattle.words.specs.Wholes.{low, signed}
use Rattle.words.specs.declared.pairs.Pair.{Pair}

unfoldable pub compared : ℤ → ℤ → ℤ
compared x y = if int_lt x y then negsuc 0 else if int_lt y x then pos 1 else pos 0

abbrev pub lcomp : ℕ → ℕ → ℕ
lcomp a b = low 32 (compared (pos a) (pos b))

abbrev pub dcomp : Pair → Pair → ℕ
dcomp p q = low 32 (compared (signed 64 (number_of p)) (signed 64 (number_of q)))

abbrev pub minus : ℕ
minus = 2 ^ 32 - 1

abbrev pub Word : ℕ → Type 0
Word v = v < 2 ^ 32

pub record Halves (p : Pair) : Type 0 where
  pub high : Word p.high
  pub low : Word p.low

pub record TotalOrder {A : Type 0} (In : A → Type 0) (f : A → A → ℕ) : Type 0 where
  pub answers : (x y : A) → (f x y ≡ minus) ⊎ ((f x y ≡ 0) ⊎ (f x y ≡ 1))
  pub itself : (x : A) → f x x ≡ 0
  pub same : (x y : A) → In x → In y → f x y ≡ 0 → x ≡ y
  pub below : (x y : A) → f x y ≡ minus → f y x ≡ 1
  pub above : (x y : A) → f x y ≡ 1 → f y x ≡ minus
  pub through : (x y z : A) → f x y ≡ minus → f y z ≡ minus → f x z ≡ minus
