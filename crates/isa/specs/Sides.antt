-- Sides: the side of an address as a number and as text.
--
-- | word          | what it is                                   |
-- |---------------|----------------------------------------------|
-- | `side_number` | the number of a side: 0 for code, 1 for data |
-- | `side_text`   | the name of a side                           |
-- | `IsSideOf`    | what reading a number as a side answers      |
use Rattle.std.specs.Prelude.{◌≡◌, ℕ, ◌<◌, List, Result, MatchResult, codes}
use Rattle.isa.specs.declared.kinds.Side.{Side}
use Rattle.isa.specs.declared.kinds.Side.TheVariants.{Code, Data}
use Rattle.isa.specs.declared.sides.NoSide.{NoSide}

abbrev pub side_number : Side → ℕ
side_number Code = 0
side_number Data = 1

abbrev pub side_text : Side → List ℕ
side_text Code = codes "code"
side_text Data = codes "data"

-- the side with that number, or an error above the numbers of both
abbrev pub IsSideOf : ℕ → Result Side NoSide → Type 0
IsSideOf n r = MatchResult r (λ side. n ≡ side_number side) (λ _. 1 < n)
