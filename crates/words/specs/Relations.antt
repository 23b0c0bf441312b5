-- The six relations between signed words.
--
-- | word      | what it is                                |
-- |-----------|-------------------------------------------|
-- | `Related` | what a relation says of two whole numbers |
-- | `related` | whether it holds                          |
use Rattle.std.specs.Prelude.{◌≡◌, Bool, not, ◌&&◌, ℤ, ◌≤ℤ◌, ◌<ℤ◌, int_le, int_lt}
use Rattle.words.specs.declared.relations.Relation.{Relation}
use Rattle.words.specs.declared.relations.Relation.TheVariants.{Greater, Less, Equal, LessOrEqual, GreaterOrEqual, NotEqual}

abbrev pub Related : Relation → ℤ → ℤ → Type 0
Related Greater x y = y <ℤ x
Related Less x y = x <ℤ y
Related Equal x y = x ≡ y
Related LessOrEqual x y = x ≤ℤ y
Related GreaterOrEqual x y = y ≤ℤ x
Related NotEqual x y = x ≡ y → ⊥

abbrev pub related : Relation → ℤ → ℤ → Bool
related Greater x y = int_lt y x
related Less x y = int_lt x y
related Equal x y = int_le x y && int_le y x
related LessOrEqual x y = int_le x y
related GreaterOrEqual x y = int_le y x
related NotEqual x y = not (int_le x y && int_le y x)
