-- Second: what the Ry field gives as second operand.
--
-- | word     | what it is                                                           |
-- |----------|----------------------------------------------------------------------|
-- | `picked` | one of two things: the first for a register, the second for a field  |
use Rattle.isa.specs.declared.kinds.Second.{Second}
use Rattle.isa.specs.declared.kinds.Second.TheVariants.{Register, Field}

abbrev pub picked : {X : Type 0} → Second → X → X → X
picked Register a b = a
picked Field a b = b
