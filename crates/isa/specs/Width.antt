-- Width: the length of an operand in memory.
--
-- | word    | what it is                       |
-- |---------|----------------------------------|
-- | `sized` | one of four things, by the width |
use Rattle.isa.specs.declared.kinds.Width.{Width}
use Rattle.isa.specs.declared.kinds.Width.TheVariants.{Byte, Halfword, Word, Double}

abbrev pub sized : {X : Type 0} → Width → X → X → X → X → X
sized Byte a b c d = a
sized Halfword a b c d = b
sized Word a b c d = c
sized Double a b c d = d
