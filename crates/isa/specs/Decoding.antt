-- Decoding: which instruction a string of bytes is.
--
-- | word              | what it is                                         |
-- |-------------------|----------------------------------------------------|
-- | `displacement_in` | the displacement in the bytes after the fields     |
-- | `kind_in`         | the kind in a cell of the map, or why it has none  |
-- | `instruction`     | the instruction of a kind that bytes are           |
-- | `decoded_as`      | the same where the cell of the opcode is known     |
-- | `decoded`         | what bytes are: a carried instruction, or why none |
use Rattle.std.specs.Prelude.{ℕ, ◌+◌, ◌*◌, ◌/◌, ◌%◌, cond, List, length, drop, Ok, Err, Result, ◌==◌, nat_lt, slice_index}
use Rattle.isa.specs.declared.kinds.Kind.{Kind}
use Rattle.isa.specs.declared.kinds.Opcode.{Opcode}
use Rattle.isa.specs.declared.kinds.Opcode.TheVariants as opcode
use Rattle.isa.specs.declared.kinds.Instruction.{Instruction}
use Rattle.isa.specs.declared.kinds.Undecoded.{Undecoded}
use Rattle.isa.specs.declared.kinds.Undecoded.TheVariants.{Empty, NotCarried, Kernel, WrongLength}
use Rattle.isa.specs.Map.{opcode_at, length_at}
use Rattle.words.specs.Extension.{extended}

-- the number in the bytes after the fields: none in no bytes, 16 bits sign extended in two, 32 bits in four
abbrev pub displacement_in : List ℕ → ℕ
displacement_in d =
    cond (length d == 0) 0
    (cond (length d == 2) (extended 16 (slice_index d 0 * 256 + slice_index d 1))
    (slice_index d 0 * 16777216 + slice_index d 1 * 65536 + slice_index d 2 * 256 + slice_index d 3))

-- the kind in a cell of the map, or why it has none
abbrev pub kind_in : Opcode → Result Kind Undecoded
kind_in opcode.Empty = Err Empty
kind_in opcode.NotCarried = Err NotCarried
kind_in opcode.Kernel = Err Kernel
kind_in (opcode.Carried k) = Ok k

abbrev pub instruction : Kind → List ℕ → Instruction
instruction k bs =
    record { kind = k; size = length bs; x = slice_index bs 1 / 16; y = slice_index bs 1 % 16; displacement = displacement_in (drop 2 bs) }

abbrev pub decoded_as : Opcode → List ℕ → Result Instruction Undecoded
decoded_as opcode.Empty bs = Err Empty
decoded_as opcode.NotCarried bs = Err NotCarried
decoded_as opcode.Kernel bs = Err Kernel
decoded_as (opcode.Carried k) bs =
    cond (length bs == length_at (slice_index bs 0)) (Ok (instruction k bs)) (Err WrongLength)

-- the first two bytes tell the opcode and the fields; a carried opcode then wants exactly its length
abbrev pub decoded : List ℕ → Result Instruction Undecoded
decoded bs = cond (nat_lt (length bs) 2) (Err WrongLength) (decoded_as (opcode_at (slice_index bs 0)) bs)
