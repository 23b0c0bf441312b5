-- Opcodes: the opcode of each kind of instruction, the map read the other way.
--
-- | word        | what it is                                                        |
-- |-------------|-------------------------------------------------------------------|
-- | `column`    | the column of a relation among tests and branches                 |
-- | `beside`    | how far an indexed form stands behind the direct one              |
-- | `place`     | the column of an operand's width and indexing                     |
-- | `opcode_of` | the opcode of a kind, in its short form where it has two, or none |
use Rattle.std.specs.Prelude.{ℕ, ◌+◌, Some, None, Option}
use Rattle.isa.specs.declared.kinds.Indexing.{Indexing}
use Rattle.isa.specs.declared.kinds.Indexing.TheVariants.{Direct, Indexed}
use Rattle.isa.specs.declared.kinds.Kind.{Kind}
use Rattle.isa.specs.declared.kinds.Kind.TheVariants.{Move, Neg, Add, Sub, Mpy, Div, Rem, Not, Or, Xor, And, Cbit, Sbit, Tbit, Chk, Nop, Lcomp, Dcomp, Trap, Test, Callr, Ret, Kcall, Lsl, Lsr, Asl, Asr, Dlsl, Dlsr, Csl, Seb, Seh, Branch, Jump, Call, Loop, Store, Load, Laddr}
use Rattle.isa.specs.Second.{picked}
use Rattle.isa.specs.Width.{sized}
use Rattle.words.specs.declared.relations.Relation.{Relation}
use Rattle.words.specs.declared.relations.Relation.TheVariants.{Greater, Less, Equal, LessOrEqual, GreaterOrEqual, NotEqual}
use Rattle.isa.specs.declared.kinds.Second.TheVariants.{Register, Field}
use Rattle.isa.specs.declared.kinds.Side.TheVariants.{Code, Data}
use Rattle.isa.specs.declared.kinds.Width.{Width}

abbrev pub column : Relation → ℕ
column Greater = 0
column Less = 1
column Equal = 2
column LessOrEqual = 8
column GreaterOrEqual = 9
column NotEqual = 10

abbrev pub beside : Indexing → ℕ
beside Direct = 0
beside Indexed = 1

abbrev pub place : Width → Indexing → ℕ
place w i = sized w 0 2 6 8 + beside i

abbrev pub opcode_of : Kind → Option ℕ
opcode_of (Move s) = Some (0x01 + picked s 0 16)
opcode_of Neg = Some 0x02
opcode_of (Add s) = Some (0x03 + picked s 0 16)
opcode_of (Sub s) = Some (0x04 + picked s 0 16)
opcode_of (Mpy s) = Some (0x05 + picked s 0 16)
opcode_of Div = Some 0x06
opcode_of Rem = Some 0x07
opcode_of (Not s) = Some (0x08 + picked s 0 16)
opcode_of Or = Some 0x09
opcode_of Xor = Some 0x0a
opcode_of (And s) = Some (0x0b + picked s 0 16)
opcode_of Cbit = Some 0x0c
opcode_of Sbit = Some 0x0d
opcode_of Tbit = Some 0x0e
opcode_of (Chk s) = Some (0x0f + picked s 0 16)
opcode_of Nop = Some 0x10
opcode_of Lcomp = Some 0x28
opcode_of Dcomp = Some 0x38
opcode_of Trap = Some 0x3b
opcode_of (Test r s) = Some (0x50 + column r + picked s 0 4)
opcode_of Callr = Some 0x53
opcode_of Ret = Some 0x57
opcode_of Kcall = Some 0x5b
opcode_of (Lsl s) = Some (0x60 + picked s 0 16)
opcode_of (Lsr s) = Some (0x61 + picked s 0 16)
opcode_of (Asl s) = Some (0x62 + picked s 0 16)
opcode_of (Asr s) = Some (0x63 + picked s 0 16)
opcode_of (Dlsl s) = Some (0x64 + picked s 0 16)
opcode_of (Dlsr s) = Some (0x65 + picked s 0 16)
opcode_of (Csl s) = Some (0x68 + picked s 0 16)
opcode_of Seb = Some 0x6a
opcode_of Seh = Some 0x7a
opcode_of (Branch r Field) = Some (0x80 + column r + 4)
opcode_of (Branch Greater Register) = Some (0x80 + column Greater)
opcode_of (Branch Less Register) = None
opcode_of (Branch Equal Register) = Some (0x80 + column Equal)
opcode_of (Branch LessOrEqual Register) = Some (0x80 + column LessOrEqual)
opcode_of (Branch GreaterOrEqual Register) = None
opcode_of (Branch NotEqual Register) = Some (0x80 + column NotEqual)
opcode_of Jump = Some 0x8b
opcode_of Call = Some 0x83
opcode_of Loop = Some 0x87
opcode_of (Store w i) = Some (0xa0 + place w i)
opcode_of (Load Data w i) = Some (0xc0 + place w i)
opcode_of (Load Code w i) = Some (0xe0 + place w i)
opcode_of (Laddr Data i) = Some (0xce + beside i)
opcode_of (Laddr Code i) = Some (0xee + beside i)
