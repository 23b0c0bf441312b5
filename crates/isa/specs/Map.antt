-- The opcode map: sixteen rows by the opcode's first digit, sixteen cells by its second, and the length rule.
--
-- | word        | what it is                                          |
-- |-------------|-----------------------------------------------------|
-- | `rows`      | the sixteen rows of the map                         |
-- | `opcode_at` | the cell of an opcode                               |
-- | `length_of` | how many bytes a cell at an opcode takes            |
-- | `length_at` | how many bytes an opcode takes, 0 where it is empty |
-- | `Ruled`     | the length and format rule of a row                 |
use Rattle.std.specs.Prelude.{◌≡◌, ℕ, ◌/◌, ◌%◌, ◌<◌, List, [], ◌∷◌, slice_index_or}
use Rattle.isa.specs.Formats.{Formatted, size_at}
use Rattle.isa.specs.declared.kinds.Side.{Side}
use Rattle.isa.specs.declared.kinds.Side.TheVariants.{Code, Data}
use Rattle.words.specs.declared.relations.Relation.{Relation}
use Rattle.words.specs.declared.relations.Relation.TheVariants.{Greater, Less, Equal, LessOrEqual, GreaterOrEqual, NotEqual}
use Rattle.isa.specs.declared.kinds.Second.{Second}
use Rattle.isa.specs.declared.kinds.Second.TheVariants.{Register, Field}
use Rattle.isa.specs.declared.kinds.Width.{Width}
use Rattle.isa.specs.declared.kinds.Width.TheVariants.{Byte, Halfword, Word, Double}
use Rattle.isa.specs.declared.kinds.Indexing.{Indexing}
use Rattle.isa.specs.declared.kinds.Indexing.TheVariants.{Direct, Indexed}
use Rattle.isa.specs.declared.kinds.Kind.{Kind}
use Rattle.isa.specs.declared.kinds.Kind.TheVariants.{Move, Neg, Add, Sub, Mpy, Div, Rem, Not, Or, Xor, And, Cbit, Sbit, Tbit, Chk, Nop, Lcomp, Dcomp, Trap, Test, Callr, Ret, Kcall, Lsl, Lsr, Asl, Asr, Dlsl, Dlsr, Csl, Seb, Seh, Branch, Jump, Call, Loop, Store, Load, Laddr}
use Rattle.isa.specs.declared.kinds.Opcode.{Opcode}
use Rattle.isa.specs.declared.kinds.Opcode.TheVariants.{Empty, NotCarried, Kernel, Carried}

-- short names for the cells of the rows below
abbrev is : Kind → Opcode
is k = Carried k

abbrev reg : (Second → Kind) → Opcode
reg k = Carried (k Register)

abbrev imm : (Second → Kind) → Opcode
imm k = Carried (k Field)

abbrev branch : Relation → Second → Opcode
branch r s = Carried (Branch r s)

abbrev test : Relation → Second → Opcode
test r s = Carried (Test r s)

abbrev store : Width → Indexing → Opcode
store w i = Carried (Store w i)

abbrev load : Side → Width → Indexing → Opcode
load s w i = Carried (Load s w i)

abbrev laddr : Side → Indexing → Opcode
laddr s i = Carried (Laddr s i)

-- rows 8 and 9: branches, short and long
abbrev branches : List Opcode
branches =
    branch Greater Register ∷ Empty ∷ branch Equal Register ∷ is Call
    ∷ branch Greater Field ∷ branch Less Field ∷ branch Equal Field ∷ is Loop
    ∷ branch LessOrEqual Register ∷ Empty ∷ branch NotEqual Register ∷ is Jump
    ∷ branch LessOrEqual Field ∷ branch GreaterOrEqual Field ∷ branch NotEqual Field ∷ Empty ∷ []

-- rows A and B: stores, short and long
abbrev stores : List Opcode
stores =
    store Byte Direct ∷ store Byte Indexed ∷ store Halfword Direct ∷ store Halfword Indexed
    ∷ Empty ∷ Empty ∷ store Word Direct ∷ store Word Indexed
    ∷ store Double Direct ∷ store Double Indexed ∷ Empty ∷ Empty
    ∷ Empty ∷ Empty ∷ Empty ∷ Empty ∷ []

-- rows C and D on the data side, E and F on the code side: loads, short and long
abbrev loads : Side → List Opcode
loads s =
    load s Byte Direct ∷ load s Byte Indexed ∷ load s Halfword Direct ∷ load s Halfword Indexed
    ∷ Empty ∷ Empty ∷ load s Word Direct ∷ load s Word Indexed
    ∷ load s Double Direct ∷ load s Double Indexed ∷ Empty ∷ Empty
    ∷ Empty ∷ Empty ∷ laddr s Direct ∷ laddr s Indexed ∷ []

abbrev pub rows : List (List Opcode)
rows =
    (Empty ∷ reg Move ∷ is Neg ∷ reg Add ∷ reg Sub ∷ reg Mpy ∷ is Div ∷ is Rem
    ∷ reg Not ∷ is Or ∷ is Xor ∷ reg And ∷ is Cbit ∷ is Sbit ∷ is Tbit ∷ reg Chk ∷ [])
    ∷ (is Nop ∷ imm Move ∷ Empty ∷ imm Add ∷ imm Sub ∷ imm Mpy ∷ Empty ∷ Empty
    ∷ imm Not ∷ Empty ∷ Empty ∷ imm And ∷ Empty ∷ Empty ∷ Empty ∷ imm Chk ∷ [])
    ∷ (NotCarried ∷ NotCarried ∷ NotCarried ∷ NotCarried ∷ NotCarried ∷ NotCarried ∷ NotCarried ∷ NotCarried
    ∷ is Lcomp ∷ NotCarried ∷ NotCarried ∷ Empty ∷ NotCarried ∷ NotCarried ∷ NotCarried ∷ NotCarried ∷ [])
    ∷ (NotCarried ∷ NotCarried ∷ NotCarried ∷ NotCarried ∷ NotCarried ∷ NotCarried ∷ NotCarried ∷ NotCarried
    ∷ is Dcomp ∷ NotCarried ∷ NotCarried ∷ is Trap ∷ Empty ∷ Empty ∷ Empty ∷ Empty ∷ [])
    ∷ (Kernel ∷ Kernel ∷ Kernel ∷ Kernel ∷ Kernel ∷ Kernel ∷ Kernel ∷ Kernel
    ∷ Empty ∷ Empty ∷ Empty ∷ Empty ∷ Kernel ∷ Empty ∷ Kernel ∷ Kernel ∷ [])
    ∷ (test Greater Register ∷ test Less Register ∷ test Equal Register ∷ is Callr
    ∷ test Greater Field ∷ test Less Field ∷ test Equal Field ∷ is Ret
    ∷ test LessOrEqual Register ∷ test GreaterOrEqual Register ∷ test NotEqual Register ∷ is Kcall
    ∷ test LessOrEqual Field ∷ test GreaterOrEqual Field ∷ test NotEqual Field ∷ Empty ∷ [])
    ∷ (reg Lsl ∷ reg Lsr ∷ reg Asl ∷ reg Asr ∷ reg Dlsl ∷ reg Dlsr ∷ Empty ∷ Empty
    ∷ reg Csl ∷ Empty ∷ is Seb ∷ Empty ∷ Empty ∷ Empty ∷ Empty ∷ Empty ∷ [])
    ∷ (imm Lsl ∷ imm Lsr ∷ imm Asl ∷ imm Asr ∷ imm Dlsl ∷ imm Dlsr ∷ Empty ∷ Empty
    ∷ imm Csl ∷ Empty ∷ is Seh ∷ Empty ∷ Empty ∷ Empty ∷ Empty ∷ Empty ∷ [])
    ∷ branches ∷ branches ∷ stores ∷ stores ∷ loads Data ∷ loads Data ∷ loads Code ∷ loads Code ∷ []

-- the cell in row op / 16 and column op mod 16
unfoldable pub opcode_at : ℕ → Opcode
opcode_at op = slice_index_or (slice_index_or rows (op / 16) []) (op % 16) Empty

-- a defined opcode takes the bytes of its size, an empty one none
abbrev pub length_of : Opcode → ℕ → ℕ
length_of Empty op = 0
length_of NotCarried op = size_at op
length_of Kernel op = size_at op
length_of (Carried k) op = size_at op

abbrev pub length_at : ℕ → ℕ
length_at op = length_of (opcode_at op) op

-- the length and format rule of a row of the table
abbrev pub Ruled : ℕ → Opcode → ℕ → Type 0
Ruled op Empty n = n ≡ 0
Ruled op NotCarried n = (op < 0x80) × (n ≡ 2)
Ruled op Kernel n = (op < 0x80) × (n ≡ 2)
Ruled op (Carried k) n = Formatted op k n
