-- Text: how an instruction is written.
--
-- | word        | what it is                                   |
-- |-------------|----------------------------------------------|
-- | `mnemonic`  | the name of a kind                           |
-- | `sign`      | a relation                                   |
-- | `operand`   | a second operand: a register or a number     |
-- | `distance`  | a displacement, as a signed number           |
-- | `address`   | the address of an operand in memory          |
-- | `operands`  | what follows the mnemonic                    |
-- | `text`      | the whole text of an instruction             |
use Rattle.std.specs.Prelude.{ℕ, ◌+◌, ◌-◌, ◌*◌, cond, List, [], ◌++◌, codes, decimal, nat_lt}
use Rattle.isa.specs.Formats.{shape_of}
use Rattle.isa.specs.declared.kinds.Indexing.{Indexing}
use Rattle.isa.specs.declared.kinds.Indexing.TheVariants.{Direct, Indexed}
use Rattle.isa.specs.declared.kinds.Instruction.{Instruction}
use Rattle.isa.specs.declared.kinds.Kind.{Kind}
use Rattle.isa.specs.declared.kinds.Kind.TheVariants as kind
use Rattle.isa.specs.declared.kinds.Kind.TheVariants.{Move, Neg, Add, Sub, Mpy, Div, Rem, Not, Or, Xor, And, Cbit, Sbit, Tbit, Chk, Nop, Lcomp, Dcomp, Trap, Test, Callr, Ret, Kcall, Lsl, Lsr, Asl, Asr, Dlsl, Dlsr, Csl, Seb, Seh, Store, Load, Laddr}
use Rattle.isa.specs.Second.{picked}
use Rattle.isa.specs.Width.{sized}
use Rattle.isa.specs.declared.kinds.Second.{Second}
use Rattle.isa.specs.declared.kinds.Second.TheVariants.{Register, Field}
use Rattle.words.specs.declared.relations.Relation.{Relation}
use Rattle.words.specs.declared.relations.Relation.TheVariants.{Greater, Less, Equal, LessOrEqual, GreaterOrEqual, NotEqual}
use Rattle.isa.specs.declared.kinds.Shape.{Shape}
use Rattle.isa.specs.declared.kinds.Shape.TheVariants.{Bare, Number, Entry, Pair, Compare, Branch, Jump, Call, Loop, Memory}
use Rattle.isa.specs.declared.kinds.Side.TheVariants.{Code, Data}

abbrev pub mnemonic : Kind → List ℕ
mnemonic (Move s) = picked s (codes "MOVE") (codes "MOVEI")
mnemonic Neg = codes "NEG"
mnemonic (Add s) = picked s (codes "ADD") (codes "ADDI")
mnemonic (Sub s) = picked s (codes "SUB") (codes "SUBI")
mnemonic (Mpy s) = picked s (codes "MPY") (codes "MPYI")
mnemonic Div = codes "DIV"
mnemonic Rem = codes "REM"
mnemonic (Not s) = picked s (codes "NOT") (codes "NOTI")
mnemonic Or = codes "OR"
mnemonic Xor = codes "XOR"
mnemonic (And s) = picked s (codes "AND") (codes "ANDI")
mnemonic Cbit = codes "CBIT"
mnemonic Sbit = codes "SBIT"
mnemonic Tbit = codes "TBIT"
mnemonic (Chk s) = picked s (codes "CHK") (codes "CHKI")
mnemonic Nop = codes "NOP"
mnemonic Lcomp = codes "LCOMP"
mnemonic Dcomp = codes "DCOMP"
mnemonic Trap = codes "TRAP"
mnemonic (Test r s) = picked s (codes "TEST") (codes "TESTI")
mnemonic Callr = codes "CALLR"
mnemonic Ret = codes "RET"
mnemonic Kcall = codes "KCALL"
mnemonic (Lsl s) = picked s (codes "LSL") (codes "LSLI")
mnemonic (Lsr s) = picked s (codes "LSR") (codes "LSRI")
mnemonic (Asl s) = picked s (codes "ASL") (codes "ASLI")
mnemonic (Asr s) = picked s (codes "ASR") (codes "ASRI")
mnemonic (Dlsl s) = picked s (codes "DLSL") (codes "DLSLI")
mnemonic (Dlsr s) = picked s (codes "DLSR") (codes "DLSRI")
mnemonic (Csl s) = picked s (codes "CSL") (codes "CSLI")
mnemonic Seb = codes "SEB"
mnemonic Seh = codes "SEH"
mnemonic (kind.Branch r s) = codes "BR"
mnemonic kind.Jump = codes "BR"
mnemonic kind.Call = codes "CALL"
mnemonic kind.Loop = codes "LOOP"
mnemonic (Store w i) = sized w (codes "STOREB") (codes "STOREH") (codes "STORE") (codes "STORED")
mnemonic (Load Data w i) = sized w (codes "LOADB") (codes "LOADH") (codes "LOAD") (codes "LOADD")
mnemonic (Load Code w i) = sized w (codes "LOADBP") (codes "LOADHP") (codes "LOADP") (codes "LOADDP")
mnemonic (Laddr Data i) = codes "LADDR"
mnemonic (Laddr Code i) = codes "LADDRP"

abbrev pub sign : Relation → List ℕ
sign Greater = codes ">"
sign Less = codes "<"
sign Equal = codes "="
sign LessOrEqual = codes "<="
sign GreaterOrEqual = codes ">="
sign NotEqual = codes "<>"

-- a register by its number, or the number of the field
abbrev pub operand : Second → ℕ → List ℕ
operand Register y = codes "R" ++ decimal y
operand Field y = decimal y

-- a word as a signed number
abbrev pub distance : ℕ → List ℕ
distance w = cond (nat_lt w 0x80000000) (decimal w) (codes "-" ++ decimal (0x100000000 - w))

abbrev pub address : Indexing → ℕ → ℕ → List ℕ
address Direct y w = distance w
address Indexed y w =
    codes "R" ++ (decimal y ++ cond (nat_lt w 0x80000000) (codes " + " ++ decimal w) (codes " - " ++ decimal (0x100000000 - w)))

-- what follows the mnemonic: the fields x and y and the displacement w in the notation of the shape
abbrev pub operands : Shape → ℕ → ℕ → ℕ → List ℕ
operands Bare x y w = []
operands Number x y w = codes " " ++ decimal y
operands Entry x y w = codes " " ++ decimal (x * 16 + y)
operands (Pair s) x y w = codes " R" ++ (decimal x ++ (codes ", " ++ operand s y))
operands (Compare r s) x y w = codes " R" ++ (decimal x ++ (codes " " ++ (sign r ++ (codes " " ++ operand s y))))
operands (Branch r s) x y w =
    codes " R" ++ (decimal x ++ (codes " " ++ (sign r ++ (codes " " ++ (operand s y ++ (codes ", " ++ distance w))))))
operands Jump x y w = codes " " ++ distance w
operands Call x y w = codes " R" ++ (decimal x ++ (codes ", " ++ distance w))
operands Loop x y w = codes " R" ++ (decimal x ++ (codes ", " ++ (decimal y ++ (codes ", " ++ distance w))))
operands (Memory i) x y w = codes " R" ++ (decimal x ++ (codes ", " ++ address i y w))

abbrev pub text : Instruction → List ℕ
text i = mnemonic i.kind ++ operands (shape_of i.kind) i.x i.y i.displacement
