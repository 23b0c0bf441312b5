-- Formats: how the instructions of a kind are laid out.
--
-- | word        | what it is                                                 |
-- |-------------|------------------------------------------------------------|
-- | `shape_of`  | the shape of the instructions of a kind                    |
-- | `displaced` | whether a shape has a displacement                         |
-- | `LastBit`   | what the last bit of the opcode says of an address         |
-- | `size_at`   | the size of an instruction by its opcode                   |
-- | `Formatted` | the length and format rule for a carried kind at an opcode |
use Rattle.std.specs.Prelude.{◌≡◌, ℕ, ◌%◌, Bool, true, false, cond, not, nat_lt}
use Rattle.isa.specs.declared.kinds.Indexing.TheVariants.{Direct, Indexed}
use Rattle.isa.specs.declared.kinds.Kind.{Kind}
use Rattle.isa.specs.declared.kinds.Kind.TheVariants as kind
use Rattle.isa.specs.declared.kinds.Kind.TheVariants.{Move, Neg, Add, Sub, Mpy, Div, Rem, Not, Or, Xor, And, Cbit, Sbit, Tbit, Chk, Nop, Lcomp, Dcomp, Trap, Test, Callr, Ret, Kcall, Lsl, Lsr, Asl, Asr, Dlsl, Dlsr, Csl, Seb, Seh, Store, Load, Laddr}
use Rattle.isa.specs.declared.kinds.Second.TheVariants.{Register}
use Rattle.isa.specs.declared.kinds.Shape.{Shape}
use Rattle.isa.specs.declared.kinds.Shape.TheVariants.{Bare, Number, Entry, Pair, Compare, Branch, Jump, Call, Loop, Memory}

abbrev pub shape_of : Kind → Shape
shape_of (Move s) = Pair s
shape_of Neg = Pair Register
shape_of (Add s) = Pair s
shape_of (Sub s) = Pair s
shape_of (Mpy s) = Pair s
shape_of Div = Pair Register
shape_of Rem = Pair Register
shape_of (Not s) = Pair s
shape_of Or = Pair Register
shape_of Xor = Pair Register
shape_of (And s) = Pair s
shape_of Cbit = Pair Register
shape_of Sbit = Pair Register
shape_of Tbit = Pair Register
shape_of (Chk s) = Pair s
shape_of Nop = Bare
shape_of Lcomp = Pair Register
shape_of Dcomp = Pair Register
shape_of Trap = Number
shape_of (Test r s) = Compare r s
shape_of Callr = Pair Register
shape_of Ret = Pair Register
shape_of Kcall = Entry
shape_of (Lsl s) = Pair s
shape_of (Lsr s) = Pair s
shape_of (Asl s) = Pair s
shape_of (Asr s) = Pair s
shape_of (Dlsl s) = Pair s
shape_of (Dlsr s) = Pair s
shape_of (Csl s) = Pair s
shape_of Seb = Pair Register
shape_of Seh = Pair Register
shape_of (kind.Branch r s) = Branch r s
shape_of kind.Jump = Jump
shape_of kind.Call = Call
shape_of kind.Loop = Loop
shape_of (Store w i) = Memory i
shape_of (Load s w i) = Memory i
shape_of (Laddr s i) = Memory i

abbrev pub displaced : Shape → Bool
displaced (Branch r s) = true
displaced Jump = true
displaced Call = true
displaced Loop = true
displaced (Memory i) = true
displaced _ = false

-- for the shapes with an address, the last bit of the opcode tells whether Ry is added
abbrev pub LastBit : Shape → ℕ → Type 0
LastBit (Memory Direct) op = op % 2 ≡ 0
LastBit (Memory Indexed) op = op % 2 ≡ 1
LastBit _ _ = Unit {0}

-- two bytes below 80h; from 80h up four in an even row of the map, six in an odd one
abbrev pub size_at : ℕ → ℕ
size_at op = cond (nat_lt op 0x80) 2 (cond (nat_lt (op % 32) 16) 4 6)

pub record Formatted (op : ℕ) (k : Kind) (size : ℕ) : Type 0 where
  pub half : displaced (shape_of k) ≡ not (nat_lt op 0x80)
  pub last_bit : LastBit (shape_of k) op
  pub long : size ≡ size_at op
