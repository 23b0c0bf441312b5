-- What `decoded` gives where the opcode is a carried one.
use Rattle.std.proofs.Common.{◌≡◌, ℕ, ◌≤◌, Bool, cond, eqb, List, length, get_or, Ok, Err, le-ltb}
use Rattle.isa.specs.Decoding.{decoded, instruction}
use Rattle.isa.specs.Formats.{size_at}
use Rattle.isa.specs.Map.{opcode_at}
use Rattle.isa.specs.declared.kinds.Kind.{Kind}
use Rattle.isa.specs.declared.kinds.Opcode.TheVariants.{Carried}
use Rattle.isa.specs.declared.kinds.Undecoded.TheVariants.{WrongLength}

-- whether the bytes are as many as their opcode takes
abbrev pub whole : List ℕ → Bool
whole bs = eqb (length bs) (size_at (get_or bs 0 0))

pub carried : (bs : List ℕ) (k : Kind) → 2 ≤ length bs → opcode_at (get_or bs 0 0) ≡ Carried k →
    decoded bs ≡ cond (whole bs) (Ok (instruction k bs)) (Err WrongLength)
carried bs k h e = let some = le-ltb (length bs) 2 h in cc
