-- Encoding: the bytes that spell an instruction, by the words of decoding.
--
-- | word        | what it is                                                 |
-- |-------------|------------------------------------------------------------|
-- | `Bytes`     | that a list holds bytes                                    |
-- | `Spells`    | that bytes decode to an instruction, and no other bytes do |
-- | `Unspelled` | that no bytes decode to an instruction                     |
-- | `bytes_of`  | the bytes of an encoding                                   |
-- | `Encodes`   | what encoding an instruction answers                       |
use Rattle.std.specs.Prelude.{◌≡◌, ℕ, ◌<◌, List, take, Some, None, Ok, Option, ◌≢◌, slice_index}
use Rattle.isa.specs.Decoding.{decoded}
use Rattle.isa.specs.declared.encoding.Encoding.{Encoding}
use Rattle.isa.specs.declared.kinds.Instruction.{Instruction}

abbrev pub Bytes : List ℕ → Type 0
Bytes bs = (k : ℕ) → slice_index bs k < 256

pub record Spells (i : Instruction) (bs : List ℕ) : Type 0 where
  pub decodes : decoded bs ≡ Ok i
  pub only : (other : List ℕ) → Bytes other → decoded other ≡ Ok i → other ≡ bs

abbrev pub Unspelled : Instruction → Type 0
Unspelled i = (bs : List ℕ) → Bytes bs → decoded bs ≢ Ok i

abbrev pub bytes_of : Encoding → List ℕ
bytes_of e = take e.size e.bytes

abbrev pub Encodes : Instruction → Option Encoding → Type 0
Encodes i (Some e) = Spells i (bytes_of e)
Encodes i None = Unspelled i
