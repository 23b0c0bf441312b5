-- Parts: how the bytes of a code fill fall into instructions and bytes that are none.
--
-- | word         | what it is                                                                                                      |
-- |--------------|-----------------------------------------------------------------------------------------------------------------|
-- | `Right`      | that bytes at an address are what their content says, with some bytes after them                                |
-- | `content_of` | the content of bytes at an even address, by their decoding                                                      |
-- | `Begins`     | that the first part of some bytes has a number of bytes and a content                                           |
-- | `Leads`      | that a part is the first of some bytes at an address, and which bytes follow it                                 |
-- | `Covers`     | that parts, one after another, are all of some bytes                                                            |
-- | `GivesPart`  | that the first part of bytes at an address is given, or nothing where there are no bytes, and where the rest is |
use Rattle.std.specs.Prelude.{◌≡◌, ℕ, ◌+◌, ◌%◌, ◌<◌, ◌≤◌, max, List, [], ◌∷◌, ◌++◌, length, take, drop, Ok, Err, Option, Result, MatchOption, slice_index}
use Rattle.isa.specs.Decoding.{decoded}
use Rattle.isa.specs.Map.{length_at}
use Rattle.isa.specs.declared.kinds.Instruction.{Instruction}
use Rattle.isa.specs.declared.kinds.Undecoded.{Undecoded}
use Rattle.isa.specs.declared.kinds.Undecoded.TheVariants as undecoded
use Rattle.report.specs.declared.parts.Content.{Content}
use Rattle.report.specs.declared.parts.Content.TheVariants.{Carried, Empty, NotCarried, Kernel, Cut, Odd}
use Rattle.report.specs.declared.parts.Part.{Part}

-- an instruction begins at an even address; what has no length of its own has two bytes;
-- a start that is cut is all that is left, and less than its opcode takes
abbrev pub Right : ℕ → List ℕ → Content → List ℕ → Type 0
Right a bs (Carried i) rest = (a % 2 ≡ 0) × (decoded bs ≡ Ok i)
Right a bs Empty rest = (a % 2 ≡ 0) × (length bs ≡ 2) × (decoded bs ≡ Err undecoded.Empty)
Right a bs NotCarried rest = (a % 2 ≡ 0) × (length bs ≡ 2) × (decoded bs ≡ Err undecoded.NotCarried)
Right a bs Kernel rest = (a % 2 ≡ 0) × (length bs ≡ 2) × (decoded bs ≡ Err undecoded.Kernel)
Right a bs Cut rest = (a % 2 ≡ 0) × (length bs < max 2 (length_at (slice_index bs 0))) × (rest ≡ [])
Right a bs Odd rest = (a % 2 ≡ 1) × (length bs ≡ 1)

abbrev pub content_of : Result Instruction Undecoded → Content
content_of (Ok i) = Carried i
content_of (Err undecoded.Empty) = Empty
content_of (Err undecoded.NotCarried) = NotCarried
content_of (Err undecoded.Kernel) = Kernel
content_of (Err undecoded.WrongLength) = Cut

pub record Begins (a : ℕ) (bs : List ℕ) (n : ℕ) (c : Content) : Type 0 where
  pub some : 0 < n
  pub within : n ≤ length bs
  pub right : Right a (take n bs) c (drop n bs)

pub record Leads (a : ℕ) (bs : List ℕ) (p : Part) (rest : List ℕ) : Type 0 where
  pub address : p.address ≡ a
  pub bytes : bs ≡ p.bytes.now ++ rest
  pub some : 0 < length p.bytes.now
  pub right : Right a p.bytes.now p.content rest

abbrev pub Covers : ℕ → List ℕ → List Part → Type 0
Covers a bs [] = bs ≡ []
Covers a bs (p ∷ ps) = (rest : List ℕ) × Leads a bs p rest × Covers (a + length p.bytes.now) rest ps

abbrev pub GivesPart : ℕ → List ℕ → ℕ → List ℕ → Option Part → Type 0
GivesPart a bs b rest r = MatchOption r (bs ≡ []) (λ p. Leads a bs p rest × (b ≡ a + length p.bytes.now))
