-- What writing answers.
--
-- Adds       where memory suffices, some bytes are added at the end
-- Counted    each section has at most 65,535 records
-- Short      a record is no fill of more than 65,535 bytes
-- total      the bytes of some records, without the counts
-- Fits       the image is within the limit
-- Writable   the records keep all four rules
-- Broken     what an error says of the records: its rule is broken, and those before it are kept
-- Writes     the bytes are the image, and reading them gives the records again
use Rattle.std.specs.Prelude.{All, ◌≡◌, ℕ, ◌+◌, ◌≤◌, List, [], ◌∷◌, ◌++◌, map, length, Ok, Err, Result}
use Rattle.image.specs.declared.errors.ReadError.{ReadError}
use Rattle.image.specs.declared.errors.WriteError.{WriteError}
use Rattle.image.specs.declared.errors.WriteError.TheVariants.{OutOfOrder, TooManyRecords, FillTooLong, ImageTooLong, Memory}
use Rattle.image.specs.declared.records.Placed.{Placed}
use Rattle.image.specs.declared.records.Record.{Record}
use Rattle.image.specs.declared.records.Record.TheVariants.{Fill}
use Rattle.image.specs.Format.{written, order, among, Ordered, image, bare}
use Rattle.image.specs.Reading.{Reads, Fails}

abbrev pub Adds : {E : Type 0} → List ℕ → List ℕ → List ℕ → Result (Unit {0}) E → Type 0
Adds old new bytes (Ok _) = new ≡ old ++ bytes
Adds old new bytes (Err _) = Unit {0}

abbrev pub Counted : List Record → Type 0
Counted rs = All (λ s. length (among s rs) ≤ 65535) order

abbrev pub Short : Record → Type 0
Short (Fill f) = length f.bytes.now ≤ 65535
Short _ = Unit {0}

abbrev pub total : List Record → ℕ
total [] = 0
total (r ∷ rs) = length (written r) + total rs

abbrev pub Fits : List Record → Type 0
Fits rs = length (image rs) ≤ 16384

pub record Writable (rs : List Record) : Type 0 where
  pub ordered : Ordered rs
  pub counted : Counted rs
  pub short : All Short rs
  pub fits : Fits rs

abbrev pub Broken : List Record → WriteError → Type 0
Broken rs OutOfOrder = Ordered rs → ⊥
Broken rs TooManyRecords = Ordered rs × (Counted rs → ⊥)
Broken rs FillTooLong = Ordered rs × Counted rs × (All Short rs → ⊥)
Broken rs ImageTooLong = Ordered rs × Counted rs × All Short rs × (Fits rs → ⊥)
Broken rs Memory = Writable rs

pub record Writes (rs : List Record) (bs : List ℕ) : Type 0 where
  pub writable : Writable rs
  pub imaged : bs ≡ image rs
  pub back : (items : List Placed) → Reads bs items → map (λ x. bare x.«record») items ≡ map bare rs
  pub taken : (e : ReadError) → Fails bs e → e ≡ ReadError.Memory
