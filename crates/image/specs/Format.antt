-- How records are written as an image.
--
-- half, word   a number of 16 bits, of 32 bits: its bytes, the most significant first
-- written      the bytes of a record
-- section_of   the section that a record belongs to
-- order        the sections, in their order
-- number       the place of a section in that order
-- among        those records of a list that belong to a section
-- sections     the five sections of a list of records
-- Ordered      the list has its records in the order of the sections
-- flat         lists put one after another
-- block        the parts of a section: its count, then its records
-- parts        the parts of an image
-- image        the bytes of an image
-- places       each record of a section, with the offset at which it is written
-- stand        the same for several sections
-- placed       the same for an image
-- bare         a record, but for where in memory the bytes of a fill lie
use Rattle.std.specs.Prelude.{◌≡◌, ℕ, ◌+◌, ◌/◌, ◌%◌, List, [], ◌∷◌, ◌++◌, map, length, filter, nat_eq}
use Rattle.std.specs.List.{flat_map}
use Rattle.isa.specs.Sides.{side_number}
use Rattle.image.specs.declared.records.Placed.{Placed}
use Rattle.image.specs.declared.records.Record.{Record}
use Rattle.image.specs.declared.records.Record.TheVariants.{Admit, Grant, Fill, Put, Run}
use Rattle.image.specs.declared.records.Section.{Section}
use Rattle.image.specs.declared.records.Section.TheVariants.{Admissions, Grants, Fills, Puts, Runs}

abbrev pub half : ℕ → List ℕ
half n = n / 256 ∷ n % 256 ∷ []

abbrev pub word : ℕ → List ℕ
word n = half (n / 65536) ++ half (n % 65536)

abbrev pub written : Record → List ℕ
written (Admit a) = half a.p ++ half a.first ++ half a.count
written (Grant g) = half g.p ++ half (side_number g.side) ++ word g.page ++ half g.k
written (Fill f) = half f.p ++ half f.k ++ half f.offset ++ half (length f.bytes.now) ++ f.bytes.now
written (Put u) = half u.p ++ half u.r ++ word u.value
written (Run e) = half e.p ++ word e.n

abbrev pub section_of : Record → Section
section_of (Admit a) = Admissions
section_of (Grant g) = Grants
section_of (Fill f) = Fills
section_of (Put u) = Puts
section_of (Run e) = Runs

abbrev pub order : List Section
order = Admissions ∷ Grants ∷ Fills ∷ Puts ∷ Runs ∷ []

abbrev pub number : Section → ℕ
number Admissions = 0
number Grants = 1
number Fills = 2
number Puts = 3
number Runs = 4

abbrev pub among : Section → List Record → List Record
among s rs = filter (λ r. nat_eq (number (section_of r)) (number s)) rs

abbrev pub sections : List Record → List (List Record)
sections rs = map (λ s. among s rs) order

abbrev pub flat : {X : Type 0} → List (List X) → List X
flat xss = flat_map (λ xs. xs) xss

abbrev pub Ordered : List Record → Type 0
Ordered rs = flat (sections rs) ≡ rs

abbrev pub block : List Record → List (List ℕ)
block rs = half (length rs) ∷ map written rs

abbrev pub parts : List Record → List (List ℕ)
parts rs = flat_map block (sections rs)

abbrev pub image : List Record → List ℕ
image rs = flat (parts rs)

abbrev pub places : ℕ → List Record → List Placed
places o [] = []
places o (r ∷ rs) = record { offset = o; «record» = r } ∷ places (o + length (written r)) rs

abbrev pub stand : ℕ → List (List Record) → List Placed
stand o [] = []
stand o (rs ∷ rss) = places (o + 2) rs ++ stand (o + length (flat (block rs))) rss

abbrev pub placed : List Record → List Placed
placed rs = stand 0 (sections rs)

abbrev pub bare : Record → Record
bare (Admit a) = Admit a
bare (Grant g) = Grant g
bare (Fill f) = Fill (record { p = f.p; k = f.k; offset = f.offset; bytes = record { ref_ptr = (0, 0); now = f.bytes.now } })
bare (Put u) = Put u
bare (Run e) = Run e
